-- What refusals 5 and 6 need of the index of variants, and what they ask of one binding and one generated term. Assumes nothing: these are definitions.
use Rattle.std.specs.Prelude.{ℕ, ◌-◌, ◌≤◌, ◌≡◌, true, Bool, ◌&&◌, List, eqb, ltb, length, get_or, Option, MatchOption}
use Rattle.literal.specs.BuiltinType.{all}
use Rattle.plan.specs.Plan.{Environment, Generated}
use Rattle.plan.specs.Binding.{BindingRow}
use Rattle.plan.specs.Lookup.{type_at}
use Rattle.plan.specs.Refusal.{type_exists, every, binding_refers, source_count, arm_length_fits}
use Rattle.view.specs.Buffers.{Undeclared}
use Rattle.view.specs.Told.{type_told}
use Rattle.view.specs.declared.environment.TypeData.{TypeData}
use Rattle.view.specs.Index.{VariantIndex}

-- there are at most 256 types with the builtins, and their variants are indexed
pub record Ready (words rows tables index : List ℕ) : Type 0 where
  pub few : get_or tables 5 0 - get_or tables 4 0 ≤ 256 - length all
  pub index_is : VariantIndex words rows tables index

-- the type n, whatever the words of its list are, if there is one that is no builtin one
abbrev pub Declares : Environment → ℕ → Option TypeData → Type 0
Declares e n t = MatchOption t (Undeclared e n) (λ t. (type_exists e n ≡ true) × ((ws : List ℕ) × (type_told t ws ≡ type_at e n)))

-- refusal 5 of a binding: all that it names exists, of a generated term with so many arguments and n bindings
abbrev pub binding_row_refers : Environment → ℕ → ℕ → BindingRow → Bool
binding_row_refers e args n b = binding_refers e args b.binding && every (λ q. ltb q n) b.sources

-- refusal 6 of a binding and of a generated term
abbrev pub binding_length_fits : Environment → BindingRow → Bool
binding_length_fits e b = eqb (length b.sources) (source_count e b.binding)

abbrev pub generated_fits : Environment → Generated → Bool
generated_fits e g = every (binding_length_fits e) g.bindings && every (arm_length_fits e) g.rows
