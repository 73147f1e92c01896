-- Parts of refusals 4 and 7. Assumes nothing: these are definitions.
use Rattle.std.specs.Prelude.{ℕ, Bool, true, false, not, ◌&&◌, List, [], ◌∷◌, get_or, set}
use Rattle.std.proofs.Math.Option.{Option, some, none}
use Rattle.plan.specs.Binding.{BindingRow}
use Rattle.plan.specs.Plan.{Environment, Plan}
use Rattle.plan.specs.Lookup.{argument_index}
use Rattle.plan.specs.Refusal.{every, bound_below, at_most}

-- the tables of the environment, but for their lists
abbrev pub counts_most : Environment → Bool
counts_most e = at_most 64 e.files && (at_most 2048 e.syms && (at_most 2048 e.poss && (at_most 256 e.types && (at_most 1024 e.variants && at_most 512 e.terms))))

-- each argument has a mark: so it is where refusals 4 and 5 find nothing
unfoldable pub few_arguments : List BindingRow → Bool
few_arguments bs = every (λ b. bound_below 32 (argument_index b.binding)) bs

unfoldable pub arguments_few : Plan → Bool
arguments_few p = every (λ g. few_arguments g.bindings) p.generated

-- the marks of arguments: one that is met is new if its mark is not set, and then is marked
abbrev pub mark_new : List Bool → Option ℕ → Bool
mark_new ms none = true
mark_new ms (some i) = not (get_or ms i false)

abbrev pub marked : List Bool → Option ℕ → List Bool
marked ms none = ms
marked ms (some i) = set ms i true

-- each argument is new as it is met
unfoldable pub marks_new : List Bool → List BindingRow → Bool
marks_new ms [] = true
marks_new ms (b ∷ bs) = mark_new ms (argument_index b.binding) && marks_new (marked ms (argument_index b.binding)) bs
