-- What is known of an accepted plan where its terms are written. Assumes nothing.
use Rattle.std.specs.Prelude.{ℕ, zero, suc, ◌≤◌, ◌<◌, ◌≡◌, refl, Bool, true, ◌&&◌, List, [], ◌∷◌, length, get_or, ltb, eqb}
use Rattle.std.proofs.Common.{arith, leb-true, ltb-true, eqb-true, ne_eqb}
use Rattle.plan.specs.Plan.{Variant, Environment, Generated, Plan}
use Rattle.plan.specs.Binding.{Binding, BindingRow, ConstBool, ConstInt, ConstPrim, Argument, Extractor, Constructor, Iterator, MakeVariant, MakeStruct, MakeSome, MatchSome, MatchTuple, MatchVariant, ExtractStruct}
use Rattle.plan.specs.Row.{level}
use Rattle.plan.specs.Lookup.{variants_of, binding_at}
use Rattle.plan.specs.Refusal.{every, row_most, at_most, list_most, environment_most, generated_most, within_most, type_refers, variant_refers, enum_exists, all_exist, source_count, arm_length_fits, lengths_fit, sources_below, arguments_distinct, sources_lower, accepted, outcome}
use Rattle.splitting.specs.Cases.{and_left, and_right, false_true}
use Rattle.schedule_rules.specs.Passes.{Each, Passes, accepted_passes, every_each, row_shallow}
use Rattle.schedule_rules.specs.Found.{lower_of}
use Rattle.expr_parts.specs.Sources.{one_source}
use Rattle.expr.specs.Lower.{Lower}

-- of a generated term
pub record TermFits (g : Generated) : Type 0 where
  pub lower : Lower g.bindings
  pub shallow : Each (λ r. level r < 64) g.rows

-- of a plan
pub record PlanFits (p : Plan) : Type 0 where
  pub others : (n : ℕ) → 256 ≤ n → variants_of n p.env.variants ≡ []
  pub terms : Each TermFits p.generated

-- WHAT THE CHECKS 6 AND 7 SAY

below_at : (k : ℕ) (qs : List ℕ) (i : ℕ) → every (λ q. ltb q k) qs ≡ true → i < length qs → get_or qs i 0 < k
unfolding every
below_at k [] i h g = absurd (omega arith)
below_at k (q ∷ qs) zero h g = ltb-true q k (and_left (ltb q k) _ h)
below_at k (q ∷ qs) (suc i) h g = below_at k qs i (and_right (ltb q k) _ h) (omega arith)

source_one : (e : Environment) (b : Binding) → one_source b ≡ true → source_count e b ≡ 1
unfolding source_count
source_one e (ConstBool v) h = false_true h
source_one e (ConstInt n v) h = false_true h
source_one e (ConstPrim n) h = false_true h
source_one e (Argument i) h = false_true h
source_one e (Extractor m) h = false_true h
source_one e (Constructor m) h = false_true h
source_one e Iterator h = refl
source_one e (MakeVariant n k) h = false_true h
source_one e (MakeStruct n) h = false_true h
source_one e MakeSome h = refl
source_one e MatchSome h = refl
source_one e (MatchTuple f) h = refl
source_one e (MatchVariant f) h = refl
source_one e (ExtractStruct f) h = refl

abbrev counted : Environment → BindingRow → Bool
counted e b = eqb (length b.sources) (source_count e b.binding)

one_at : (e : Environment) (bs : List BindingRow) (b : ℕ) → every (counted e) bs ≡ true → one_source (binding_at bs b).binding ≡ true → 0 < length (binding_at bs b).sources
unfolding every
one_at e [] b h g = false_true g
one_at e (x ∷ bs) zero h g = omega (arith, eqb-true (length x.sources) (source_count e x.binding) (and_left (counted e x) _ h), source_one e x.binding g)
one_at e (x ∷ bs) (suc b) h g = one_at e bs b (and_right (counted e x) _ h) g

-- the three tests of a generated term together
terms_fit : (e : Environment) (gs : List Generated) → every generated_most gs ≡ true → every (λ g. every (counted e) g.bindings && every (arm_length_fits e) g.rows) gs ≡ true → every (λ g. sources_below 0 g.bindings && arguments_distinct g.bindings) gs ≡ true → Each TermFits gs
unfolding every generated_most
terms_fit e [] a b c = tt
terms_fit e (g ∷ gs) a b c =
    let most : generated_most g ≡ true = and_left (generated_most g) _ a in
    let rows : every row_most g.rows ≡ true = and_right (every (λ x. at_most list_most x.sources) g.bindings) _ (and_right (at_most 2048 g.rows) _ (and_right (at_most 1024 g.bindings) _ most)) in
    let one : every (counted e) g.bindings ≡ true = and_left (every (counted e) g.bindings) _ (and_left (every (counted e) g.bindings && every (arm_length_fits e) g.rows) _ b) in
    let low : sources_below 0 g.bindings ≡ true = and_left (sources_below 0 g.bindings) _ (and_left (sources_below 0 g.bindings && arguments_distinct g.bindings) _ c) in (
      record {
        lower = record { lower = λ x i h. below_at x (binding_at g.bindings x).sources i ((lower_of g.bindings low).each x) h; one = λ x h. one_at e g.bindings x one h };
        shallow = every_each row_most (λ r. level r < 64) row_shallow g.rows rows;
      },
      terms_fit e gs (and_right (generated_most g) _ a) (and_right (every (counted e) g.bindings && every (arm_length_fits e) g.rows) _ b) (and_right (sources_below 0 g.bindings && arguments_distinct g.bindings) _ c),
    )

variants_few : (e : Environment) (vs : List Variant) (n : ℕ) → length e.types ≤ 256 → 256 ≤ n → every (variant_refers e) vs ≡ true → variants_of n vs ≡ []
unfolding variants_of every variant_refers
variants_few e [] n h g a = refl
variants_few e (v ∷ vs) n h g a =
    let low : v.ty < length e.types = ltb-true v.ty (length e.types) (and_left (ltb v.ty (length e.types)) _ (and_left (enum_exists e v.ty) _ (and_left (variant_refers e v) _ a))) in
    rw (ne_eqb v.ty n (λ q. absurd (omega arith))) (variants_few e vs n h g (and_right (variant_refers e v) _ a))

pub passes_fit : (p : Plan) → Passes p → PlanFits p
unfolding within_most environment_most all_exist lengths_fit sources_lower
passes_fit p x =
    let e : Environment = p.env in
    let most : environment_most e ≡ true = and_left (environment_most e) _ x.most in
    let types : at_most 256 e.types ≡ true = and_left (at_most 256 e.types) _ (and_right (at_most 2048 e.poss) _ (and_right (at_most 2048 e.syms) _ (and_right (at_most 64 e.files) _ most))) in
    let variants : every (variant_refers e) e.variants ≡ true = and_left (every (variant_refers e) e.variants) _ (and_right (every (type_refers e) e.types) _ x.exist) in
    let terms : every generated_most p.generated ≡ true = and_right (at_most 64 p.generated) _ (and_right (environment_most e) _ x.most) in
    record { others = λ n h. variants_few e e.variants n (leb-true (length e.types) 256 types) h variants; terms = terms_fit e p.generated terms x.lengths x.lower }

-- WHAT THE EMITTER NEEDS
pub accepted_fits : (s : List ℕ) (p : Plan) → outcome s ≡ accepted p → PlanFits p
accepted_fits s p e = passes_fit p (accepted_passes s p e)
