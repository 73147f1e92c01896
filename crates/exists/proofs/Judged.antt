-- What refusals 4 and 5 leave for the later ones. Assumes nothing.
use Prim.Native.Nat.{ℕ, zero, suc, ◌-◌, ◌≤◌, ◌<◌}
use mathlib.Core.Path.{◌≡◌, refl}
use mathlib.Core.Bool.{Bool, true, false, ◌&&◌}
use mathlib.Core.List.{List, [], ◌∷◌}
use native.Mathlib.Omega.{arith}
use lib.Dec.{ltb}
use lib.ListN.{length, get_or}
use borrow.Author.Tests.{lt-ltb, ltb-true, leb-true}
use Rattle.literal.specs.BuiltinType.{all}
use Rattle.plan.specs.Plan.{Environment, Generated, Plan}
use Rattle.plan.specs.Binding.{Binding, ConstBool, ConstInt, ConstPrim, Argument, Extractor, Constructor, Iterator, MakeVariant, MakeStruct, MakeSome, MatchSome, MatchTuple, MatchVariant, ExtractStruct}
use Rattle.plan.specs.Lookup.{fields_of, term_at, argument_index}
use Rattle.plan.specs.Refusal.{every, at_most, list_most, fields_most, bound_below, environment_most, within_most, binding_refers, generated_refers, type_refers, variant_refers, term_refers, all_exist}
use Rattle.checks.specs.Within.{few_arguments, arguments_few}
use Rattle.view.specs.Tables.{environment_in, plan_in}
use Rattle.view.proofs.Laws.{table_length}
use Rattle.view.proofs.Plans.{environment_is, types_count, variants_count}

pub both : (a b : Bool) → (a && b) ≡ true → (a ≡ true) × (b ≡ true)
both true b p = (refl, p)
both false b p = let z : ◌≡◌ {A = ℕ} 0 1 = cc in absurd (omega arith)

every_implies : {A : Type 0} (P Q : A → Bool) → ((x : A) → P x ≡ true → Q x ≡ true) → (xs : List A) → every P xs ≡ true → every Q xs ≡ true
unfolding every
every_implies P Q h [] q = refl
every_implies P Q h (x ∷ xs) q = let b = both (P x) (every P xs) q in rw (h x b.0) (every_implies P Q h xs b.1)

every_at : {A : Type 0} (P : A → Bool) (xs : List A) (n : ℕ) (d : A) → n < length xs → every P xs ≡ true → P (get_or xs n d) ≡ true
unfolding every
every_at P [] n d h q = absurd (omega arith)
every_at P (x ∷ xs) zero d h q = (both (P x) (every P xs) q).0
every_at P (x ∷ xs) (suc n) d h q = every_at P xs n d (omega arith) (both (P x) (every P xs) q).1

-- 4

pub record Few (e : Environment) : Type 0 where
  pub types : length e.types ≤ 256
  pub variants : length e.variants ≤ 1024
  pub args : every (λ m. at_most list_most m.arg_tys) e.terms ≡ true

few_of : (e : Environment) → environment_most e ≡ true → Few e
unfolding environment_most
few_of e q =
    let a = (both (at_most 64 e.files) _ q).1 in
    let b = (both (at_most 2048 e.syms) _ a).1 in
    let c = (both (at_most 2048 e.poss) _ b).1 in
    let d = both _ _ c in
    let f = both _ _ d.1 in
    let g = (both (at_most 512 e.terms) _ f.1).1 in
    let h = (both (every (λ t. fields_most (fields_of t)) e.types) _ g).1 in
    record { types = leb-true _ 256 d.0; variants = leb-true _ 1024 f.0; args = (both (every (λ v. fields_most v.fields) e.variants) _ h).1 }

pub few_is : (p : Plan) → within_most p ≡ true → Few p.env
unfolding within_most
few_is p q = few_of p.env (both _ _ q).0

module _ (plan words rows tables : List ℕ) (q : within_most (plan_in plan words rows tables) ≡ true) where
  few : Few (environment_in plan words rows tables)
  few = rw (environment_is words rows tables plan) at (few_is (plan_in plan words rows tables) q)

  pub few_types : get_or tables 5 0 - get_or tables 4 0 ≤ 256 - length all
  few_types = omega (arith, few.types, types_count words rows tables plan, table_length words rows tables 4)

  pub few_variants : get_or tables 6 0 - get_or tables 5 0 ≤ 1024
  few_variants = omega (arith, few.variants, variants_count words rows tables plan, table_length words rows tables 5)

-- 5

argument_few : (e : Environment) (args : ℕ) (b : Binding) → args ≤ 32 → binding_refers e args b ≡ true → bound_below 32 (argument_index b) ≡ true
unfolding binding_refers
argument_few e args (ConstBool v) h q = refl
argument_few e args (ConstInt n v) h q = refl
argument_few e args (ConstPrim n) h q = refl
argument_few e args (Argument i) h q = lt-ltb i 32 (omega (arith, ltb-true i args q))
argument_few e args (Extractor m) h q = refl
argument_few e args (Constructor m) h q = refl
argument_few e args Iterator h q = refl
argument_few e args (MakeVariant n k) h q = refl
argument_few e args (MakeStruct n) h q = refl
argument_few e args MakeSome h q = refl
argument_few e args MatchSome h q = refl
argument_few e args (MatchTuple f) h q = refl
argument_few e args (MatchVariant f) h q = refl
argument_few e args (ExtractStruct f) h q = refl

generated_few : (e : Environment) (g : Generated) → Few e → generated_refers e g ≡ true → few_arguments g.bindings ≡ true
unfolding generated_refers few_arguments
generated_few e g f q =
    let n = length g.bindings in
    let args = length (term_at e g.term).arg_tys in
    let a = both _ _ q in
    let t : g.term < length e.terms = ltb-true g.term (length e.terms) (both _ _ a.0).0 in
    let s : args ≤ 32 = leb-true args 32 (every_at (λ m. at_most list_most m.arg_tys) e.terms g.term _ t f.args) in
    every_implies (λ b. binding_refers e args b.binding && every (λ q. ltb q n) b.sources) (λ b. bound_below 32 (argument_index b.binding))
    (λ b r. argument_few e args b.binding s (both _ _ r).0) g.bindings (both _ _ a.1).0

pub arguments_are_few : (p : Plan) → within_most p ≡ true → all_exist p ≡ true → arguments_few p ≡ true
unfolding all_exist arguments_few
arguments_are_few p w q =
    every_implies (generated_refers p.env) (λ g. few_arguments g.bindings) (λ g r. generated_few p.env g (few_is p w) r) p.generated
    (both (every (term_refers p.env) p.env.terms) _ (both (every (variant_refers p.env) p.env.variants) _ (both (every (type_refers p.env) p.env.types) _ q).1).1).1
