-- Kinds of bindings that are neither calls nor made of fields. Assumes nothing.
use Rattle.std.specs.Prelude.{◌≡◌, refl, ℕ, Bool, Option, None}
use Rattle.std.proofs.Common.{sym, ap, ◌∙◌}
use Rattle.std.proofs.lemmas.Option.{none-some}
use Rattle.plan.specs.Plan.{Environment}
use Rattle.view.specs.declared.binding.Binding.{Binding}
use Rattle.view.specs.declared.binding.Binding.TheVariants as b
use Rattle.view.specs.Told.{binding_told}
use Rattle.sema.specs.declared.signature.ExternalSig.{ExternalSig}
use Rattle.expr_parts.specs.Sources.{after_one}
use Rattle.expr.specs.Between.{after_source}
use Rattle.expr.specs.Call.{called, called_told}

pub after_other : (k : Binding) (e : Environment) {r : Option ExternalSig} → called_told e r ≡ called e (binding_told k) → r ≡ None → ((n v : ℕ) → k ≡ b.MakeVariant n v → ⊥) → ((n : ℕ) → k ≡ b.MakeStruct n → ⊥)
    → (i q : ℕ) (given : Bool) → after_source e (binding_told k) i q given ≡ after_one (binding_told k) q
after_other (b.ConstBool x) e c n v s i q given = refl
after_other (b.ConstInt x y) e c n v s i q given = refl
after_other (b.ConstPrim x) e c n v s i q given = refl
after_other (b.Argument x) e c n v s i q given = refl
after_other (b.Extractor x) e c n v s i q given = absurd (none-some _ (sym (ap (called_told e) n) ∙ c))
after_other (b.Constructor x) e c n v s i q given = absurd (none-some _ (sym (ap (called_told e) n) ∙ c))
after_other b.Iterator e c n v s i q given = refl
after_other (b.MakeVariant x y) e c n v s i q given = absurd (v x y refl)
after_other (b.MakeStruct x) e c n v s i q given = absurd (s x refl)
after_other b.MakeSome e c n v s i q given = refl
after_other b.MatchSome e c n v s i q given = refl
after_other (b.MatchTuple x) e c n v s i q given = refl
after_other (b.MatchVariant x) e c n v s i q given = refl
after_other (b.ExtractStruct x) e c n v s i q given = refl
