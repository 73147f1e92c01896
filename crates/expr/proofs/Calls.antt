-- What holds of both kinds of calls, by their signatures, holds of a binding that calls. Assumes nothing.
use Rattle.std.specs.Prelude.{◌≡◌, ℕ, Option, Some}
use Rattle.std.proofs.Common.{sym, subst, ap, ◌∙◌}
use Rattle.std.proofs.lemmas.Option.{none-some, same_Some}
use Rattle.text.specs.declared.sink.Sink.{Sink}
use Rattle.plan.specs.Plan.{Environment}
use Rattle.plan.specs.Binding.{Binding, ConstBool, ConstInt, ConstPrim, Argument, Extractor, Constructor, Iterator, MakeVariant, MakeStruct, MakeSome, MatchSome, MatchTuple, MatchVariant, ExtractStruct}
use Rattle.plan.specs.Lookup.{term_at}
use Rattle.codegen.specs.Writer.{Marks, Writer}
use Rattle.codegen.specs.Sema as sema
use Rattle.codegen.specs.Sema.{extractor_sig, constructor_sig}
use Rattle.sema.specs.declared.signature.ExternalSig.{ExternalSig}
use Rattle.sema.specs.Signature.{sig_told}
use Rattle.emits.specs.Runs.{Emits}
use Rattle.expr_parts.specs.EmitsLaws.{emits_by}
use Rattle.expr.specs.Call.{Called, called, called_told}

module _ (e : Environment) (P : Binding → sema.ExternalSig → Type 0) (x : (m : ℕ) → P (Extractor m) (extractor_sig (term_at e m))) (c : (m : ℕ) → P (Constructor m) (constructor_sig (term_at e m))) where
  of_called : (k : Binding) (s : Called) → Some s ≡ called e k → P k s.sig
  of_called (ConstBool v) s h = absurd (none-some s (sym h))
  of_called (ConstInt n v) s h = absurd (none-some s (sym h))
  of_called (ConstPrim n) s h = absurd (none-some s (sym h))
  of_called (Argument i) s h = absurd (none-some s (sym h))
  of_called (Extractor m) s h = subst (P (Extractor m)) (sym (ap (λ (r : Called). r.sig) (same_Some _ _ h))) (x m)
  of_called (Constructor m) s h = subst (P (Constructor m)) (sym (ap (λ (r : Called). r.sig) (same_Some _ _ h))) (c m)
  of_called Iterator s h = absurd (none-some s (sym h))
  of_called (MakeVariant n k) s h = absurd (none-some s (sym h))
  of_called (MakeStruct n) s h = absurd (none-some s (sym h))
  of_called MakeSome s h = absurd (none-some s (sym h))
  of_called MatchSome s h = absurd (none-some s (sym h))
  of_called (MatchTuple f) s h = absurd (none-some s (sym h))
  of_called (MatchVariant f) s h = absurd (none-some s (sym h))
  of_called (ExtractStruct f) s h = absurd (none-some s (sym h))

-- a writer of a binding that is, of one that calls, a writer of the signature
pub emits_call : {env : Environment} {d : ℕ} {w : Sink} {r : Marks} {w' : Sink} {r' : Marks} (v : Binding → Writer) (u : sema.ExternalSig → Writer)
    → ((m : ℕ) → v (Extractor m) ≡ u (extractor_sig (term_at env m))) → ((m : ℕ) → v (Constructor m) ≡ u (constructor_sig (term_at env m)))
    → (k : Binding) (s : ExternalSig) {x : Option ExternalSig} → called_told env x ≡ called env k → x ≡ Some s → Emits env d (u (sig_told env s)) w r w' r' → Emits env d (v k) w r w' r'
emits_call {env = env} v u x c k s h g = emits_by (sym (of_called env (λ k g. v k ≡ u g) x c k _ (sym (ap (called_told env) g) ∙ h)))
