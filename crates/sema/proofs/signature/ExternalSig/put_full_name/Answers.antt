use mathlib.Core.Path.{◌≡◌, refl}
use Prim.Native.Nat.{ℕ}
use Rattle.plan.specs.Plan.{Term}
use Rattle.codegen.specs.Piece.{Piece}
use Rattle.codegen.specs.Sema.{func_name_of, full_name_of}
use Rattle.view.specs.Told.{function_told}
use Rattle.view.specs.declared.environment.FunctionKind.{FunctionKind}
use Rattle.view.specs.declared.environment.FunctionKind.TheVariants as k
use Rattle.emits.specs.Sinks.{shows_as, shows_fix}
use Rattle.sema.proofs.signature.ExternalSig.put_full_name.Goals.{in-External, in_default}
use Rattle.sema.proofs.signature.ExternalSig.put_full_name.Goals as goal

-- only an external function has another name by which it is called
same_name : (f : FunctionKind) (prefix : Piece) (m : Term) → ((n : ℕ) → f ≡ k.External n → ⊥) → full_name_of (function_told f) prefix m ≡ func_name_of (function_told f) prefix m
unfolding func_name_of full_name_of
same_name k.Absent prefix m h = refl
same_name k.Internal prefix m h = refl
same_name (k.External n) prefix m h = absurd (h n refl)

pub returns : goal.returns
unfolding func_name_of full_name_of
returns c = λ d. elim c.match-self.branch [
  | in-External w ↦ rw w.in-External.is (shows_fix w.put_bytes.ensures (rw w.in-External.is at (rw w.w-is at (c.put_func_name.ensures d))))
  | in_default w ↦ shows_as (same_name c.args.self.func _ _ w.in_default.not-External) (rw w.w-is at (c.put_func_name.ensures d))
]
