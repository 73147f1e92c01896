-- The buffer of a binding goes by what it calls. Assumes nothing.
use Rattle.std.specs.Prelude.{◌≡◌, refl, List, Option, Some, None}
use Rattle.std.proofs.Common.{ap, ◌∙◌}
use Rattle.std.proofs.Math.Option as math
use Rattle.std.proofs.Math.Option.{none}
use Rattle.plan.specs.Plan.{Environment}
use Rattle.plan.specs.Binding.{Binding, ConstBool, ConstInt, ConstPrim, Argument, Extractor, Constructor, Iterator, MakeVariant, MakeStruct, MakeSome, MatchSome, MatchTuple, MatchVariant, ExtractStruct}
use Rattle.codegen.specs.Piece.{Piece}
use Rattle.codegen.specs.Block.{buffer, iter_return}
use Rattle.view.specs.Told.{binding_told}
use Rattle.view.specs.declared.binding.Binding as declared
use Rattle.sema.specs.declared.signature.ExternalSig.{ExternalSig}
use Rattle.expr.specs.Call.{Called, called, called_told}

-- the buffer of a call, or none
abbrev pub buffer_of : Option Called → math.Option (List Piece)
buffer_of None = none
buffer_of (Some c) = buffer c.sig c.func

iter_return_is : (env : Environment) (k : Binding) → buffer_of (called env k) ≡ iter_return env k
unfolding iter_return
iter_return_is env (ConstBool v) = refl
iter_return_is env (ConstInt n v) = refl
iter_return_is env (ConstPrim n) = refl
iter_return_is env (Argument i) = refl
iter_return_is env (Extractor m) = refl
iter_return_is env (Constructor m) = refl
iter_return_is env Iterator = refl
iter_return_is env (MakeVariant n k) = refl
iter_return_is env (MakeStruct n) = refl
iter_return_is env MakeSome = refl
iter_return_is env MatchSome = refl
iter_return_is env (MatchTuple f) = refl
iter_return_is env (MatchVariant f) = refl
iter_return_is env (ExtractStruct f) = refl

-- that of a binding which the code has as k, and which calls s
pub iter_return_of : (env : Environment) (told : Binding) (k : declared.Binding) (s : Option ExternalSig) → binding_told k ≡ told → called_told env s ≡ called env (binding_told k) → buffer_of (called_told env s) ≡ iter_return env told
iter_return_of env told k s h c = ap buffer_of c ∙ iter_return_is env (binding_told k) ∙ ap (iter_return env) h
