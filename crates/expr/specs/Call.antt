-- What a binding calls. Assumes nothing: these are definitions.
use Rattle.std.specs.Prelude.{Option, Some, None}
use Rattle.plan.specs.Plan.{FunctionKind, Environment}
use Rattle.plan.specs.Binding.{Binding, ConstBool, ConstInt, ConstPrim, Argument, Extractor, Constructor, Iterator, MakeVariant, MakeStruct, MakeSome, MatchSome, MatchTuple, MatchVariant, ExtractStruct}
use Rattle.plan.specs.Lookup.{term_at}
use Rattle.codegen.specs.Sema as sema
use Rattle.codegen.specs.Sema.{extractor_sig, constructor_sig}
use Rattle.view.specs.Told.{function_told}
use Rattle.sema.specs.declared.signature.ExternalSig.{ExternalSig}
use Rattle.sema.specs.Signature.{sig_told}

-- a function that is called: its signature, and whether it is internal or external
pub record Called : Type 0 where
  pub sig : sema.ExternalSig
  pub func : FunctionKind

abbrev pub called : Environment → Binding → Option Called
called e (ConstBool v) = None
called e (ConstInt n v) = None
called e (ConstPrim n) = None
called e (Argument i) = None
called e (Extractor m) = Some (record { sig = extractor_sig (term_at e m); func = (term_at e m).xtor })
called e (Constructor m) = Some (record { sig = constructor_sig (term_at e m); func = (term_at e m).ctor })
called e Iterator = None
called e (MakeVariant n k) = None
called e (MakeStruct n) = None
called e MakeSome = None
called e MatchSome = None
called e (MatchTuple f) = None
called e (MatchVariant f) = None
called e (ExtractStruct f) = None

-- the same by a signature read out of the buffers
abbrev pub called_told : Environment → Option ExternalSig → Option Called
called_told env None = None
called_told env (Some s) = Some (record { sig = sig_told env s; func = function_told s.func })
