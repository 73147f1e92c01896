-- What a signature read out of the buffers says in the definition's terms. Assumes nothing: these are definitions.
use Rattle.std.specs.Prelude.{refl, Bool, cond, [], ◌∷◌}
use Rattle.plan.specs.Plan.{Environment}
use Rattle.plan.specs.Lookup.{term_at}
use Rattle.codegen.specs.Piece.{Piece, fix}
use Rattle.codegen.specs.ReturnKind as kind
use Rattle.codegen.specs.Sema as sema
use Rattle.codegen.specs.Sema.{func_name_of, full_name_of}
use Rattle.view.specs.Told.{function_told}
use Rattle.sema.specs.declared.signature.ReturnKind.{ReturnKind}
use Rattle.sema.specs.declared.signature.ReturnKind.TheVariants as k
use Rattle.sema.specs.declared.signature.ExternalSig.{ExternalSig}

abbrev pub return_kind_told : ReturnKind → kind.ReturnKind
return_kind_told k.Iterator = kind.Iterator
return_kind_told k.Option = kind.Option
return_kind_told k.Plain = kind.Plain

-- what stands before the term's name in an internal function's name
abbrev pub prefix : Bool → Piece
prefix is_extractor = cond is_extractor (fix "extractor_" refl) (fix "constructor_" refl)

abbrev pub sig_told : Environment → ExternalSig → sema.ExternalSig
sig_told env s = record {
  func_name = func_name_of (function_told s.func) (prefix s.is_extractor) (term_at env s.term.0);
  full_name = full_name_of (function_told s.func) (prefix s.is_extractor) (term_at env s.term.0);
  param_tys = cond s.is_extractor ((term_at env s.term.0).ret_ty ∷ []) (term_at env s.term.0).arg_tys;
  ret_tys = cond s.is_extractor (term_at env s.term.0).arg_tys ((term_at env s.term.0).ret_ty ∷ []);
  ret_kind = return_kind_told s.ret_kind;
}
