-- No odd literal stands at the start of a let. Assumes nothing.
use Rattle.std.specs.Prelude.{◌≡◌, refl, Bool, true, false, List, ℕ}
use Rattle.std.proofs.Math.Option.{some, none}
use Rattle.plan.specs.Plan.{Environment, FunctionKind, absent, internal, external, Term}
use Rattle.plan.specs.Binding.{Binding, ConstBool, ConstInt, ConstPrim, Argument, Extractor, Constructor, Iterator, MakeVariant, MakeStruct, MakeSome, MatchSome, MatchTuple, MatchVariant, ExtractStruct}
use Rattle.plan.specs.Lookup.{term_at}
use Rattle.codegen.specs.Piece.{Piece, fix, odd_piece, odd_pieces}
use Rattle.codegen.specs.ReturnKind.{ReturnKind, by_return_kind}
use Rattle.codegen.specs.ReturnKind as kind
use Rattle.codegen.specs.Sema.{func_name_of, is_external, extractor_sig, constructor_sig}
use Rattle.codegen.specs.Block.{buffer, iter_return, let_head}
use Rattle.emits.specs.Emits.{odd_append}
use Rattle.steps.specs.Buffer.{buffer_type}

odd_name : (f : FunctionKind) (p : Piece) (m : Term) → odd_piece p ≡ 0 → odd_pieces (func_name_of f p m) ≡ 0
unfolding func_name_of odd_pieces odd_piece
odd_name absent p m h = refl
odd_name internal p m h = rw h
odd_name (external n) p m h = refl

odd_type : (b : Bool) (ps : List Piece) → odd_pieces ps ≡ 0 → odd_pieces (buffer_type b ps) ≡ 0
unfolding odd_pieces odd_piece
odd_type true ps h = rw (odd_append, h)
odd_type false ps h = refl

odd_kind : (b : ℕ) (k : ReturnKind) (ps : List Piece) → odd_pieces ps ≡ 0 → odd_pieces (let_head b (by_return_kind k (some ps) none none)) ≡ 0
unfolding by_return_kind let_head odd_pieces odd_piece
odd_kind b kind.Iterator ps h = rw (odd_append, h)
odd_kind b kind.Option ps h = refl
odd_kind b kind.Plain ps h = refl

odd_none : (b : ℕ) → odd_pieces (let_head b none) ≡ 0
unfolding let_head odd_pieces odd_piece
odd_none b = refl

pub odd_let : (env : Environment) (b : ℕ) (k : Binding) → odd_pieces (let_head b (iter_return env k)) ≡ 0
unfolding iter_return buffer extractor_sig constructor_sig odd_piece
odd_let env b (ConstBool v) = odd_none b
odd_let env b (ConstInt n v) = odd_none b
odd_let env b (ConstPrim n) = odd_none b
odd_let env b (Argument i) = odd_none b
odd_let env b (Extractor m) = odd_kind b (extractor_sig (term_at env m)).ret_kind _ (odd_type (is_external (term_at env m).xtor) _ (odd_name (term_at env m).xtor (fix "extractor_" refl) (term_at env m) refl))
odd_let env b (Constructor m) = odd_kind b (constructor_sig (term_at env m)).ret_kind _ (odd_type (is_external (term_at env m).ctor) _ (odd_name (term_at env m).ctor (fix "constructor_" refl) (term_at env m) refl))
odd_let env b Iterator = odd_none b
odd_let env b (MakeVariant n k) = odd_none b
odd_let env b (MakeStruct n) = odd_none b
odd_let env b MakeSome = odd_none b
odd_let env b MatchSome = odd_none b
odd_let env b (MatchTuple f) = odd_none b
odd_let env b (MatchVariant f) = odd_none b
odd_let env b (ExtractStruct f) = odd_none b
