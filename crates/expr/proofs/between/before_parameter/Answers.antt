use Rattle.std.specs.Prelude.{not, ◌&&◌, [], ◌∷◌}
use Rattle.std.proofs.Common.{refl}
use Rattle.codegen.specs.Piece.{fix, odd_piece, odd_pieces}
use Rattle.view.specs.Buffers.{env_of}
use Rattle.emits.specs.Sinks.{shows_none, shows_fix}
use Rattle.emits.specs.Runs.{emits_say, ◌⟫◌}
use Rattle.expr_parts.proofs.Laws.{odd_cond}
use Rattle.expr.proofs.between.before_parameter.Goals as goal

pub returns : goal.returns
unfolding odd_pieces odd_piece
returns c = λ d m. rw (← c.param_ty.ensures, ← c.is_ref-wanted.ensures) (emits_say refl (shows_fix c.put_bytes.ensures shows_none) ⟫ emits_say (odd_cond (c.is_ref-wanted.result && not c.args.given) (fix "&" refl ∷ []) refl) (c.put_borrow.ensures (env_of c.args.plan.now) d))
