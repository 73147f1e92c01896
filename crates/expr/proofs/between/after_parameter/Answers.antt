use Rattle.std.specs.Prelude.{not, ◌&&◌, [], ◌∷◌}
use Rattle.std.proofs.Common.{refl}
use Rattle.codegen.specs.Piece.{fix, odd_piece, odd_pieces}
use Rattle.view.specs.Buffers.{env_of}
use Rattle.emits.specs.Runs.{emits_say}
use Rattle.expr_parts.proofs.Laws.{odd_cond}
use Rattle.expr.proofs.between.after_parameter.Goals as goal

pub returns : goal.returns
unfolding odd_pieces odd_piece
returns c = λ d m. rw (← c.param_ty.ensures, ← c.is_ref-wanted.ensures) (emits_say (odd_cond (c.args.given && not c.is_ref-wanted.result) (fix ".clone()" refl ∷ []) refl) (c.put_clone.ensures (env_of c.args.plan.now) d))
