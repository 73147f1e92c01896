use Rattle.std.proofs.Common.{refl}
use Rattle.codegen.specs.Block.{emit_arm}
use Rattle.codegen.specs.Piece.{odd_piece, odd_pieces}
use Rattle.emits.specs.Marks.{set_of}
use Rattle.emits.specs.Sinks.{shows_none, shows_fix, shows_brace}
use Rattle.body.specs.Words.{words_say, ◌⟫ᵥ◌}
use Rattle.steps.proofs.CheckLaws.{own_opening}
use Rattle.steps.proofs.arm.arm_of.Goals as goal

pub returns : goal.returns
unfolding emit_arm odd_pieces odd_piece
returns c = own_opening (set_of c.args.bound.now) _ c.put_indent.ensures
    ((record { same = c.emit_constraint.ensures.same; words = λ d f. rw (c.constraint_at.ensures, c.list-list.ensures) at (c.emit_constraint.ensures.emits f.indexed) }) ⟫ᵥ words_say refl (shows_fix c.put_bytes.ensures (shows_brace c.put_bytes-2.ensures shows_none)))
    c.put_byte.ensures (rw c.list-list.ensures at c.bind_all.ensures.names)
