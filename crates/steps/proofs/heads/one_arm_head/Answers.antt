use Rattle.std.proofs.Common.{refl}
use Rattle.codegen.specs.Piece.{odd_piece, odd_pieces}
use Rattle.codegen.specs.Block.{one_arm_head}
use Rattle.emits.specs.Sinks.{shows_none, shows_fix, shows_brace}
use Rattle.body.specs.Words.{words_say, ◌⟫ᵥ◌}
use Rattle.steps.proofs.heads.one_arm_head.Goals.{then-is_constant, else-is_constant}
use Rattle.steps.proofs.heads.one_arm_head.Goals as goal

pub returns : goal.returns
unfolding one_arm_head odd_pieces odd_piece
returns c = elim c.if-is_constant.branch [
  | then-is_constant w ↦
      rw (← c.is_constant.ensures, w.if-is_constant.true, w.refs-is, ← c.list-list.ensures)
      (words_say refl (shows_fix w.put_bytes.ensures shows_none) ⟫ᵥ w.emit_expr.ensures ⟫ᵥ words_say refl (shows_fix w.put_bytes-then-is_constant.ensures shows_none)
      ⟫ᵥ (record { same = w.emit_constraint.ensures.same; words = λ d f. w.emit_constraint.ensures.emits f.indexed }) ⟫ᵥ words_say refl (shows_brace (rw w.w-is at c.put_bytes-2.ensures) shows_none))
  | else-is_constant w ↦
      rw (← c.is_constant.ensures, w.if-is_constant.false, w.refs-is, ← c.list-list.ensures)
      (words_say refl (shows_fix w.put_bytes-else-is_constant.ensures shows_none) ⟫ᵥ (record { same = w.emit_constraint-else-is_constant.ensures.same; words = λ d f. w.emit_constraint-else-is_constant.ensures.emits f.indexed })
      ⟫ᵥ words_say refl (shows_fix w.put_bytes-else-is_constant-2.ensures shows_none) ⟫ᵥ w.emit_source.ensures ⟫ᵥ words_say refl (shows_brace (rw w.w-is at c.put_bytes-2.ensures) shows_none))
]
