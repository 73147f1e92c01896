use Rattle.std.proofs.Common.{refl}
use Rattle.codegen.specs.Piece.{odd_piece, odd_pieces}
use Rattle.emits.specs.Sinks.{shows_none, shows_fix}
use Rattle.emits.specs.Runs.{emits_say, shows_plain, emits_mark, ◌⟫◌}
use Rattle.expr_parts.proofs.Laws.{emits_nothing}
use Rattle.expr_parts.proofs.mark_result.Goals as goal

pub returns-then-returns_ref-clause-plain : goal.returns-then-returns_ref-clause-plain
unfolding odd_pieces odd_piece
returns-then-returns_ref-clause-plain c = λ d n. rw (c.insert.ensures.marks, ← c.returns_ref.ensures, c.if-returns_ref.true) (emits_mark ⟫ emits_say refl (shows_plain n (shows_fix c.put_bytes.ensures shows_none)))

pub returns-else-returns_ref-clause-plain : goal.returns-else-returns_ref-clause-plain
returns-else-returns_ref-clause-plain c = λ d n. rw (← c.returns_ref.ensures, c.if-returns_ref.false) emits_nothing
