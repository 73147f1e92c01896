use Rattle.std.proofs.Common.{refl}
use Rattle.codegen.specs.Piece.{odd_piece, odd_pieces}
use Rattle.emits.specs.Sinks.{shows_none, shows_fix}
use Rattle.emits.specs.Runs.{emits_say, shows_plain, emits_mark, ◌⟫◌}
use Rattle.expr_parts.proofs.Laws.{emits_nothing}
use Rattle.pattern.proofs.fields.put_ref.Goals as goal

pub returns-then-wanted-clause-plain : goal.returns-then-wanted-clause-plain
unfolding odd_pieces odd_piece
returns-then-wanted-clause-plain c = λ env d n. rw (c.insert.ensures.marks, c.if-wanted.true) (emits_mark ⟫ emits_say refl (shows_plain n (shows_fix c.put_bytes.ensures shows_none)))

pub returns-else-wanted-clause-plain : goal.returns-else-wanted-clause-plain
returns-else-wanted-clause-plain c = λ env d n. rw c.if-wanted.false emits_nothing
