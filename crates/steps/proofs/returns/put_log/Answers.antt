use Rattle.std.proofs.Common.{refl}
use Rattle.codegen.specs.Piece.{odd_piece, odd_pieces}
use Rattle.codegen.specs.Block.{log_lines}
use Rattle.emits.specs.Sinks.{shows_none, shows_fix, shows_quoted_sym, shows_quoted_pos}
use Rattle.steps.proofs.returns.ReturnLaws.{lines_pieces}
use Rattle.steps.specs.ReturnLines.{no_lines}
use Rattle.steps.proofs.returns.put_log.Goals as goal

pub returns-then-body : goal.returns-then-body
unfolding log_lines odd_pieces odd_piece
returns-then-body c = rw c.if-body.true (lines_pieces refl c.put_indent.ensures (shows_fix c.put_bytes.ensures (shows_quoted_sym c.put_quoted_text.ensures (shows_fix c.put_bytes-then-body.ensures (shows_quoted_pos c.put_quoted_text-then-body.ensures (shows_fix c.put_bytes-then-body-2.ensures shows_none))))) c.put_byte.ensures)

pub returns-else-body : goal.returns-else-body
unfolding log_lines
returns-else-body c = rw c.if-body.false no_lines
