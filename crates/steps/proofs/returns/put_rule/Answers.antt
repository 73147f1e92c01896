use Rattle.std.proofs.Common.{refl}
use Rattle.codegen.specs.Piece.{odd_piece, odd_pieces}
use Rattle.emits.specs.Sinks.{shows_none, shows_fix, shows_pos}
use Rattle.steps.proofs.returns.ReturnLaws.{lines_pieces}
use Rattle.steps.proofs.returns.put_rule.Goals as goal

pub returns : goal.returns
unfolding odd_pieces odd_piece
returns c = lines_pieces refl c.put_indent.ensures (shows_fix c.put_bytes.ensures (shows_pos c.put_text.ensures (shows_fix c.put_bytes-2.ensures shows_none))) c.put_byte.ensures
