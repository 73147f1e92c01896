use Rattle.std.proofs.Common.{arith}
use Rattle.text.specs.SinkLaws.{length_spaces}
use Rattle.text.specs.Writes.{writes_over}
use Rattle.codegen.specs.Piece.{indent}
use Rattle.expr_parts.proofs.consts.Laws.{writes_byte}
use Rattle.expr_parts.proofs.pieces.put_break.Goals as goal

pub returns-in-None : goal.returns-in-None
unfolding indent
returns-in-None c = writes_byte c.put_byte.ensures (writes_over (rw length_spaces (grind arith)))
