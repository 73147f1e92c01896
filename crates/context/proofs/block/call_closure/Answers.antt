use Rattle.text.specs.Writes.{writes_then}
use Rattle.codegen.specs.Piece.{indent}
use Rattle.context.specs.Closing.{line_of, call_bytes}
use Rattle.context.proofs.block.call_closure.Goals as goal

pub returns : goal.returns
unfolding line_of call_bytes indent
returns c = writes_then c.put_indent.ensures (writes_then (writes_then c.put_bytes.ensures (writes_then c.put_iter_overflow_action.ensures (writes_then c.put_bytes-2.ensures c.put_decimal.ensures))) c.put_byte.ensures)
