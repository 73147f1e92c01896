use Rattle.text.specs.Writes.{writes_then}
use Rattle.codegen.specs.Piece.{indent}
use Rattle.context.specs.Closing.{line_of}
use Rattle.context.proofs.block.put_line.Goals as goal

pub returns : goal.returns
unfolding line_of indent
returns c = writes_then c.put_indent.ensures (writes_then c.put_bytes.ensures c.put_byte.ensures)
