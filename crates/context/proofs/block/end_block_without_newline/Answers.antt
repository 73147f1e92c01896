use Rattle.text.specs.Writes.{writes_then}
use Rattle.codegen.specs.Piece.{indent}
use Rattle.context.specs.Closing.{brace_text}
use Rattle.context.proofs.block.end_block_without_newline.Goals as goal

pub returns : goal.returns
unfolding brace_text indent
returns c = writes_then c.put_indent.ensures c.put_bytes.ensures
