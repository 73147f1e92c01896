use native.Mathlib.Numerals.{add-one}
use mathlib.Core.List.{append_assoc}
use Rattle.text.specs.Writes.{writes_then}
use Rattle.context.specs.Closing.{line_of, brace_text, block_text}
use Rattle.context.proofs.block.end_block.Goals as goal

pub returns : goal.returns
unfolding block_text brace_text line_of
returns c =
    writes_then (rw add-one at c.end_closure.ensures) (writes_then (rw add-one at c.end_match.ensures) (rw append_assoc at (writes_then c.end_block_without_newline.ensures c.put_byte.ensures)))
