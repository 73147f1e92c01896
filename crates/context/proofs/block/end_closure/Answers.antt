use native.Mathlib.Numerals.{add-one}
use Rattle.text.specs.Writes.{writes_then}
use Rattle.context.specs.Closing.{closure_text}
use Rattle.context.proofs.block.end_closure.Goals as goal

pub returns-in-Some : goal.returns-in-Some
unfolding closure_text
returns-in-Some c = rw c.in-Some.is (writes_then (rw add-one at c.put_line.ensures) (writes_then c.put_line-in-Some.ensures c.call_closure.ensures))
