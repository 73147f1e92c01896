use Rattle.std.specs.Prelude.{◌<◌}
use Rattle.std.proofs.Common.{arith}
use borrow.Author.Rules.{rules}
use Rattle.text.specs.Writes.{writes_then}
use Rattle.programs.specs.Printed.{count_line}
use Rattle.programs.proofs.Laws.{line_put, count_length}
use Rattle.programs.proofs.put_counts.Goals as goal

pub returns : goal.returns
unfolding count_line
returns c =
    let n = c.from-numbers.ensures in
    let b : (c.from-numbers.result.number < 18446744073709551616) × (c.from-numbers.result.length < 18446744073709551616) × (c.from-numbers.result.count < 18446744073709551616) = (omega arith, omega arith, omega arith) in
    rw (← n.0, ← n.1, ← n.2)
    (line_put c.new-w.ensures.room c.new-w.ensures.start.0
    (writes_then (rw c.from.ensures at c.put_decimal.ensures) (writes_then c.put_byte.ensures (writes_then c.put_decimal-2.ensures (writes_then c.put_byte-2.ensures (writes_then c.put_decimal-3.ensures c.put_byte-3.ensures)))))
    (count_length _ _ _ b.0 b.1 b.2) (search rules))
