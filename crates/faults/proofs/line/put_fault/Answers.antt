use Rattle.text.specs.Writes.{writes_then}
use Rattle.schedule_rules.specs.Sheet.{fault_line}
use Rattle.faults.proofs.line.put_fault.Goals as goal

pub returns : goal.returns
unfolding fault_line
returns c = rw (c.if-not-is_there.false) (writes_then c.put_decimal.ensures (writes_then c.put_byte.ensures (writes_then c.put_decimal-2.ensures (writes_then c.put_byte-2.ensures (writes_then c.put_byte-3.ensures c.put_byte-4.ensures)))))
