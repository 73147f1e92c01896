use Rattle.std.proofs.Common.{◌+◌, ◌-◌, ◌*◌, ◌≡◌, ◌<◌, ◌≤◌, length, true, eqb, drop}
use Rattle.text.specs.Split.{split}
use Rattle.layout.specs.Scan.{scan}
use Rattle.layout.specs.Filling.{SameBuffers, HasRoom, Leads, rest}
use Rattle.layout.proofs.Buffers.put_table.Given as goal

abbrev pub invariant-loop-e : goal.invariant-loop-e
invariant-loop-e l = record {
  same : SameBuffers l.fn.self l.self;
  room : HasRoom l.s l.at l.self;
  table : l.self.filled.tables ≡ l.fn.self.filled.tables;
  begun : 4 * l.self.filled.tables + 4 ≤ l.at;
  later : l.start < l.at;
  leads : Leads l.fn.self (rest l.s l.start l.fn.self) l.self (scan l.self.filled.tables true l.at (split (eqb 10) (drop l.at l.s)));
}

abbrev pub decreases-loop-e : goal.decreases-loop-e
decreases-loop-e l = length l.s - l.at
