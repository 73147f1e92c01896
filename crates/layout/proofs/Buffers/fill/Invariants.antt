use Rattle.std.proofs.Common.{length, ◌-◌}
use Rattle.layout.specs.Filling.{SameBuffers, HasRoom, Leads, rest}
use Rattle.layout.specs.declared.Buffers.{Buffers}
use Rattle.layout.proofs.Buffers.fill.Given as goal

-- the buffers, of which nothing is filled yet
abbrev unfilled : Buffers → Buffers
unfilled b = record b { filled = record { words = 0; rows = 0; tables = 0 } }

abbrev pub invariant-loop-at : goal.invariant-loop-at
invariant-loop-at l = record {
  same : SameBuffers l.fn.self l.self;
  room : HasRoom l.s l.at l.self;
  leads : Leads (unfilled l.fn.self) (rest l.s 0 (unfilled l.fn.self)) l.self (rest l.s l.at l.self);
}

abbrev pub decreases-loop-at : goal.decreases-loop-at
decreases-loop-at l = length l.s - l.at
