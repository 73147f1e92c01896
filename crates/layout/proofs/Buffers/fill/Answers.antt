use Rattle.std.proofs.Common.{arith}
use Rattle.layout.proofs.Laws.{is_generated}
use Rattle.layout.proofs.Filling.{leads_none, nothing_filled, filled_at_end}
use Rattle.layout.proofs.Buffers.fill.Goals as goal

pub returns-in_err-at-clause-fill : goal.returns-in_err-at-clause-fill
returns-in_err-at-clause-fill c = rw c.from_residual.ensures (nothing_filled _ _ _ _ _ _ _ _ _ _
    (leads_none (record { words = c.args.self.now.words; rows = c.args.self.now.rows; tables = c.args.self.now.tables; filled = record { words = 0; rows = 0; tables = 0 } }) _ c.loop-at.self _ c.loop-at.invariant.leads c.in_err-at.ensures.table))

pub returns-clause-fill : goal.returns-clause-fill
returns-clause-fill c = c.loop-at.invariant.leads _ _ _ _ (rw (c.then_some.ensures, c.eq-is_whole.ensures, is_generated, c.table_at.ensures) (filled_at_end c.args.s.now c.loop-at.at c.loop-at.self (omega arith)))
