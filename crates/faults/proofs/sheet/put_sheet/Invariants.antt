use Rattle.text.specs.Writes.{SameSink}
use Rattle.view.specs.Buffers.{plan_of}
use Rattle.schedule_rules.specs.Passes.{Each}
use Rattle.faults.specs.Accepted.{TermFits}
use Rattle.faults.specs.Terms.{LinesLeft}
use Rattle.faults.proofs.sheet.put_sheet.Given as goal

abbrev pub invariant-loop-i : goal.invariant-loop-i
invariant-loop-i l = SameSink l.initial.w l.w × (Each TermFits (plan_of l.plan).generated → LinesLeft l.plan l.initial.w l.i l.w)
