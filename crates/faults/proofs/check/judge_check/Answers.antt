use Rattle.std.proofs.Common.{ap}
use Rattle.row_frames.specs.Told.{opens_told}
use Rattle.faults.proofs.RowLaws.{judges_equal, judges_return}
use Rattle.faults.proofs.check.judge_check.Goals as goal

pub returns-in-Equal : goal.returns-in-Equal
returns-in-Equal c =
    let step = c.step_calls.ensures in
    rw (← c.control_flow_at.ensures, c.in-Equal.is) (judges_equal _ _ _ _ c.expr_calls-first.ensures.names c.expr_calls-second.ensures.names (ap opens_told step.3) c.expr_calls-first.ensures.found c.expr_calls-second.ensures.found step.1 step.0 step.2)

pub returns-in-Loop : goal.returns-in-Loop
returns-in-Loop c = rw (← c.control_flow_at.ensures, c.in-Loop.is) (c.judge_loop.ensures _ _)

pub returns-in-Return : goal.returns-in-Return
returns-in-Return c =
    let step = c.step_calls-in-Return.ensures in
    rw (← c.control_flow_at.ensures, c.in-Return.is) (judges_return _ _ _ _ c.expr_calls-found.ensures.names (ap opens_told step.3) (rw step.1 c.expr_calls-found.ensures.found) step.0 step.2)
