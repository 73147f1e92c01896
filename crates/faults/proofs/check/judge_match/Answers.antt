use Rattle.faults.proofs.RowLaws.{judges_match}
use Rattle.faults.proofs.check.judge_match.Goals as goal

pub returns : goal.returns
returns c =
    let plan = c.args.names.now.bindings.plan.now in
    judges_match plan.words.now plan.rows.now c.args.level c.args.first c.args.last c.args.q c.arms_of-arms.ensures c.name_arm-own.ensures.names c.expr_calls-calls.ensures.names c.opened_by.ensures c.expr_calls-calls.ensures.found c.name_arm-own.ensures.found c.default.ensures.0
