use Rattle.std.proofs.Common.{sym, ◌∙◌}
use Rattle.blocks.specs.Row.{step_lets, arm_lets}
use Rattle.blocks.proofs.row.emit_bind_order.Goals as goal

pub returns-then-is_step-clause-own : goal.returns-then-is_step-clause-own
returns-then-is_step-clause-own c = step_lets c.args.body.now c.args.r c.args.context.now.is_bound c.requires (sym c.is_step.ensures ∙ c.if-is_step.true) c.emit_lets.ensures

pub returns-else-is_step-clause-own : goal.returns-else-is_step-clause-own
returns-else-is_step-clause-own c = arm_lets c.args.body.now c.args.r (sym c.is_step.ensures ∙ c.if-is_step.false)
