use Rattle.std.proofs.Common.{sym, ◌∙◌}
use Rattle.blocks.specs.Row.{step_check, arm_check}
use Rattle.blocks.proofs.row.emit_case.Goals as goal

pub returns-then-is_step : goal.returns-then-is_step
returns-then-is_step c = step_check c.args.body.now c.args.r c.args.bound.now c.args.last _ c.requires (sym c.is_step.ensures ∙ c.if-is_step.true) c.emit_check.ensures

pub returns : goal.returns
returns c = arm_check c.args.body.now c.args.r c.args.bound.now c.args.last _ (sym c.is_step.ensures ∙ c.if-is_step.false) c.emit_arm.ensures
