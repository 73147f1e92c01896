use mathlib.Core.Path.{sym, ◌∙◌}
use Rattle.checks.proofs.Blocks.{fits_other}
use Rattle.checks.proofs.loops.is_iterated.Goals as goal

pub returns-in_default : goal.returns-in_default
returns-in_default c = sym (fits_other _ _ (sym c.is_step.ensures ∙ c.if-not-is_step.false) c.control_flow_at.ensures _ c.in_default.not-Loop)
