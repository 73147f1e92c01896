use Rattle.std.proofs.Common.{◌≡◌, rules}
use Rattle.std.specs.Prelude.{Err}
use Rattle.schedule_rules.specs.Passes.{accepted_passes}
use Rattle.schedule_rules.specs.Sheet.{sheet_answer}
use Rattle.schedule_check.specs.Answered.{Checked}
use Rattle.schedule_check.proofs.Laws.{answers_refused, held}
use Rattle.schedule_check.proofs.answer_read.Goals as goal

pub returns-in_err-held : goal.returns-in_err-held
returns-in_err-held c = let q : ◌≡◌ {A = Checked} c.from_residual.result (Err c.in_err-held.field-0.0) = search rules in rw q (answers_refused _ _ _ _ _ _ _ c.in_err-held.ensures.says)

pub plan_held-laid-requires : goal.plan_held-laid-requires
plan_held-laid-requires c = (held _ _ _ _ _ c.in_ok-held.ensures.says).0

pub answer_held-requires : goal.answer_held-requires
answer_held-requires c = let z = c.plan_held-laid.ensures in rw (z.0, z.1, z.2, z.3) (accepted_passes _ _ (held _ _ _ _ _ c.in_ok-held.ensures.says).1)

pub returns : goal.returns
unfolding sheet_answer
returns c = let z = c.plan_held-laid.ensures in rw (held _ _ _ _ _ c.in_ok-held.ensures.says).1 (rw (z.0, z.1, z.2, z.3) at c.answer_held.ensures)
