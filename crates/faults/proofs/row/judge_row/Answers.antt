use Rattle.std.proofs.Common.{refl, sym, ◌∙◌}
use Rattle.view.specs.Buffers.{words_of}
use Rattle.faults.proofs.RowLaws.{judges_arm, judges_step}
use Rattle.faults.proofs.row.judge_row.Goals as goal

pub returns-then-not-is_step : goal.returns-then-not-is_step
returns-then-not-is_step c = judges_arm (words_of c.args.names.now.bindings.plan.now c.args.r) _ (sym c.is_step.ensures ∙ c.if-not-is_step.true) c.judge_arm.ensures c.save_names.ensures

pub returns : goal.returns
returns c =
    let list = c.list_calls-calls.ensures in
    judges_step (words_of c.args.names.now.bindings.plan.now c.args.r) _ (sym c.is_step.ensures ∙ c.if-not-is_step.false) (record { bindings = refl; names = list.names; same = list.same }) list.found c.judge_check-s.ensures c.save_names-2.ensures refl refl refl refl
