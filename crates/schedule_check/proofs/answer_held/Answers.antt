use Rattle.std.proofs.Common.{refl, ◌∙◌, arith}
use Rattle.text.specs.SinkLaws.{sets_front}
use Rattle.view.specs.Buffers.{plan_of}
use Rattle.schedule_check.proofs.Laws.{answers_room, answers_copied, answers_put}
use Rattle.schedule_check.proofs.answer_held.Goals as goal

pub returns-then-room-length : goal.returns-then-room-length
returns-then-room-length c = answers_room (plan_of c.args.plan.now) c.put_measured-length.ensures c.if-room-length.true c.args.out.now

pub returns-then-length-draft : goal.returns-then-length-draft
returns-then-length-draft c = answers_copied (plan_of c.args.plan.now) c.put_measured-length.ensures c.if-room-length.false (omega (arith, c.put_measured-length.auto.out, c.if-length-draft.true)) (c.store.ensures ∙ sets_front _ _ c.args.out.now (omega (arith, c.put_measured-length.auto.out, c.if-length-draft.true)) (omega (arith, c.if-room-length.false)))

pub returns-else-length-draft : goal.returns-else-length-draft
returns-else-length-draft c = answers_put (plan_of c.args.plan.now) c.put_measured-length.ensures c.if-room-length.false refl c.put_measured.ensures
