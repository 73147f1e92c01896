use Rattle.std.specs.Prelude.{◌≡◌, ◌≤◌, refl, Option, Some, None, Err}
use Rattle.std.proofs.Common.{◌∙◌, arith}
use borrow.Author.Rules.{rules}
use Rattle.text.specs.SinkLaws.{sets_front}
use Rattle.refusal.specs.declared.Refusal.TheVariants.{Room}
use Rattle.emitter.specs.declared.Text.{Text}
use Rattle.emitter.specs.Answered.{Emitted}
use Rattle.emitter.specs.Held.{form_text, form_count, answer_in}
use Rattle.emitter.specs.EntryLaws.{form_le, answers_none, answers_copied, answers_text}
use lib.ListN.{length}
use Rattle.emitter.proofs.answer_held.Goals as goal

pub returns-in_err-text : goal.returns-in_err-text
unfolding answer_in
returns-in_err-text c = λ p h.
    let n : ◌≡◌ {A = Option Text} c.put_measured.result None = search rules in
    let q : ◌≡◌ {A = Emitted} c.from_residual.result (Err Room) = search rules in
    rw q (answers_none (form_text c.args.form p) (form_count c.args.form p) (form_le c.args.form p) (length c.args.out.now) (rw n at (c.put_measured.ensures.measured p h)) c.args.out.now)

pub returns-then-text-draft : goal.returns-then-text-draft
unfolding answer_in
returns-then-text-draft c = λ p h.
    let s : ◌≡◌ {A = Option Text} c.put_measured.result (Some c.in_ok-text.text) = search rules in
    let w : c.in_ok-text.text.length ≤ length c.args.out.now = rw s at c.put_measured.ensures.within in
    answers_copied (form_text c.args.form p) (form_count c.args.form p) (form_le c.args.form p) (length c.args.out.now) (rw s at (c.put_measured.ensures.measured p h)) (omega (arith, c.put_measured.auto.out)) (c.store.ensures ∙ sets_front c.in_ok-text.text.length _ c.args.out.now (omega (arith, c.put_measured.auto.out)) w)

pub returns-else-text-draft : goal.returns-else-text-draft
unfolding answer_in
returns-else-text-draft c = λ p h.
    let s : ◌≡◌ {A = Option Text} c.put_measured.result (Some c.in_ok-text.text) = search rules in
    answers_text (form_text c.args.form p) (form_count c.args.form p) (form_le c.args.form p) (length c.args.out.now) (rw s at (c.put_measured.ensures.measured p h)) refl (c.put_measured-else-text-draft.ensures.measured p h)
