use Rattle.std.specs.Prelude.{◌≡◌, Err}
use borrow.Author.Rules.{rules}
use lib.ListN.{length}
use Rattle.emitter.specs.Answered.{Emitted}
use Rattle.emitter.specs.EntryLaws.{answers_refused, told_tables, answers_held}
use Rattle.emitter.proofs.answer_read.Goals as goal

pub plan_held-unindexed-requires : goal.plan_held-unindexed-requires
plan_held-unindexed-requires c = told_tables c.args.form c.args.plan.now _ _ _ (length c.args.out.now) c.args.out.now c.in_ok-held.held c.in_ok-held.ensures.says

pub returns-in_err-held : goal.returns-in_err-held
returns-in_err-held c = let q : ◌≡◌ {A = Emitted} c.from_residual.result (Err c.in_err-held.field-0.0) = search rules in rw q (answers_refused c.args.form c.args.plan.now _ _ _ (length c.args.out.now) _ c.in_err-held.field-0.0 c.in_err-held.ensures.says)

pub returns : goal.returns
returns c = answers_held c.args.form c.args.plan.now _ _ _ (length c.args.out.now) _ c.in_ok-held.held c.in_ok-held.ensures.says c.in_ok-held.ensures.indexes (λ p h. let z = c.plan_held-unindexed.ensures in c.answer_held.ensures p (rw (z.0, z.1, z.2, z.3) h))
