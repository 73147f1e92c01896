use Rattle.std.proofs.Common.{◌∙◌}
use borrow.Author.Rules.{rules}
use Rattle.programs.proofs.Sheets.{refusal_printed}
use Rattle.programs.proofs.schedule.Goals as goal

pub returns-in-Err : goal.returns-in-Err
returns-in-Err c = c.put_refusal.ensures ∙ refusal_printed c.args.plan.now (search rules) c.in-Err.ensures
