use Rattle.std.proofs.Common.{refl, rules}
use Rattle.faults.specs.Terms.{term_put}
use Rattle.faults.proofs.sheet.put_term.Goals as goal

pub returns : goal.returns
returns c = term_put c.args.plan.now c.args.g refl refl c.row_range.ensures.first.0 c.row_range.ensures.end.0 c.number.ensures (search rules) c.put_block.ensures
