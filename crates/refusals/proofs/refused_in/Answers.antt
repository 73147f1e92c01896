use Rattle.std.proofs.Common.{◌∙◌}
use Rattle.refusals.proofs.Laws.{refused_is, number_of_err}
use Rattle.refusals.proofs.refused_in.Goals as goal

pub returns : goal.returns
returns g c = rw c.err.ensures.value (number_of_err c.read_into.result ∙ refused_is c.args.plan.now _ _ _ _ c.read_into.ensures.says)
