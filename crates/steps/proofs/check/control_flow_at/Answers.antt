use Rattle.steps.proofs.SmallLaws.{flow_small}
use Rattle.view.specs.Buffers.{words_of}
use Rattle.steps.proofs.check.control_flow_at.Goals as goal

pub returns-clause-small : goal.returns-clause-small
returns-clause-small c = rw c.control_flow_at.ensures (flow_small (words_of c.args.plan.now c.args.r) (rw (← c.row.ensures) c.know_words.ensures))
