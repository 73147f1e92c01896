use Rattle.context.proofs.BlockLaws.{one_state}
use Rattle.context.proofs.lent.both_ways.Goals as goal

pub returns : goal.returns
returns c = one_state c.block_steps.ensures c.block_steps_by_value.ensures
