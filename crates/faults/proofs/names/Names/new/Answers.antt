use Rattle.faults.proofs.RowLaws.{ready_fresh}
use Rattle.faults.proofs.names.Names.new.Goals as goal

pub invariant_of-result : goal.invariant_of-result
invariant_of-result c = record { ready = ready_fresh c.new.ensures.fresh }
