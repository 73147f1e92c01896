use Rattle.faults.proofs.RowLaws.{ready_fresh}
use Rattle.faults.proofs.names.Names.restore.Goals as goal

pub invariant_of-self : goal.invariant_of-self
invariant_of-self c = record { ready = ready_fresh (c.raise.ensures.fresh c.args.self.now.ready.latest) }
