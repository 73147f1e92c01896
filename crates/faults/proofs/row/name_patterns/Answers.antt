use Rattle.faults.proofs.RowLaws.{ready_fresh}
use Rattle.faults.proofs.row.name_patterns.Goals as goal

pub invariant_of-names : goal.invariant_of-names
invariant_of-names c = record { ready = ready_fresh (c.raise.ensures.fresh c.args.names.now.ready.latest) }
