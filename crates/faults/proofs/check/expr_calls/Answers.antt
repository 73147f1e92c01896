use Rattle.faults.proofs.RowLaws.{ready_kept, decides_calls}
use Rattle.faults.proofs.check.expr_calls.Goals as goal

pub invariant_of-names : goal.invariant_of-names
invariant_of-names c = record { ready = ready_kept c.args.names.now.ready c.expr_holds.ensures }

pub returns-clause-found : goal.returns-clause-found
returns-clause-found c = decides_calls c.args.names.now.ready c.args.b c.expr_holds.ensures
