use Rattle.std.proofs.Common.{sym, ◌∙◌}
use Rattle.emits.specs.Marks.{set_of}
use Rattle.faults.proofs.RowLaws.{decides_named, decides_member, ready_kept}
use Rattle.faults.proofs.list.bind_member.Goals as goal

pub returns-then-contains-clause-found : goal.returns-then-contains-clause-found
returns-then-contains-clause-found c = decides_named (set_of c.args.bound.now) c.args.b (sym c.contains.ensures ∙ c.if-contains.true)

pub returns-clause-ready : goal.returns-clause-ready
returns-clause-ready c = c.bind.ensures.ready c.args.bindings.now (ready_kept c.requires c.source_holds-found.ensures)

pub returns-clause-found : goal.returns-clause-found
returns-clause-found c = decides_member c.requires c.args.b (sym c.contains.ensures ∙ c.if-contains.false) c.source_holds-found.ensures
