use Rattle.std.proofs.Common.{sym, ◌∙◌}
use Rattle.emits.specs.Marks.{set_of}
use Rattle.row_frames.proofs.Laws.{insert_there}
use Rattle.faults.proofs.RowLaws.{ready_fresh}
use Rattle.faults.proofs.names.bind.Goals as goal

pub returns-then-insert-clause-ready : goal.returns-then-insert-clause-ready
returns-then-insert-clause-ready c = λ bindings y. ready_fresh (c.raise.ensures.fresh y.latest)

pub returns-else-insert-clause-ready : goal.returns-else-insert-clause-ready
returns-else-insert-clause-ready c = λ bindings y. rw (c.insert.ensures.marks, insert_there (set_of c.args.bound.now) c.args.b (sym c.insert.ensures.is_new ∙ c.if-insert.false)) y
