use Rattle.std.proofs.Common.{refl, arith}
use Rattle.steps.proofs.CheckLaws.{own_deep}
use Rattle.steps.proofs.LetLaws.{lets_more, lets_done}
use Rattle.steps.proofs.lets.emit_lets.Goals as goal

pub loop-b-preserved : goal.loop-b-preserved
loop-b-preserved c = lets_more c.loop-b.invariant c.loop-b-test.true refl (own_deep (λ d. omega arith) c.emit_let.ensures)

pub returns : goal.returns
returns c = rw (← c.list-b-items.ensures) (lets_done c.loop-b.invariant c.loop-b-test.false)
