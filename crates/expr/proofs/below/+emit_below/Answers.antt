use Rattle.std.proofs.Common.{sym}
use Rattle.expr.proofs.Loops.{stands_turn, stands_end}
use Rattle.expr.proofs.below.+emit_below.Goals as goal

pub loop-next-preserved : goal.loop-next-preserved
loop-next-preserved t c =
    let n = c.go_on-next.ensures in
    stands_turn c.args.scope.now c.args.depth c.args.b c.in-Some.source c.go_on-next.result (rw c.in-Some.is at c.loop-next.invariant)
    (sym c.contains-given.ensures) c.emit_below.ensures n.more n.written n.same n.source

pub returns : goal.returns
returns t c =
    stands_end c.args.scope.now c.args.depth c.args.b (rw c.in_default.is at c.loop-next.invariant) c.begin-next.ensures.written c.begin-next.ensures.same
