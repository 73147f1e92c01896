use Rattle.std.proofs.Common.{◌<◌}
use Rattle.steps.proofs.LetLaws.{LetsLeft}
use Rattle.steps.proofs.lets.emit_lets.Given as goal

abbrev pub invariant-loop-b : goal.invariant-loop-b
invariant-loop-b l = LetsLeft (l.depth < 4294967296) l.body l.depth l.b-items l.initial.w l.initial.refs l.initial.bound l.b-index l.w l.refs l.bound
