use Rattle.std.proofs.Common.{refl}
use Rattle.faults.proofs.RowLaws.{judges_loop}
use Rattle.faults.proofs.check.judge_loop.Goals as goal

pub returns : goal.returns
returns c = λ l rs. judges_loop c.args.res l rs c.bind.ensures.bindings c.bind.ensures.same c.bind.ensures.names refl c.loop_unbound-unbound.ensures c.default.ensures.1.0 c.default.ensures.1.1
