use Rattle.std.proofs.Common.{sym, ◌∙◌, arith}
use Rattle.plan.specs.Refusal.{bytes_allowed}
use Rattle.reader.proofs.Laws.{every_end, every_next}
use Rattle.reader.proofs.all_allowed.Goals as goal

pub loop-c-preserved : goal.loop-c-preserved
loop-c-preserved c = rw c.is_allowed-good.ensures (every_next c.args.s.now c.loop-c.good c.loop-c.c-index c.loop-c-test.true) ∙ c.loop-c.invariant

pub returns : goal.returns
unfolding bytes_allowed
returns c = sym (every_end c.args.s.now c.loop-c.good c.loop-c.c-index (omega arith)) ∙ c.loop-c.invariant
