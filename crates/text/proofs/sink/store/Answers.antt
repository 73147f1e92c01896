use Rattle.std.proofs.Common.{refl, ◌∙◌, arith}
use Rattle.text.specs.SinkLaws.{stores_more, stores_all, sets_take}
use Rattle.text.proofs.sink.store.Goals as goal

pub loop-i-preserved : goal.loop-i-preserved
loop-i-preserved c = stores_more c.loop-i.invariant (omega arith) refl

pub returns : goal.returns
returns c = stores_all c.loop-i.invariant (omega arith) ∙ sets_take c.args.out.now c.args.at c.min-n.result c.args.src.now (omega arith)
