use native.Mathlib.Omega.{arith}
use Rattle.emits.specs.Sinks.{left_more, left_end}
use Rattle.emit_items.proofs.Lists.{named_count, named_next, named_end}
use Rattle.emit_items.proofs.internal_types.WrittenFields.named_fields.Goals as goal

pub loop-i-preserved : goal.loop-i-preserved
loop-i-preserved c = λ fs q.
    left_more (c.loop-i.invariant fs q) (named_next c.args.self.now.allow_pub fs c.loop-i.i (omega (arith, named_count c.count-i-end.ensures q))) (rw q at c.named_field.ensures)

pub returns : goal.returns
returns c = λ fs q. left_end (c.loop-i.invariant fs q) (named_end c.args.self.now.allow_pub fs c.loop-i.i (omega (arith, named_count c.count-i-end.ensures q)))
