use native.Mathlib.Omega.{arith}
use Rattle.emits.specs.Sinks.{left_all, left_more, left_end}
use Rattle.emit_items.proofs.ctx_trait.Lists.{join_is}
use Rattle.emit_items.proofs.Lists.{tuple_count, tuple_next, tuple_end}
use Rattle.emit_items.proofs.internal_types.WrittenFields.tuple_fields.Goals as goal

pub loop-i-init : goal.loop-i-init
loop-i-init c = λ ns q. left_all (join_is _)

pub loop-i-preserved : goal.loop-i-preserved
loop-i-preserved c = λ ns q.
    left_more (c.loop-i.invariant ns q) (tuple_next c.args.self.now.allow_pub ns c.loop-i.i (omega (arith, tuple_count c.count-i-end.ensures q))) (rw q at c.tuple_field.ensures)

pub returns : goal.returns
returns c = λ ns q. left_end (c.loop-i.invariant ns q) (tuple_end c.args.self.now.allow_pub ns c.loop-i.i (omega (arith, tuple_count c.count-i-end.ensures q)))
