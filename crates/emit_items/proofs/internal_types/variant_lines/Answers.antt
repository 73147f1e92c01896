use native.Mathlib.Omega.{arith}
use Rattle.view.specs.Buffers.{env_of}
use Rattle.emits.specs.Sinks.{left_more, left_end}
use Rattle.emit_items.proofs.Lists.{variants_next, variants_end}
use Rattle.emit_items.proofs.internal_types.variant_lines.Goals as goal

pub loop-k-preserved : goal.loop-k-preserved
loop-k-preserved c = (
  (cc, cc, cc),
  λ v. left_more (c.loop-k.invariant.1 v) (variants_next (env_of c.args.plan.now) c.args.ty.0 c.loop-k.k (omega (arith, c.variant_count-k-end.ensures.own v))) (c.variant_line.ensures.shows v),
)

pub returns-clause-shows : goal.returns-clause-shows
returns-clause-shows c = λ v. left_end (c.loop-k.invariant.1 v) (variants_end (env_of c.args.plan.now) c.args.ty.0 c.loop-k.k (omega (arith, c.variant_count-k-end.ensures.own v)))
