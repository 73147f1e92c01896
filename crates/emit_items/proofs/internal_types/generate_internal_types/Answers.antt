use native.Mathlib.Omega.{arith}
use Rattle.std.proofs.Common.{refl}
use Rattle.view.specs.Buffers.{env_of}
use Rattle.emits.specs.Sinks.{left_all, left_more, left_end}
use Rattle.emit_items.proofs.Lists.{types_start, types_next, types_end, type_count}
use Rattle.emit_items.proofs.internal_types.generate_internal_types.Goals as goal

pub loop-n-init : goal.loop-n-init
loop-n-init c = ((refl, refl, refl), λ v. left_all (types_start c.args.plan.now))

pub loop-n-preserved : goal.loop-n-preserved
loop-n-preserved c = (
  (cc, cc, cc),
  λ v. left_more (c.loop-n.invariant.1 v) (types_next (env_of c.args.plan.now) c.loop-n.n (omega (arith, type_count c.args.plan.now))) (c.internal_type.ensures.shows v),
)

pub returns-clause-shows : goal.returns-clause-shows
returns-clause-shows c = λ v. left_end (c.loop-n.invariant.1 v) (types_end (env_of c.args.plan.now) c.loop-n.n (omega (arith, type_count c.args.plan.now)))
