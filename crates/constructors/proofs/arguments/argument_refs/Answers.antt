use mathlib.Core.Path.{sym, ◌∙◌}
use native.Mathlib.Omega.{arith}
use Rattle.view.specs.Buffers.{env_of}
use Rattle.constructors.specs.Arguments.{same_then, refs_next, refs_end}
use Rattle.constructors.proofs.arguments.argument_refs.Goals as goal

pub loop-i-preserved : goal.loop-i-preserved
loop-i-preserved c = (
  c.loop-i.invariant.0 ∙ refs_next (env_of c.args.plan.now) _ _ _ _ c.param_ty.result.0 (omega (arith, c.param_count-i-end.ensures)) c.param_ty.ensures c.mark_argument.ensures.refs,
  same_then c.loop-i.invariant.1 c.mark_argument.ensures.same,
)

pub returns-clause-refs : goal.returns-clause-refs
returns-clause-refs c = sym (c.loop-i.invariant.0 ∙ refs_end (env_of c.args.plan.now) _ _ _ _ (omega (arith, c.param_count-i-end.ensures)))
