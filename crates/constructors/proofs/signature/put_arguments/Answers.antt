use native.Mathlib.Omega.{arith}
use Rattle.constructors.specs.Lines.{arguments_more, arguments_done}
use Rattle.constructors.proofs.signature.put_arguments.Goals as goal

pub loop-i-preserved : goal.loop-i-preserved
loop-i-preserved c = arguments_more c.loop-i.invariant c.param_ty.result.0 (omega (arith, c.param_count-i-end.ensures)) c.param_ty.ensures c.put_argument.ensures

pub returns : goal.returns
returns c = arguments_done c.loop-i.invariant (omega (arith, c.param_count-i-end.ensures))
