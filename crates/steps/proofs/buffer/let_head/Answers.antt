use Rattle.body.specs.Told.{env_in}
use Rattle.steps.proofs.Calls.{iter_return_of}
use Rattle.steps.proofs.buffer.let_head.Goals as goal

pub returns-in-None : goal.returns-in-None
returns-in-None c =
    let env = env_in c.args.body.now in
    rw (← iter_return_of env _ c.binding.result c.called.result c.binding.ensures c.called.ensures, c.in-None.is) (c.let_value.ensures env c.args.depth)

pub returns-in-Some : goal.returns-in-Some
returns-in-Some c = rw (← iter_return_of (env_in c.args.body.now) _ c.binding.result c.called.result c.binding.ensures c.called.ensures, c.in-Some.is) c.let_call.ensures
