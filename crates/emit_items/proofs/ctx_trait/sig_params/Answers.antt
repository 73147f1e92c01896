use Rattle.std.specs.Prelude.{◌≡◌}
use native.Mathlib.Omega.{arith}
use Rattle.view.specs.Buffers.{env_of}
use Rattle.sema.specs.Signature.{sig_told}
use Rattle.emits.specs.Sinks.{left_all, left_more, left_last}
use Rattle.emit_items.proofs.ctx_trait.Lists.{join_is, params_next, params_end}
use Rattle.emit_items.proofs.ctx_trait.sig_params.Goals as goal

pub loop-i-init : goal.loop-i-init
loop-i-init c = left_all (join_is _)

pub loop-i-preserved : goal.loop-i-preserved
loop-i-preserved c =
    let env = env_of c.args.plan.now in
    let sig = sig_told env c.args.sig in
    left_more c.loop-i.invariant (params_next env sig.param_tys c.loop-i.i sig (omega arith)) c.param.ensures

pub returns : goal.returns
returns c =
    let env = env_of c.args.plan.now in
    let sig = sig_told env c.args.sig in
    let all : c.loop-i.i ≡ c.param_count-n.result = omega arith in
    left_last c.loop-i.invariant (params_end env sig.param_tys c.loop-i.i sig (omega arith)) (rw all c.last_param.ensures)
