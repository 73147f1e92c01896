use native.Mathlib.Omega.{arith}
use Rattle.view.specs.Buffers.{env_of}
use Rattle.sema.specs.Signature.{sig_told}
use Rattle.emits.specs.Sinks.{left_all, left_more, left_end, ◌⟫ₛ◌}
use Rattle.emit_items.proofs.ctx_trait.Lists.{join_is, names_next, names_end}
use Rattle.emit_items.proofs.ctx_trait.ret_types.Goals as goal

pub loop-i-init : goal.loop-i-init
loop-i-init c = left_all (join_is _)

pub loop-i-preserved : goal.loop-i-preserved
loop-i-preserved c =
    let env = env_of c.args.plan.now in
    left_more c.loop-i.invariant (names_next env (sig_told env c.args.sig).ret_tys c.loop-i.i (omega arith))
    (c.put_separator.ensures env ⟫ₛ rw (← c.ret_ty.ensures) (c.type_name.ensures 0))

pub returns : goal.returns
returns c =
    let env = env_of c.args.plan.now in
    left_end c.loop-i.invariant (names_end env (sig_told env c.args.sig).ret_tys c.loop-i.i (omega arith))
