use native.Mathlib.Omega.{arith}
use mathlib.Core.Path.{sym, ◌∙◌}
use Rattle.view.specs.Buffers.{env_of}
use Rattle.sema.specs.Signature.{sig_told}
use Rattle.emits.specs.Sinks.{shows_as, shows_fix, shows_none, ◌⟫ₛ◌}
use Rattle.emit_items.proofs.ctx_trait.Lists.{ret_none, ret_one, ret_more}
use Rattle.emit_items.proofs.ctx_trait.ret_tuple.Goals as goal

pub returns-in-0 : goal.returns-in-0
returns-in-0 c =
    let env = env_of c.args.plan.now in
    shows_as (ret_none env (sig_told env c.args.sig).ret_tys (sym c.ret_count.ensures ∙ c.in-0.is)) (shows_fix c.put_bytes.ensures shows_none)

pub returns-in-1 : goal.returns-in-1
returns-in-1 c =
    let env = env_of c.args.plan.now in
    shows_as (ret_one env (sig_told env c.args.sig).ret_tys (sym c.ret_count.ensures ∙ c.in-1.is)) (rw (← c.ret_ty.ensures) (c.type_name.ensures 0))

pub returns-in_default : goal.returns-in_default
returns-in_default c =
    let env = env_of c.args.plan.now in
    shows_as (ret_more env (sig_told env c.args.sig).ret_tys (λ q. omega (arith, c.ret_count.ensures)) (λ q. omega (arith, c.ret_count.ensures)))
    (shows_fix c.put_bytes-in_default.ensures (c.ret_types.ensures ⟫ₛ shows_fix c.put_bytes-in_default-2.ensures shows_none))
