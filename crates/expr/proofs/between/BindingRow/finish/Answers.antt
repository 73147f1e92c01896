use Rattle.std.proofs.Common.{refl}
use mathlib.Core.Logic.{inl, inr}
use Rattle.view.specs.Told.{binding_told}
use Rattle.view.specs.Buffers.{env_of}
use Rattle.sema.specs.Signature.{sig_told}
use Rattle.emits.specs.Runs.{shows_sink, emits_say}
use Rattle.expr.specs.Between.{ends, call_end}
use Rattle.expr_parts.proofs.Laws.{odd_end}
use Rattle.expr.proofs.Calls.{emits_call}
use Rattle.expr.proofs.between.BindingRow.finish.Goals as goal

pub returns-in-Some-clause-emits : goal.returns-in-Some-clause-emits
returns-in-Some-clause-emits c =
    let env = env_of c.args.self.now.plan.now in
    let b = c.args.self.now.number in
    λ d₀ d m q. emits_call (λ k. ends env d b k c.args.self.now.sources.now) (call_end b) (λ n. refl) (λ n. refl) (binding_told c.args.self.now.binding) c.in-Some.sig c.called.ensures c.in-Some.is (emits_say (odd_end (sig_told env c.in-Some.sig).ret_kind b) (c.put_call_end.ensures env d₀))

pub returns-in-MakeVariant-clause-emits : goal.returns-in-MakeVariant-clause-emits
returns-in-MakeVariant-clause-emits c =
    let env = env_of c.args.self.now.plan.now in
    λ d₀ d m q. elim c.in-MakeVariant.is [
      | inl (n, v, h) ↦ rw h (c.close_fields.ensures.emits env d₀ d m q)
      | inr (n, h) ↦ rw h (c.close_fields.ensures.emits env d₀ d m q)
    ]

pub returns-in-Some-clause-same : goal.returns-in-Some-clause-same
returns-in-Some-clause-same c = shows_sink (c.put_call_end.ensures (env_of c.args.self.now.plan.now) 0)
