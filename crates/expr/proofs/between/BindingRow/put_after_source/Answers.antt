use Rattle.std.proofs.Common.{refl, sym}
use mathlib.Core.Logic.{inl, inr}
use Rattle.view.specs.Told.{binding_told}
use Rattle.view.specs.Buffers.{env_of}
use Rattle.expr.specs.Between.{after_source, after_parameter}
use Rattle.expr.proofs.Bindings.{after_other}
use Rattle.expr.proofs.Calls.{emits_call}
use Rattle.expr.proofs.between.BindingRow.put_after_source.Goals as goal

pub returns-in-Some : goal.returns-in-Some
returns-in-Some c =
    let env = env_of c.args.self.now.plan.now in
    λ d. emits_call (λ k. after_source env k c.args.i c.args.q c.args.given) (λ g. after_parameter env g c.args.i c.args.given) (λ n. refl) (λ n. refl) (binding_told c.args.self.now.binding) c.in-Some.sig c.called.ensures c.in-Some.is (c.after_parameter.ensures d _)

pub returns-in-MakeVariant : goal.returns-in-MakeVariant
returns-in-MakeVariant c =
    let env = env_of c.args.self.now.plan.now in
    λ d. elim c.in-MakeVariant.is [
      | inl (n, v, h) ↦ rw h (c.after_field.ensures.emits env d c.args.q _ (sym c.contains.ensures))
      | inr (n, h) ↦ rw h (c.after_field.ensures.emits env d c.args.q _ (sym c.contains.ensures))
    ]

pub returns-in_default-binding : goal.returns-in_default-binding
returns-in_default-binding c =
    let k = c.in_default-binding in
    let env = env_of c.args.self.now.plan.now in
    λ d. rw (after_other c.args.self.now.binding env c.called.ensures c.in_default.is k.not-MakeVariant k.not-MakeStruct c.args.i c.args.q c.args.given) (c.put_after.ensures.emits env d)
