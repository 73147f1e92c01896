use Rattle.std.proofs.Common.{[], refl}
use Rattle.view.specs.Told.{binding_told}
use Rattle.view.specs.Buffers.{env_of}
use Rattle.sema.specs.Fields.{fields_read}
use Rattle.emits.specs.Runs.{emits_sink, emits_say}
use Rattle.expr.specs.Between.{before_source, before_parameter}
use Rattle.expr_parts.proofs.Laws.{odd_head}
use Rattle.expr.proofs.Calls.{emits_call}
use Rattle.expr.proofs.between.BindingRow.put_before.Goals as goal

pub returns-in-Some-clause-emits : goal.returns-in-Some-clause-emits
returns-in-Some-clause-emits c =
    let env = env_of c.args.self.now.plan.now in
    λ v d₀ d m q. emits_call (λ k. before_source env d k c.args.i c.args.given) (λ g. before_parameter env g c.args.i c.args.given) (λ n. refl) (λ n. refl) (binding_told c.args.self.now.binding) c.in-Some.sig c.called.ensures c.in-Some.is (c.before_parameter.ensures d₀ m)

pub returns-in-MakeVariant-clause-emits : goal.returns-in-MakeVariant-clause-emits
returns-in-MakeVariant-clause-emits c = λ v d₀ d m q. rw (c.in-MakeVariant.is, ← (c.variant-variant.ensures.own v).1) (emits_say (odd_head (fields_read c.variant-variant.result.fields) c.args.i d) (c.field_head.ensures.shows d₀ d q))

pub returns-in-MakeStruct-clause-emits : goal.returns-in-MakeStruct-clause-emits
returns-in-MakeStruct-clause-emits c = λ v d₀ d m q. rw (c.in-MakeStruct.is, ← c.fields.ensures) (emits_say (odd_head (fields_read c.fields.result) c.args.i d) (c.field_head-in-MakeStruct.ensures.shows d₀ d q))

pub returns-in-Some-clause-same : goal.returns-in-Some-clause-same
returns-in-Some-clause-same c = emits_sink (c.before_parameter.ensures 0 [])
