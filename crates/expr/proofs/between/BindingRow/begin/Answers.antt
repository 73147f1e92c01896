use Rattle.std.proofs.Common.{[], refl, ◌∙◌}
use Rattle.codegen.specs.Piece.{odd_piece, odd_pieces}
use Rattle.view.specs.Told.{binding_told}
use Rattle.view.specs.Buffers.{env_of}
use Rattle.emits.specs.Runs.{emits_sink, shows_sink, emits_say, ◌⟫◌}
use Rattle.expr.specs.Between.{begins, call_head}
use Rattle.expr.proofs.Calls.{emits_call}
use Rattle.expr.proofs.between.BindingRow.begin.Goals as goal

pub returns-in-Some-clause-emits : goal.returns-in-Some-clause-emits
returns-in-Some-clause-emits c =
    let env = env_of c.args.self.now.plan.now in
    let b = c.args.self.now.number in
    λ v d. emits_call (λ k. begins env b k c.args.self.now.sources.now) (call_head env b) (λ m. refl) (λ m. refl) (binding_told c.args.self.now.binding) c.in-Some.sig c.called.ensures c.in-Some.is (c.call_head.ensures d)

pub returns-in-ConstBool-clause-emits : goal.returns-in-ConstBool-clause-emits
returns-in-ConstBool-clause-emits c = λ v d. rw c.in-ConstBool.is (c.emit_bool.ensures (env_of c.args.self.now.plan.now) d _)

pub returns-in-ConstInt-clause-emits : goal.returns-in-ConstInt-clause-emits
returns-in-ConstInt-clause-emits c = λ v d. rw c.in-ConstInt.is (c.emit_int.ensures c.args.self.now.plan.now d _)

pub returns-in-ConstPrim-clause-emits : goal.returns-in-ConstPrim-clause-emits
unfolding odd_pieces odd_piece
returns-in-ConstPrim-clause-emits c = λ v d. rw c.in-ConstPrim.is (emits_say refl (c.const_prim.ensures d))

pub returns-in-Argument-clause-emits : goal.returns-in-Argument-clause-emits
unfolding odd_pieces odd_piece
returns-in-Argument-clause-emits c = λ v d. rw c.in-Argument.is (emits_say refl (c.argument.ensures (env_of c.args.self.now.plan.now) d))

pub returns-in-MakeVariant-clause-emits : goal.returns-in-MakeVariant-clause-emits
unfolding odd_pieces odd_piece
returns-in-MakeVariant-clause-emits c = λ v d. rw (c.in-MakeVariant.is, ← (c.variant-variant.ensures.own v).0) (emits_say refl (c.variant_name.ensures d) ⟫ c.open_fields.ensures (env_of c.args.self.now.plan.now) d _)

pub returns-in-MakeStruct-clause-emits : goal.returns-in-MakeStruct-clause-emits
unfolding odd_pieces odd_piece
returns-in-MakeStruct-clause-emits c = λ v d. rw c.in-MakeStruct.is (emits_say refl (c.type_name.ensures d) ⟫ c.open_fields-in-MakeStruct.ensures (env_of c.args.self.now.plan.now) d _)

-- THE SINK, whatever the plan

pub returns-in-Some-clause-same : goal.returns-in-Some-clause-same
returns-in-Some-clause-same c = emits_sink (c.call_head.ensures 0)

pub returns-in-ConstBool-clause-same : goal.returns-in-ConstBool-clause-same
returns-in-ConstBool-clause-same c = emits_sink (c.emit_bool.ensures (env_of c.args.self.now.plan.now) 0 [])

pub returns-in-ConstInt-clause-same : goal.returns-in-ConstInt-clause-same
returns-in-ConstInt-clause-same c = emits_sink (c.emit_int.ensures c.args.self.now.plan.now 0 [])

pub returns-in-ConstPrim-clause-same : goal.returns-in-ConstPrim-clause-same
returns-in-ConstPrim-clause-same c = shows_sink (c.const_prim.ensures 0)

pub returns-in-Argument-clause-same : goal.returns-in-Argument-clause-same
returns-in-Argument-clause-same c = shows_sink (c.argument.ensures (env_of c.args.self.now.plan.now) 0)

pub returns-in-MakeVariant-clause-same : goal.returns-in-MakeVariant-clause-same
returns-in-MakeVariant-clause-same c =
    let p = shows_sink (c.variant_name.ensures 0) in
    let q = emits_sink (c.open_fields.ensures (env_of c.args.self.now.plan.now) 0 []) in
    (q.0 ∙ p.0, q.1 ∙ p.1, q.2 ∙ p.2)

pub returns-in-MakeStruct-clause-same : goal.returns-in-MakeStruct-clause-same
returns-in-MakeStruct-clause-same c =
    let p = shows_sink (c.type_name.ensures 0) in
    let q = emits_sink (c.open_fields-in-MakeStruct.ensures (env_of c.args.self.now.plan.now) 0 []) in
    (q.0 ∙ p.0, q.1 ∙ p.1, q.2 ∙ p.2)
