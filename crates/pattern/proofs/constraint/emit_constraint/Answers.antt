use Rattle.std.proofs.Common.{[], refl}
use Rattle.codegen.specs.Piece.{odd_piece, odd_pieces}
use Rattle.codegen.specs.Pattern.{emit_constraint}
use Rattle.view.specs.Buffers.{env_of}
use Rattle.emits.specs.Marks.{set_of}
use Rattle.emits.specs.Runs.{emits_sink, shows_sink, emits_say}
use Rattle.pattern.proofs.constraint.emit_constraint.Goals as goal

pub returns-in-ConstBool-clause-emits : goal.returns-in-ConstBool-clause-emits
unfolding emit_constraint
returns-in-ConstBool-clause-emits c = λ v. rw c.in-ConstBool.is (c.emit_bool.ensures (env_of c.args.plan.now) c.args.depth (set_of c.args.refs.now))

pub returns-in-ConstInt-clause-emits : goal.returns-in-ConstInt-clause-emits
unfolding emit_constraint
returns-in-ConstInt-clause-emits c = λ v. rw c.in-ConstInt.is (c.emit_int.ensures c.args.plan.now c.args.depth (set_of c.args.refs.now))

pub returns-in-ConstPrim-clause-emits : goal.returns-in-ConstPrim-clause-emits
unfolding emit_constraint odd_pieces odd_piece
returns-in-ConstPrim-clause-emits c = λ v. rw c.in-ConstPrim.is (emits_say refl (c.const_prim.ensures c.args.depth))

pub returns-in-Variant-clause-emits : goal.returns-in-Variant-clause-emits
returns-in-Variant-clause-emits c = λ v. rw c.in-Variant.is (c.emit_variant.ensures.emits v c.args.q)

pub returns-in-Struct-clause-emits : goal.returns-in-Struct-clause-emits
returns-in-Struct-clause-emits c = λ v. rw c.in-Struct.is (c.emit_struct.ensures c.args.q)

pub returns-in-Some-clause-emits : goal.returns-in-Some-clause-emits
returns-in-Some-clause-emits c = λ v. rw c.in-Some.is (c.emit_some.ensures (env_of c.args.plan.now) c.args.depth)

-- THE SINK, whatever the plan

pub returns-in-ConstBool-clause-same : goal.returns-in-ConstBool-clause-same
returns-in-ConstBool-clause-same c = emits_sink (c.emit_bool.ensures (env_of c.args.plan.now) 0 [])

pub returns-in-ConstInt-clause-same : goal.returns-in-ConstInt-clause-same
returns-in-ConstInt-clause-same c = emits_sink (c.emit_int.ensures c.args.plan.now 0 [])

pub returns-in-ConstPrim-clause-same : goal.returns-in-ConstPrim-clause-same
returns-in-ConstPrim-clause-same c = shows_sink (c.const_prim.ensures 0)

pub returns-in-Struct-clause-same : goal.returns-in-Struct-clause-same
returns-in-Struct-clause-same c = emits_sink (c.emit_struct.ensures c.args.q)

pub returns-in-Some-clause-same : goal.returns-in-Some-clause-same
returns-in-Some-clause-same c = emits_sink (c.emit_some.ensures (env_of c.args.plan.now) 0)
