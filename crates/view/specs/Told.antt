-- What the declared types say in the definition's terms. Assumes nothing: these are definitions.
use Rattle.std.specs.Prelude as code
use Rattle.std.specs.Prelude.{ℕ, ◌-◌, List, Some, None}
use Rattle.std.proofs.Math.Option.{Option, some, none}
use Rattle.text.specs.Wide.{whole}
use Rattle.plan.specs.Plan as plan
use Rattle.plan.specs.Binding as binding
use Rattle.plan.specs.Constraint as constraint
use Rattle.plan.specs.Row as row
use Rattle.rows.specs.View.{nth, wide_at, fields_in, step_made, arm_made}
use Rattle.view.specs.declared.binding.Binding.{Binding}
use Rattle.view.specs.declared.binding.Binding.TheVariants as b
use Rattle.view.specs.declared.block.Constraint.{Constraint}
use Rattle.view.specs.declared.block.Constraint.TheVariants as c
use Rattle.view.specs.declared.block.ControlFlow.{ControlFlow}
use Rattle.view.specs.declared.block.ControlFlow.TheVariants as f
use Rattle.view.specs.declared.environment.FunctionKind.{FunctionKind}
use Rattle.view.specs.declared.environment.FunctionKind.TheVariants as k
use Rattle.rows.specs.declared.kinds.Shape.{Shape}
use Rattle.rows.specs.declared.kinds.Shape.TheVariants as s
use Rattle.view.specs.declared.environment.Declared.{Declared}
use Rattle.view.specs.declared.environment.Term.{Term}
use Rattle.view.specs.declared.environment.TypeData.{TypeData}
use Rattle.view.specs.declared.environment.TypeData.TheVariants as t
use Rattle.view.specs.declared.environment.Variant.{Variant}

abbrev pub binding_told : Binding → binding.Binding
binding_told (b.ConstBool v) = binding.ConstBool v
binding_told (b.ConstInt ty v) = binding.ConstInt ty (whole v)
binding_told (b.ConstPrim v) = binding.ConstPrim v
binding_told (b.Argument i) = binding.Argument i
binding_told (b.Extractor m) = binding.Extractor m
binding_told (b.Constructor m) = binding.Constructor m
binding_told b.Iterator = binding.Iterator
binding_told (b.MakeVariant ty v) = binding.MakeVariant ty v
binding_told (b.MakeStruct ty) = binding.MakeStruct ty
binding_told b.MakeSome = binding.MakeSome
binding_told b.MatchSome = binding.MatchSome
binding_told (b.MatchTuple n) = binding.MatchTuple n
binding_told (b.MatchVariant n) = binding.MatchVariant n
binding_told (b.ExtractStruct n) = binding.ExtractStruct n

abbrev pub constraint_told : Constraint → constraint.Constraint
constraint_told (c.ConstBool v) = constraint.ConstBool v
constraint_told (c.ConstInt ty v) = constraint.ConstInt ty (whole v)
constraint_told (c.ConstPrim v) = constraint.ConstPrim v
constraint_told (c.Variant ty v) = constraint.Variant ty v
constraint_told (c.Struct ty) = constraint.Struct ty
constraint_told c.Some = constraint.Some

abbrev pub control_flow_told : ControlFlow → row.ControlFlow
control_flow_told (f.Match q) = row.Match q
control_flow_told (f.Equal a b) = row.Equal a b
control_flow_told (f.Loop r) = row.Loop r
control_flow_told (f.Return r p) = row.Return r p

-- what the words of a step say, and those of an arm
abbrev pub control_flow_of : List ℕ → row.ControlFlow
control_flow_of ws = step_made (nth ws 1) (nth ws 2) (wide_at ws 3)

abbrev pub constraint_of : List ℕ → constraint.Constraint
constraint_of ws = arm_made (nth ws 1 - 4) (nth ws 2) (wide_at ws 3)

-- a binding of a pattern, or `_`
abbrev pub pattern_told : code.Option ℕ → Option ℕ
pattern_told None = none
pattern_told (Some b) = some b

abbrev pub function_told : FunctionKind → plan.FunctionKind
function_told k.Absent = plan.absent
function_told k.Internal = plan.internal
function_told (k.External n) = plan.external n

-- a shape with the words of its list
abbrev pub fields_told : Shape → List ℕ → plan.Fields
fields_told s.Unit ws = plan.unit
fields_told s.Named ws = plan.named (fields_in ws)
fields_told s.Tuple ws = plan.tuple ws

abbrev pub declared_told : Declared → plan.Declared
declared_told d = record { name = d.name; is_extern = d.is_extern; is_nodebug = d.is_nodebug; pos = d.pos }

-- a type with the words of its list
abbrev pub type_told : TypeData → List ℕ → plan.TypeData
type_told (t.Builtin t) ws = plan.Builtin t
type_told (t.Primitive n) ws = plan.Primitive n
type_told (t.Enum d) ws = plan.Enum (declared_told d)
type_told (t.Struct d s) ws = plan.Struct (declared_told d) (fields_told s ws)

-- a variant and a term with the words of their lists
abbrev pub variant_told : Variant → List ℕ → plan.Variant
variant_told v ws = record { ty = v.ty; name = v.name; fields = fields_told v.shape ws }

abbrev pub term_told : Term → List ℕ → plan.Term
term_told m ws = record { name = m.name; pos = m.pos; ret_ty = m.ret_ty; multi = m.multi; partial = m.partial; ctor = function_told m.ctor; xtor = function_told m.xtor; infallible = m.infallible; arg_tys = ws }
