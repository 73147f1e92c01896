-- What a row's words say, by the kind that one of them is. Assumes nothing: these are definitions.
use Rattle.std.specs.Prelude.{ℕ, List, drop}
use Rattle.plan.specs.Plan.{TypeData, Primitive, Enum, Struct, unit, named, tuple}
use Rattle.plan.specs.Binding as binding
use Rattle.plan.specs.Constraint as constraint
use Rattle.plan.specs.Row as row
use Rattle.cells.specs.Value.{value_of}
use Rattle.rows.specs.View.{nth, flagged, wide_at, fields_in, declared_of}
use Rattle.rows.specs.declared.kinds.TypeKind.{TypeKind}
use Rattle.rows.specs.declared.kinds.TypeKind.TheVariants as t
use Rattle.rows.specs.declared.kinds.BindingKind.{BindingKind}
use Rattle.rows.specs.declared.kinds.BindingKind.TheVariants as b
use Rattle.rows.specs.declared.kinds.BlockKind.{BlockKind}
use Rattle.rows.specs.declared.kinds.BlockKind.TheVariants as k

abbrev pub type_by : TypeKind → List ℕ → TypeData
type_by t.Prim ws = Primitive (nth ws 1)
type_by t.Enum ws = Enum (declared_of ws)
type_by t.Unit ws = Struct (declared_of ws) unit
type_by t.Named ws = Struct (declared_of ws) (named (fields_in (drop 5 ws)))
type_by t.Tuple ws = Struct (declared_of ws) (tuple (drop 5 ws))

abbrev pub binding_by : BindingKind → List ℕ → binding.Binding
binding_by b.ConstBool ws = binding.ConstBool (flagged (nth ws 1))
binding_by b.ConstInt ws = binding.ConstInt (nth ws 1) (value_of (wide_at ws 2))
binding_by b.ConstPrim ws = binding.ConstPrim (nth ws 1)
binding_by b.Argument ws = binding.Argument (nth ws 1)
binding_by b.Extractor ws = binding.Extractor (nth ws 1)
binding_by b.Constructor ws = binding.Constructor (nth ws 1)
binding_by b.Iterator ws = binding.Iterator
binding_by b.MakeVariant ws = binding.MakeVariant (nth ws 1) (nth ws 2)
binding_by b.MakeStruct ws = binding.MakeStruct (nth ws 1)
binding_by b.MakeSome ws = binding.MakeSome
binding_by b.MatchSome ws = binding.MatchSome
binding_by b.MatchTuple ws = binding.MatchTuple (nth ws 1)
binding_by b.MatchVariant ws = binding.MatchVariant (nth ws 1)
binding_by b.ExtractStruct ws = binding.ExtractStruct (nth ws 1)

-- a step; an arm's words are read as those of a `match`
abbrev pub step_by : BlockKind → List ℕ → row.ControlFlow
step_by k.Match ws = row.Match (nth ws 2)
step_by k.Equal ws = row.Equal (nth ws 2) (nth ws 3)
step_by k.Loop ws = row.Loop (nth ws 2)
step_by k.Return ws = row.Return (nth ws 2) (nth ws 3)
step_by k.ConstBool ws = row.Match (nth ws 2)
step_by k.ConstInt ws = row.Match (nth ws 2)
step_by k.ConstPrim ws = row.Match (nth ws 2)
step_by k.Variant ws = row.Match (nth ws 2)
step_by k.Struct ws = row.Match (nth ws 2)
step_by k.Some ws = row.Match (nth ws 2)

-- an arm; a step's words are read as those of a `bool`
abbrev pub arm_by : BlockKind → List ℕ → constraint.Constraint
arm_by k.Match ws = constraint.ConstBool (flagged (nth ws 2))
arm_by k.Equal ws = constraint.ConstBool (flagged (nth ws 2))
arm_by k.Loop ws = constraint.ConstBool (flagged (nth ws 2))
arm_by k.Return ws = constraint.ConstBool (flagged (nth ws 2))
arm_by k.ConstBool ws = constraint.ConstBool (flagged (nth ws 2))
arm_by k.ConstInt ws = constraint.ConstInt (nth ws 2) (value_of (wide_at ws 3))
arm_by k.ConstPrim ws = constraint.ConstPrim (nth ws 2)
arm_by k.Variant ws = constraint.Variant (nth ws 2) (nth ws 3)
arm_by k.Struct ws = constraint.Struct (nth ws 2)
arm_by k.Some ws = constraint.Some
