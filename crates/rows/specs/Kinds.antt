-- The kinds of rows, as their numbers, and back. Assumes nothing: these are definitions.
use Rattle.std.specs.Prelude.{ℕ, cond, eqb}
use Rattle.rows.specs.declared.kinds.TypeKind.{TypeKind}
use Rattle.rows.specs.declared.kinds.TypeKind.TheVariants as of_type
use Rattle.rows.specs.declared.kinds.Shape.{Shape}
use Rattle.rows.specs.declared.kinds.Shape.TheVariants as of_variant
use Rattle.rows.specs.declared.kinds.BindingKind.{BindingKind}
use Rattle.rows.specs.declared.kinds.BindingKind.TheVariants as of_binding
use Rattle.rows.specs.declared.kinds.BlockKind.{BlockKind}
use Rattle.rows.specs.declared.kinds.BlockKind.TheVariants as of_block

abbrev pub type_number : TypeKind → ℕ
type_number of_type.Prim = 0
type_number of_type.Enum = 1
type_number of_type.Unit = 2
type_number of_type.Named = 3
type_number of_type.Tuple = 4

abbrev pub shape_number : Shape → ℕ
shape_number of_variant.Unit = 0
shape_number of_variant.Named = 1
shape_number of_variant.Tuple = 2

abbrev pub binding_number : BindingKind → ℕ
binding_number of_binding.ConstBool = 0
binding_number of_binding.ConstInt = 1
binding_number of_binding.ConstPrim = 2
binding_number of_binding.Argument = 3
binding_number of_binding.Extractor = 4
binding_number of_binding.Constructor = 5
binding_number of_binding.Iterator = 6
binding_number of_binding.MakeVariant = 7
binding_number of_binding.MakeStruct = 8
binding_number of_binding.MakeSome = 9
binding_number of_binding.MatchSome = 10
binding_number of_binding.MatchTuple = 11
binding_number of_binding.MatchVariant = 12
binding_number of_binding.ExtractStruct = 13

abbrev pub block_number : BlockKind → ℕ
block_number of_block.Match = 0
block_number of_block.Equal = 1
block_number of_block.Loop = 2
block_number of_block.Return = 3
block_number of_block.ConstBool = 4
block_number of_block.ConstInt = 5
block_number of_block.ConstPrim = 6
block_number of_block.Variant = 7
block_number of_block.Struct = 8
block_number of_block.Some = 9

-- a number of no kind is as `tuple`
abbrev pub type_kind : ℕ → TypeKind
type_kind n =
    cond (eqb n 0) of_type.Prim
    (cond (eqb n 1) of_type.Enum
    (cond (eqb n 2) of_type.Unit
    (cond (eqb n 3) of_type.Named of_type.Tuple)))

-- a number of no kind is as `tuple`
abbrev pub shape_kind : ℕ → Shape
shape_kind n =
    cond (eqb n 0) of_variant.Unit
    (cond (eqb n 1) of_variant.Named of_variant.Tuple)

-- a number of no kind is as `iter`
abbrev pub binding_kind : ℕ → BindingKind
binding_kind n =
    cond (eqb n 0) of_binding.ConstBool
    (cond (eqb n 1) of_binding.ConstInt
    (cond (eqb n 2) of_binding.ConstPrim
    (cond (eqb n 3) of_binding.Argument
    (cond (eqb n 4) of_binding.Extractor
    (cond (eqb n 5) of_binding.Constructor
    (cond (eqb n 7) of_binding.MakeVariant
    (cond (eqb n 8) of_binding.MakeStruct
    (cond (eqb n 9) of_binding.MakeSome
    (cond (eqb n 10) of_binding.MatchSome
    (cond (eqb n 11) of_binding.MatchTuple
    (cond (eqb n 12) of_binding.MatchVariant
    (cond (eqb n 13) of_binding.ExtractStruct of_binding.Iterator))))))))))))

-- a number of no kind is as `some`
abbrev pub block_kind : ℕ → BlockKind
block_kind n =
    cond (eqb n 0) of_block.Match
    (cond (eqb n 1) of_block.Equal
    (cond (eqb n 2) of_block.Loop
    (cond (eqb n 3) of_block.Return
    (cond (eqb n 4) of_block.ConstBool
    (cond (eqb n 5) of_block.ConstInt
    (cond (eqb n 6) of_block.ConstPrim
    (cond (eqb n 7) of_block.Variant
    (cond (eqb n 8) of_block.Struct of_block.Some))))))))
