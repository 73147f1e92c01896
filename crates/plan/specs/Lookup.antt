-- What the row numbers of a plan stand for. A row that doesn't exist gives some row: refusal 5 shuts such plans out.
-- Assumes nothing: these are definitions.
use Rattle.std.specs.Prelude.{ℕ, false, cond, List, [], ◌∷◌, eqb, length, get_or}
use Rattle.std.proofs.Math.Option.{Option, some, none}
use Rattle.literal.specs.declared.builtin_type.BuiltinType.TheVariants as builtin
use Rattle.plan.specs.Plan.{Fields, unit, named, tuple, TypeData, Builtin, Primitive, Enum, Struct, Variant, absent, Term, Environment}
use Rattle.plan.specs.Binding.{Binding, BindingRow, ConstBool, ConstInt, ConstPrim, Argument, Extractor, Constructor, Iterator, MakeVariant, MakeStruct, MakeSome, MatchSome, MatchTuple, MatchVariant, ExtractStruct}

-- `typeenv.types[ty.index()]`
abbrev pub type_at : Environment → ℕ → TypeData
type_at e n = get_or e.types n (Builtin builtin.Bool)

unfoldable pub variants_of : ℕ → List Variant → List Variant
variants_of n [] = []
variants_of n (v ∷ vs) = let more = variants_of n vs in cond (eqb v.ty n) (v ∷ more) more

-- "Variants number from 0 within their enum"
abbrev pub variant_at : Environment → ℕ → ℕ → Variant
variant_at e n k = get_or (variants_of n e.variants) k (record { ty = 0; name = 0; fields = unit })

-- the fields of a struct
abbrev pub fields_of : TypeData → Fields
fields_of (Builtin t) = unit
fields_of (Primitive n) = unit
fields_of (Enum d) = unit
fields_of (Struct d f) = f

abbrev pub field_count : Fields → ℕ
field_count unit = 0
field_count (named fs) = length fs
field_count (tuple ts) = length ts

-- `termenv.terms[term.index()]`
abbrev pub term_at : Environment → ℕ → Term
term_at e n = get_or e.terms n (record { name = 0; pos = 0; ret_ty = 0; multi = false; partial = false; ctor = absent; xtor = absent; infallible = false; arg_tys = [] })

-- `ruleset.bindings[binding.index()]`
abbrev pub binding_at : List BindingRow → ℕ → BindingRow
binding_at bs n = get_or bs n (record { binding = ConstBool false; sources = [] })

-- the argument that a binding stands for
abbrev pub argument_index : Binding → Option ℕ
argument_index (ConstBool v) = none
argument_index (ConstInt n v) = none
argument_index (ConstPrim n) = none
argument_index (Argument i) = some i
argument_index (Extractor m) = none
argument_index (Constructor m) = none
argument_index Iterator = none
argument_index (MakeVariant n k) = none
argument_index (MakeStruct n) = none
argument_index MakeSome = none
argument_index MatchSome = none
argument_index (MatchTuple f) = none
argument_index (MatchVariant f) = none
argument_index (ExtractStruct f) = none
