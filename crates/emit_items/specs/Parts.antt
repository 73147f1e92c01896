-- Parts of the definition's texts as the functions write them, and what those for fields go by. Assumes nothing: these are definitions.
use Rattle.std.specs.Prelude.{refl, ℕ, suc, Bool, false, cond, List, [], ◌∷◌, ◌++◌}
use Rattle.plan.specs.Plan.{Fields, Variant}
use Rattle.codegen.specs.Piece.{Piece, fix, sym, type, break}
use Rattle.codegen.specs.Sema.{field_name, field_type}
use Rattle.codegen.specs.Items.{public, generate_fields}
use Rattle.emit_items.specs.TraitParts.{separator}

-- how deep the braces of fields stand: those of a struct, which may be `pub`, and those of a variant
abbrev pub depth : Bool → ℕ
depth allow_pub = cond allow_pub 0 1

-- what stands before a named field
abbrev pub field_start : Bool → List Piece
field_start allow_pub = break (suc (depth allow_pub)) ∷ public allow_pub

-- the field i
abbrev pub named_field : Bool → Fields → ℕ → List Piece
named_field allow_pub f i = field_start allow_pub ++ (field_name f i ∷ fix ": " refl ∷ type (field_type f i) ∷ fix "," refl ∷ [])

abbrev pub tuple_field : Bool → Fields → ℕ → List Piece
tuple_field allow_pub f i = separator i ++ (public allow_pub ++ (type (field_type f i) ∷ []))

-- the line of the `derive`s
abbrev pub derives : Bool → Bool → List Piece
derives copy nodebug =
    break 0 ∷ cond copy (fix "#[derive(Copy, Clone, PartialEq, Eq" refl) (fix "#[derive(Clone" refl) ∷ cond nodebug [] (fix ", Debug" refl ∷ []) ++ (fix ")]" refl ∷ break 0 ∷ [])

-- a variant of an enum
abbrev pub variant_line : Variant → List Piece
variant_line v = break 1 ∷ sym v.name ∷ generate_fields false 1 v.fields ++ (fix "," refl ∷ [])
