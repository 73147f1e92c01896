-- Integer literals as codegen.rs writes them, and which of them are odd. A value is that of the crate's i128 `val`, as its
-- two's complement: a number below 2 ^ 128. Assumes nothing: these are definitions.
use Rattle.std.specs.Prelude.{ℕ, ◌-◌, ◌%◌, ◌^◌, Bool, false, cond, not, ◌||◌, List, ◌++◌, leb, ltb}
use Rattle.std.proofs.Math.Option.{Option, some, none}
use Rattle.text.specs.Codes.{codes}
use Rattle.text.specs.Digits.{hexadecimal, signed}
use Rattle.literal.specs.declared.builtin_type.IntType.{IntType}
use Rattle.literal.specs.declared.builtin_type.IntType.TheVariants.{U8, U16, U32, U64, U128, USize, I8, I16, I32, I64, I128, ISize}
use Rattle.literal.specs.BuiltinType.{int_name, is_signed, bits}

-- the width that the value is cast to before it is written; codegen.rs writes `usize` and `isize` uncast
abbrev pub written_bits : IntType → ℕ
written_bits U8 = 8
written_bits U16 = 16
written_bits U32 = 32
written_bits U64 = 64
written_bits U128 = 128
written_bits USize = 128
written_bits I8 = 8
written_bits I16 = 16
written_bits I32 = 32
written_bits I64 = 64
written_bits I128 = 128
written_bits ISize = 128

-- codegen.rs 1199: `rust_int_literal`
unfoldable pub rust_int_literal : IntType → ℕ → List ℕ
rust_int_literal t v =
    let w = written_bits t in
    let cast = v % 2 ^ w in
    cond (is_signed t) (signed w cast) (codes "0x" ++ hexadecimal cast) ++ (codes "_" ++ codes (int_name t))

-- codegen.rs 1183: `emit_int`, with the integer type, or none where the type is another
unfoldable pub literal : Option IntType → ℕ → List ℕ
literal (some t) v = rust_int_literal t v
literal none v = codes "0x" ++ hexadecimal v

-- the value lies inside the range of the type; every value is inside those of u128 and i128
unfoldable pub in_range : IntType → ℕ → Bool
in_range t v =
    let half = 2 ^ (bits t - 1) in
    let outer = 2 ^ 128 - half in
    cond (is_signed t) (ltb v half || leb outer v) (ltb v (2 ^ bits t))

-- document 01, "Added count": a literal is odd if its value lies outside its type's range; other types never are
unfoldable pub odd : Option IntType → ℕ → Bool
odd (some t) v = not (in_range t v)
odd none v = false
