-- The builtin types: `IntType` and `BuiltinType` of sema.rs. Assumes nothing: these are definitions.
use Rattle.std.specs.Prelude.{ℕ, Bool, true, false, List, [], ◌∷◌}
use Prim.Native.String.{String}
use Rattle.std.proofs.Math.Option.{Option, some, none}
use Rattle.literal.specs.declared.builtin_type.IntType.{IntType}
use Rattle.literal.specs.declared.builtin_type.IntType.TheVariants.{U8, U16, U32, U64, U128, USize, I8, I16, I32, I64, I128, ISize}
use Rattle.literal.specs.declared.builtin_type.BuiltinType.{BuiltinType}
use Rattle.literal.specs.declared.builtin_type.BuiltinType.TheVariants as builtin

-- sema.rs 171: `BuiltinType::ALL`; the type numbers 0 to 12 of a plan are the places in this list
abbrev pub all : List BuiltinType
all =
    builtin.Bool
    ∷ builtin.Int U8 ∷ builtin.Int U16 ∷ builtin.Int U32 ∷ builtin.Int U64 ∷ builtin.Int U128 ∷ builtin.Int USize
    ∷ builtin.Int I8 ∷ builtin.Int I16 ∷ builtin.Int I32 ∷ builtin.Int I64 ∷ builtin.Int I128 ∷ builtin.Int ISize ∷ []

-- sema.rs 126: `IntType::name`
abbrev pub int_name : IntType → String
int_name U8 = "u8"
int_name U16 = "u16"
int_name U32 = "u32"
int_name U64 = "u64"
int_name U128 = "u128"
int_name USize = "usize"
int_name I8 = "i8"
int_name I16 = "i16"
int_name I32 = "i32"
int_name I64 = "i64"
int_name I128 = "i128"
int_name ISize = "isize"

-- sema.rs 188: `BuiltinType::name`
abbrev pub name : BuiltinType → String
name builtin.Bool = "bool"
name (builtin.Int t) = int_name t

-- sema.rs 144: `IntType::is_signed`
abbrev pub is_signed : IntType → Bool
is_signed U8 = false
is_signed U16 = false
is_signed U32 = false
is_signed U64 = false
is_signed U128 = false
is_signed USize = false
is_signed I8 = true
is_signed I16 = true
is_signed I32 = true
is_signed I64 = true
is_signed I128 = true
is_signed ISize = true

-- the width of a type in bits, `usize` and `isize` taken as 64 bits (document 01, "Added count")
abbrev pub bits : IntType → ℕ
bits U8 = 8
bits U16 = 16
bits U32 = 32
bits U64 = 64
bits U128 = 128
bits USize = 64
bits I8 = 8
bits I16 = 16
bits I32 = 32
bits I64 = 64
bits I128 = 128
bits ISize = 64

-- sema.rs 196: `BuiltinType::to_usize`
abbrev pub to_usize : BuiltinType → ℕ
to_usize builtin.Bool = 0
to_usize (builtin.Int U8) = 1
to_usize (builtin.Int U16) = 2
to_usize (builtin.Int U32) = 3
to_usize (builtin.Int U64) = 4
to_usize (builtin.Int U128) = 5
to_usize (builtin.Int USize) = 6
to_usize (builtin.Int I8) = 7
to_usize (builtin.Int I16) = 8
to_usize (builtin.Int I32) = 9
to_usize (builtin.Int I64) = 10
to_usize (builtin.Int I128) = 11
to_usize (builtin.Int ISize) = 12

-- the integer type, if it is one
abbrev pub builtin_int : BuiltinType → Option IntType
builtin_int builtin.Bool = none
builtin_int (builtin.Int t) = some t
