-- The names and the order of the builtin types. Assumes nothing.
use Rattle.std.specs.Prelude.{ℕ, ◌+◌, ◌-◌, ◌≤◌, ◌≡◌, refl, Bool, true, false, cond, List, [], ◌∷◌, map, get_or, take, drop}
use Prim.Native.String.{String}
use Rattle.std.proofs.Common.{sym, ap, ◌∙◌, lit≤}
use Rattle.std.proofs.Math.Option.{Option, some, none}
use Rattle.text.specs.Codes.{codes}
use Rattle.text.specs.Split.{same}
use Rattle.literal.specs.declared.builtin_type.IntType.TheVariants.{U8, U16, U32, U64, U128, USize, I8, I16, I32, I64, I128, ISize}
use Rattle.literal.specs.declared.builtin_type.BuiltinType.{BuiltinType}
use Rattle.literal.specs.declared.builtin_type.BuiltinType.TheVariants as builtin
use Rattle.literal.specs.BuiltinType.{all, name, is_signed, bits, to_usize}
use Rattle.literal.specs.Reference.{int_types}

-- The number and the name of each of the thirteen types, in their order.
pub thirteen_types : map {B = ℕ × String} (λ t. (to_usize t, name t)) all
    ≡ (0, "bool")
    ∷ (1, "u8") ∷ (2, "u16") ∷ (3, "u32") ∷ (4, "u64") ∷ (5, "u128") ∷ (6, "usize")
    ∷ (7, "i8") ∷ (8, "i16") ∷ (9, "i32") ∷ (10, "i64") ∷ (11, "i128") ∷ (12, "isize") ∷ []
thirteen_types = refl

-- The signedness and the width of each of the twelve integer types.
pub twelve_widths : map {B = Bool × ℕ} (λ t. (is_signed t, bits t)) int_types
    ≡ (false, 8) ∷ (false, 16) ∷ (false, 32) ∷ (false, 64) ∷ (false, 128) ∷ (false, 64)
    ∷ (true, 8) ∷ (true, 16) ∷ (true, 32) ∷ (true, 64) ∷ (true, 128) ∷ (true, 64) ∷ []
twelve_widths = refl

-- the first type of a list that has the name
unfoldable pub with_name : List BuiltinType → List ℕ → Option BuiltinType
with_name [] s = none
with_name (t ∷ ts) s = let more = with_name ts s in cond (same s (codes (name t))) (some t) more

-- every builtin type is in the list, and no earlier one has its name
pub known_by_name : (t : BuiltinType) → with_name all (codes (name t)) ≡ some t
unfolding with_name same
known_by_name builtin.Bool = refl
known_by_name (builtin.Int U8) = refl
known_by_name (builtin.Int U16) = refl
known_by_name (builtin.Int U32) = refl
known_by_name (builtin.Int U64) = refl
known_by_name (builtin.Int U128) = refl
known_by_name (builtin.Int USize) = refl
known_by_name (builtin.Int I8) = refl
known_by_name (builtin.Int I16) = refl
known_by_name (builtin.Int I32) = refl
known_by_name (builtin.Int I64) = refl
known_by_name (builtin.Int I128) = refl
known_by_name (builtin.Int ISize) = refl

pub names_differ : (t u : BuiltinType) → name t ≡ name u → t ≡ u
names_differ t u e =
    let p : some t ≡ some u = sym (known_by_name t) ∙ ap (λ (n : String). with_name all (codes n)) e ∙ known_by_name u in
    cc

-- The names one after another with a space between, and where each begins.
abbrev pub names : List ℕ
names = codes "bool u8 u16 u32 u64 u128 usize i8 i16 i32 i64 i128 isize"

abbrev pub starts : List ℕ
starts = 0 ∷ 5 ∷ 8 ∷ 12 ∷ 16 ∷ 20 ∷ 25 ∷ 31 ∷ 34 ∷ 38 ∷ 42 ∷ 46 ∷ 51 ∷ 57 ∷ []

pub record Listed (i : ℕ) (t : BuiltinType) : Type 0 where
  pub place : i ≤ 12
  pub after : 1 ≤ get_or starts (i + 1) 0
  pub text : take (get_or starts (i + 1) 0 - 1 - get_or starts i 0) (drop (get_or starts i 0) names) ≡ codes (name t)

pub listed : (t : BuiltinType) → Listed (to_usize t) t
listed builtin.Bool = record { place = lit≤ tt; after = lit≤ tt; text = refl }
listed (builtin.Int U8) = record { place = lit≤ tt; after = lit≤ tt; text = refl }
listed (builtin.Int U16) = record { place = lit≤ tt; after = lit≤ tt; text = refl }
listed (builtin.Int U32) = record { place = lit≤ tt; after = lit≤ tt; text = refl }
listed (builtin.Int U64) = record { place = lit≤ tt; after = lit≤ tt; text = refl }
listed (builtin.Int U128) = record { place = lit≤ tt; after = lit≤ tt; text = refl }
listed (builtin.Int USize) = record { place = lit≤ tt; after = lit≤ tt; text = refl }
listed (builtin.Int I8) = record { place = lit≤ tt; after = lit≤ tt; text = refl }
listed (builtin.Int I16) = record { place = lit≤ tt; after = lit≤ tt; text = refl }
listed (builtin.Int I32) = record { place = lit≤ tt; after = lit≤ tt; text = refl }
listed (builtin.Int I64) = record { place = lit≤ tt; after = lit≤ tt; text = refl }
listed (builtin.Int I128) = record { place = lit≤ tt; after = lit≤ tt; text = refl }
listed (builtin.Int ISize) = record { place = lit≤ tt; after = lit≤ tt; text = refl }

pub listed_at : {i : ℕ} (t : BuiltinType) → i ≡ to_usize t → Listed i t
listed_at t q = rw q (listed t)
