-- A number of few bits in 128 bits, as Rust's `as` widens it. Assumes nothing: these are definitions.
use Rattle.std.specs.Prelude.{ℕ, ◌+◌, ◌-◌, ◌^◌, Bool, cond, ◌&&◌, leb}
use Rattle.literal.specs.declared.builtin_type.IntType.{IntType}
use Rattle.literal.specs.BuiltinType.{is_signed, bits}

-- n of w bits: the sign bit, where there is one, is copied to the left
abbrev pub extend_bits : Bool → ℕ → ℕ → ℕ
extend_bits s w n = cond (s && leb (2 ^ (w - 1)) n) (n + (2 ^ 128 - 2 ^ w)) n

-- n of the type t, `usize` and `isize` taken as 64 bits
unfoldable pub extend : IntType → ℕ → ℕ
extend t n = extend_bits (is_signed t) (bits t) n
