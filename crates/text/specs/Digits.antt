-- Numbers as digits, the most significant first. Assumes nothing: these are definitions.
use Rattle.std.specs.Prelude.{ℕ, zero, suc, ◌+◌, ◌-◌, ◌/◌, ◌%◌, ◌^◌, cond, List, [], ◌∷◌, ◌++◌, ltb}

-- the character of a digit below 16: 0 to 9, then a to f
abbrev pub digit : ℕ → ℕ
digit d = cond (ltb d 10) (d + 48) (d + 87)

-- the digits of n to the base b, at most k of them: the last one is that of the remainder
unfoldable pub digits : ℕ → ℕ → ℕ → List ℕ
digits b zero n = []
digits b (suc k) n = let more = digits b k (n / b) ++ (digit (n % b) ∷ []) in cond (ltb n b) (digit n ∷ []) more

-- Rust's `{}` of an unsigned number
unfoldable pub decimal : ℕ → List ℕ
decimal n = digits 10 (suc n) n

-- Rust's `{:x}`
unfoldable pub hexadecimal : ℕ → List ℕ
hexadecimal n = digits 16 (suc n) n

-- Rust's `{}` of a signed number of w bits; n is its two's complement, below 2 ^ w
unfoldable pub signed : ℕ → ℕ → List ℕ
signed w n = cond (ltb n (2 ^ (w - 1))) (decimal n) (45 ∷ decimal (2 ^ w - n))
