-- Tokens of a text: what the code finds between separators. Assumes nothing: these are definitions.
use Rattle.std.specs.Prelude.{ℕ, zero, suc, ◌+◌, ◌-◌, ◌≤◌, ◌<◌, min, ◌≡◌, Bool, true, cond, ◌&&◌, List, [], ◌∷◌, eqb, leb, length, take, drop, get_or}
use Rattle.std.proofs.Math.Option.{Option, some, none}
use Rattle.std.specs.Prelude as code
use Rattle.text.specs.Split.{split, same}
use Rattle.plan.specs.Layout.{digits, decimal_from, beyond, digit, hex_digits, hex_from}

-- how many bytes stand before the first b
unfoldable pub until : ℕ → List ℕ → ℕ
until b [] = 0
until b (c ∷ s) = let more = suc (until b s) in cond (eqb b c) 0 more

-- Where column k of a line starts: after the space that ends the one before. Past the last one, where one more would
unfoldable pub start : List ℕ → ℕ → ℕ
start s zero = 0
start s (suc k) = let at = start s k in suc (at + until 32 (drop at s))

-- where each of the first nine columns of a line starts, with the place after the last of them
pub record Columns (s starts : List ℕ) : Type 0 where
  pub begins : (k : ℕ) → k ≤ length (split (eqb 32) s) → k < 10 → get_or starts k 0 ≡ start s k

-- the place of a text among names, or their count where it is none of them
unfoldable pub place : List (List ℕ) → List ℕ → ℕ
place [] t = 0
place (n ∷ ns) t = let more = suc (place ns t) in cond (same t n) 0 more

-- a run of digits, after digits that say n
unfoldable pub numeral : ℕ → List ℕ → Option ℕ
numeral n s = cond (digits s) (some (min beyond (decimal_from n s))) none

-- what a hexadecimal digit says
abbrev pub hex_value : ℕ → ℕ
hex_value c = cond (digit c) (c - 48) (c - 87)

-- hexadecimal digits, after digits that say n
unfoldable pub hex_numeral : ℕ → List ℕ → Option ℕ
hex_numeral n s = cond (hex_digits s) (some (hex_from n s)) none

-- the code's answer for a number that may not be there
unfoldable pub told : Option ℕ → code.Option ℕ
told none = code.None
told (some n) = code.Some n
