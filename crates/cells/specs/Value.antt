-- The values of a row, as words. Assumes nothing: these are definitions.
use Rattle.std.specs.Prelude.{ℕ, ◌+◌, ◌*◌, Bool, true, false, cond, ◌&&◌, List, [], ◌∷◌, eqb, ltb, length, take, drop}
use Rattle.std.proofs.Math.Option.{Option, some, none}
use Rattle.plan.specs.Plan.{FunctionKind, absent, internal, external}
use Rattle.plan.specs.Layout.{◌⊛◌, number, is, unused, bit, number_to, hex_digits, hex_from, function_kind, default_threshold}

abbrev pub flag : Bool → ℕ
flag false = 0
flag true = 1

abbrev pub function_word : FunctionKind → ℕ
function_word absent = 0
function_word internal = 1
function_word (external n) = n + 2

unfoldable pub threshold : List ℕ → Option ℕ
threshold t = cond (is "-" t) (some default_threshold) (number_to 65535 t)

-- A value of one word. The sorts: 0 unused, 1 a number, 2 a field, 3 a 0 or a 1, 4 a constructor or an extractor, else a threshold
unfoldable pub cell : ℕ → List ℕ → Option ℕ
cell sort t =
    cond (eqb sort 0) (unused t (some 0))
    (cond (eqb sort 1) (number t)
    (cond (eqb sort 2) (number_to 255 t)
    (cond (eqb sort 3) (some flag ⊛ bit t)
    (cond (eqb sort 4) (some function_word ⊛ function_kind t) (threshold t)))))

-- four words: a number below 2 ^ 32 with three zeros, or an integer's value, the low word first
pub record Wide : Type 0 where
  pub low : ℕ
  pub v1 : ℕ
  pub v2 : ℕ
  pub v3 : ℕ

abbrev pub wide_words : Wide → List ℕ
wide_words q = q.low ∷ q.v1 ∷ q.v2 ∷ q.v3 ∷ []

abbrev pub pad : ℕ → Wide
pad n = record { low = n; v1 = 0; v2 = 0; v3 = 0 }

abbrev pub word_range : ℕ
word_range = 4294967296

-- the integer that four words say
unfoldable pub value_of : Wide → ℕ
value_of q = q.low + word_range * (q.v1 + word_range * (q.v2 + word_range * q.v3))

-- "An integer value is 32 lower-case hexadecimal digits": eight to a word
unfoldable pub integer : List ℕ → Option Wide
integer t = cond (eqb (length t) 32 && hex_digits t)
    (some (record { low = hex_from 0 (take 8 (drop 24 t)); v1 = hex_from 0 (take 8 (drop 16 t)); v2 = hex_from 0 (take 8 (drop 8 t)); v3 = hex_from 0 (take 8 t) })) none

-- sort 6 is an integer's value
unfoldable pub wide : ℕ → List ℕ → Option Wide
wide sort t = cond (eqb sort 6) (integer t) (some pad ⊛ cell sort t)

-- the number of a kind's name
unfoldable pub kind_word : ℕ → ℕ → Option ℕ
kind_word count k = cond (ltb k count) (some k) none
