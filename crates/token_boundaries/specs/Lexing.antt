-- Which token of a literal the Rust Reference reads where bytes begin: its chapter "Tokens". Nothing here knows the emitter.
-- Assumes nothing: these are definitions.
use Rattle.std.specs.Prelude.{ℕ, Bool, cond, ◌||◌, List, [], ◌∷◌, eqb}
use Rattle.literal.specs.Reference.{within, Before, text, Step, gives, goes, wrong, after, is_closed}

-- the Reference's XID_Continue, in ASCII: letters, digits and `_`
abbrev pub continues : ℕ → Bool
continues c = within 65 90 c || (within 97 122 c || (within 48 57 c || eqb c 95))

-- as many bytes as continue: an integer literal with its suffix, from its first digit on; or a suffix, "a sequence of characters following
-- the primary part of a literal (without intervening whitespace), of the same form as a non-raw identifier or keyword"
unfoldable pub word : List ℕ → List ℕ
word [] = []
word (c ∷ s) = let more = c ∷ word s in cond (continues c) more []

-- after a step of reading a string literal: on to its closing quote, and then its suffix
unfoldable pub from_step : Step → List ℕ → (Before → List ℕ) → List ℕ
from_step (gives c) s read = read text
from_step (goes b) s read = let more = read b in cond (is_closed b) (word s) more
from_step wrong s read = []

-- the rest of a string literal
unfoldable pub in_string : Before → List ℕ → List ℕ
in_string b [] = []
in_string b (c ∷ s) = c ∷ from_step (after b c) s (λ b'. in_string b' s)

-- the literal that begins with these bytes: a string literal with its opening quote, an integer literal with its first digit. What a `.` after
-- an integer literal without a suffix makes of it is left out: of a decimal one, a float; before a digit, of a hexadecimal one, a reserved
-- form (docs/DIFFERENCES.md).
unfoldable pub literal_token : List ℕ → List ℕ
literal_token [] = []
literal_token (c ∷ s) = let string = c ∷ in_string text s in cond (eqb c 34) string (word (c ∷ s))

-- "-1i8 is an application of the negation operator to the literal 1i8": the bytes of a literal without the operator
unfoldable pub unsigned : List ℕ → List ℕ
unsigned [] = []
unsigned (c ∷ s) = cond (eqb c 45) s (c ∷ s)
