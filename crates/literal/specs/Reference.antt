-- What literals mean by the Rust Reference, chapters "Tokens" and "Literal expressions". Nothing here knows the emitter.
-- Assumes nothing: these are definitions.
use Rattle.std.specs.Prelude.{ℕ, ◌+◌, ◌-◌, ◌*◌, ◌%◌, ◌^◌, Bool, true, false, cond, not, ◌&&◌, ◌||◌, List, [], ◌∷◌, leb, ltb, eqb, drop}
use Rattle.std.proofs.Math.Option.{Option, some, none}
use Rattle.text.specs.Codes.{codes}
use Rattle.text.specs.Split.{null, same, starts_with}
use Rattle.literal.specs.declared.builtin_type.IntType.{IntType}
use Rattle.literal.specs.declared.builtin_type.IntType.TheVariants.{U8, U16, U32, U64, U128, USize, I8, I16, I32, I64, I128, ISize}
use Rattle.literal.specs.BuiltinType.{int_name, is_signed, bits}

abbrev pub within : ℕ → ℕ → ℕ → Bool
within a b c = leb a c && leb c b

-- INTEGER LITERAL EXPRESSIONS

-- a character as a digit of hexadecimal; 16 if it is none
unfoldable pub digit_value : ℕ → ℕ
digit_value c = cond (within 48 57 c) (c - 48) (cond (within 97 102 c) (c - 87) (cond (within 65 70 c) (c - 55) 16))

-- "An integer radix is chosen by inspecting the first two characters"; "if the radix is not 10, the first two characters are removed"
unfoldable pub radix : List ℕ → ℕ
radix s = cond (starts_with (codes "0x") s) 16 (cond (starts_with (codes "0o") s) 8 (cond (starts_with (codes "0b") s) 2 10))

unfoldable pub unprefixed : List ℕ → List ℕ
unprefixed s = cond (eqb (radix s) 10) s (drop 2 s)

abbrev pub underscore : ℕ
underscore = 95

-- the digits of a literal, underscores left out; then its suffix
abbrev pub in_literal : ℕ → ℕ → Bool
in_literal r c = ltb (digit_value c) r || eqb c underscore

unfoldable pub digits_of : ℕ → List ℕ → List ℕ
digits_of r [] = []
digits_of r (c ∷ s) =
    let more = digits_of r s in
    cond (in_literal r c) (cond (eqb c underscore) more (digit_value c ∷ more)) []

unfoldable pub suffix_of : ℕ → List ℕ → List ℕ
suffix_of r [] = []
suffix_of r (c ∷ s) = let more = suffix_of r s in cond (in_literal r c) more (c ∷ s)

-- the number that digits say after those that say n
unfoldable pub number : ℕ → ℕ → List ℕ → ℕ
number r n [] = n
number r n (d ∷ ds) = number r (n * r + d) ds

abbrev pub int_types : List IntType
int_types = U8 ∷ U16 ∷ U32 ∷ U64 ∷ U128 ∷ USize ∷ I8 ∷ I16 ∷ I32 ∷ I64 ∷ I128 ∷ ISize ∷ []

unfoldable pub type_named : List IntType → List ℕ → Option IntType
type_named [] s = none
type_named (t ∷ ts) s = let more = type_named ts s in cond (same s (codes (int_name t))) (some t) more

-- the value of an expression, as a two's complement of its type's width; a literal without a suffix has only the u128 value
pub data Value : Type 0 where
  typed : IntType → ℕ → Value
  untyped : ℕ → Value

-- "converted to a u128 value"; "the u128 value is converted to the expression's type via a numeric cast"
unfoldable pub cast : Option IntType → Bool → ℕ → Option Value
cast none plain n = cond plain (some (untyped n)) none
cast (some t) plain n = some (typed t (n % 2 ^ bits t))

-- "DEC_LITERAL → DEC_DIGIT ( DEC_DIGIT | _ )*", and every prefix begins with 0
abbrev pub begins_literal : List ℕ → Bool
begins_literal [] = false
begins_literal (c ∷ s) = within 48 57 c

unfoldable pub literal_value : List ℕ → Option Value
literal_value s =
    let r = radix s in
    let ds = digits_of r (unprefixed s) in
    let suffix = suffix_of r (unprefixed s) in
    let n = number r 0 ds in
    cond (begins_literal s && (not (null ds) && ltb n (2 ^ 128))) (cast (type_named int_types suffix) (null suffix) n) none

-- "-1i8 is an application of the negation operator to the literal 1i8": of signed types only; wrapped to the type, as in a
-- release build
unfoldable pub negated : Option Value → Option Value
negated none = none
negated (some (untyped n)) = none
negated (some (typed t n)) = cond (is_signed t) (some (typed t ((2 ^ bits t - n) % 2 ^ bits t))) none

unfoldable pub integer_value : List ℕ → Option Value
integer_value [] = none
integer_value (c ∷ s) = cond (eqb c 45) (negated (literal_value s)) (literal_value (c ∷ s))

-- STRING LITERALS

-- what stands before the next character
pub data Before : Type 0 where
  text : Before
  -- a backslash
  escape : Before
  -- `\x`, and the first of its two digits
  hex : Before
  hex_digit : ℕ → Before
  -- `\u`, and `\u{` with the digits so far
  unicode : Before
  unicode_digits : ℕ → ℕ → Before
  -- a backslash at the end of a line: the white space after it is left out
  continue : Before
  -- the closing quote
  closed : Before

-- after the next character: its code where one is complete, and what stands before the one after it
pub data Step : Type 0 where
  gives : ℕ → Step
  goes : Before → Step
  wrong : Step

-- "Quote escapes" and "ASCII escapes"; an LF begins a string continuation
unfoldable pub after_escape : ℕ → Step
after_escape c =
    cond (eqb c 39 || (eqb c 34 || eqb c 92)) (gives c)
    (cond (eqb c 110) (gives 10) (cond (eqb c 114) (gives 13) (cond (eqb c 116) (gives 9) (cond (eqb c 48) (gives 0)
    (cond (eqb c 120) (goes hex) (cond (eqb c 117) (goes unicode) (cond (eqb c 10) (goes continue) wrong)))))))

abbrev pub in_text : ℕ → Step
in_text c = cond (eqb c 34) (goes closed) (cond (eqb c 92) (goes escape) (cond (eqb c 13) wrong (gives c)))

-- "up to six hexadecimal digits", underscores left out; a Unicode scalar value
abbrev pub scalar : ℕ → Bool
scalar n = ltb n 55296 || within 57344 1114111 n

unfoldable pub after : Before → ℕ → Step
after text c = in_text c
after escape c = after_escape c
after hex c = cond (ltb (digit_value c) 8) (goes (hex_digit (digit_value c))) wrong
after (hex_digit d) c = cond (ltb (digit_value c) 16) (gives (d * 16 + digit_value c)) wrong
after unicode c = cond (eqb c 123) (goes (unicode_digits 0 0)) wrong
after (unicode_digits k n) c =
    cond (eqb c 125) (cond (ltb 0 k && scalar n) (gives n) wrong)
    (cond (eqb c 95 && ltb 0 k) (goes (unicode_digits k n))
    (cond (ltb (digit_value c) 16 && ltb k 6) (goes (unicode_digits (k + 1) (n * 16 + digit_value c))) wrong))
after continue c = cond (eqb c 32 || (eqb c 9 || (eqb c 10 || eqb c 13))) (goes continue) (in_text c)
after closed c = wrong

abbrev pub is_closed : Before → Bool
is_closed text = false
is_closed escape = false
is_closed hex = false
is_closed (hex_digit d) = false
is_closed unicode = false
is_closed (unicode_digits k n) = false
is_closed continue = false
is_closed closed = true

unfoldable pub with : ℕ → Option (List ℕ) → Option (List ℕ)
with c none = none
with c (some s) = some (c ∷ s)

unfoldable pub go_on : Step → (Before → Option (List ℕ)) → Option (List ℕ)
go_on (gives c) rest = with c (rest text)
go_on (goes b) rest = rest b
go_on wrong rest = none

-- the characters that a literal's text says, after its opening quote
unfoldable pub characters : Before → List ℕ → Option (List ℕ)
characters b [] = cond (is_closed b) (some []) none
characters b (c ∷ s) = go_on (after b c) (λ b'. characters b' s)

unfoldable pub string_value : List ℕ → Option (List ℕ)
string_value [] = none
string_value (c ∷ s) = cond (eqb c 34) (characters text s) none
