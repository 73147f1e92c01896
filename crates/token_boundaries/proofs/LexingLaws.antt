-- A literal that may end where it does is one token, and so is a quoted text that reads back. Assumes nothing.
use Rattle.std.specs.Prelude.{ℕ, zero, suc, ◌+◌, ◌-◌, ◌/◌, ◌%◌, ◌^◌, ◌≤◌, ◌<◌, ◌≡◌, Bool, true, false, cond, not, ltb, eqb}
use Rattle.std.proofs.Math.Path.{refl, ap}
use Rattle.std.proofs.Common.{◌∙◌, arith, mod-lt, ltb-true, ltb-false, le-leb, eqb-true}
use Rattle.std.proofs.Math.Option.{Option, some, none}
use mathlib.Core.List.{List, [], ◌∷◌, ◌++◌}
use Rattle.std.proofs.lemmas.Bool.{lt-leb, not-true}
use Rattle.text.specs.Codes.{codes}
use Rattle.text.specs.Digits.{digit, digits, decimal, hexadecimal, signed}
use Rattle.literal.specs.declared.builtin_type.IntType.{IntType}
use Rattle.literal.specs.declared.builtin_type.IntType.TheVariants.{U8, U16, U32, U64, U128, USize, I8, I16, I32, I64, I128, ISize}
use Rattle.literal.specs.BuiltinType.{int_name, is_signed}
use Rattle.literal.specs.Literal.{written_bits, rust_int_literal, literal}
use Rattle.literal.specs.Quote.{escaped, quoted}
use Rattle.literal.specs.Reference.{Before, text, escape, hex, hex_digit, unicode, unicode_digits, continue, closed, Step, gives, goes, wrong, after as step_after, is_closed, with, go_on, characters, string_value}
use Rattle.plan.specs.Refusal.{every}
use Rattle.splitting.specs.Cases.{and_left, and_right, and_both, false_true, none_some}
use Rattle.token_boundaries.specs.Boundary.{following, may_follow, begins}
use Rattle.token_boundaries.proofs.BoundaryLaws.{in_all, follows_apart}
use Rattle.token_boundaries.specs.Lexing.{continues, word, from_step, in_string, literal_token, unsigned}

-- WORDS

abbrev Word : List ℕ → Type 0
Word s = every continues s ≡ true

word_append : (s t : List ℕ) → Word s → Word t → Word (s ++ t)
unfolding every
word_append [] t h g = g
word_append (c ∷ s) t h g = and_both (and_left (continues c) _ h) (word_append s t (and_right (continues c) _ h) g)

digit_continues : (d : ℕ) → d < 16 → continues (digit d) ≡ true
digit_continues d h = go (ltb d 10) refl
  where
    go : (b : Bool) → ltb d 10 ≡ b → continues (cond b (d + 48) (d + 87)) ≡ true
    go true e = let l : d < 10 = ltb-true d 10 e in rw (lt-leb 65 (d + 48) (omega arith), lt-leb 97 (d + 48) (omega arith), le-leb 48 (d + 48) (omega arith), le-leb (d + 48) 57 (omega arith))
    go false e = let l : 10 ≤ d = ltb-false d 10 e in rw (le-leb 65 (d + 87) (omega arith), lt-leb (d + 87) 90 (omega arith), le-leb 97 (d + 87) (omega arith), le-leb (d + 87) 122 (omega arith))

digits_word : (b k n : ℕ) → 1 ≤ b → b ≤ 16 → Word (digits b k n)
unfolding digits every
digits_word b zero n h g = refl
digits_word b (suc k) n h g = go (ltb n b) refl (digits_word b k (n / b) h g)
  where
    go : (x : Bool) → ltb n b ≡ x → Word (digits b k (n / b)) → Word (cond x (digit n ∷ []) (digits b k (n / b) ++ (digit (n % b) ∷ [])))
    go true e w = let l : n < b = ltb-true n b e in and_both (digit_continues n (omega arith)) refl
    go false e w = let l : n % b < b = mod-lt n h in word_append (digits b k (n / b)) _ w (and_both (digit_continues (n % b) (omega arith)) refl)

-- a byte that continues is no `-`
unsigned_word : (s : List ℕ) → Word s → unsigned s ≡ s
unfolding every unsigned
unsigned_word [] h = refl
unsigned_word (c ∷ s) h = go (eqb c 45) refl
  where
    go : (b : Bool) → eqb c 45 ≡ b → cond b s (c ∷ s) ≡ c ∷ s
    go true e = false_true (rw (eqb-true c 45 e) at (and_left (continues c) _ h))
    go false e = refl

name_word : (t : IntType) → Word (codes "_" ++ codes (int_name t))
unfolding every
name_word U8 = refl
name_word U16 = refl
name_word U32 = refl
name_word U64 = refl
name_word U128 = refl
name_word USize = refl
name_word I8 = refl
name_word I16 = refl
name_word I32 = refl
name_word I64 = refl
name_word I128 = refl
name_word ISize = refl

-- LITERALS

hexadecimal_word : (n : ℕ) → Word (codes "0x" ++ hexadecimal n)
unfolding hexadecimal every
hexadecimal_word n = and_both refl (and_both refl (digits_word 16 (suc n) n (omega arith) (omega arith)))

decimal_word : (n : ℕ) → Word (decimal n)
unfolding decimal
decimal_word n = digits_word 10 (suc n) n (omega arith) (omega arith)

literal_word : (t : Option IntType) (v : ℕ) → Word (unsigned (literal t v))
unfolding literal rust_int_literal signed unsigned
literal_word none v = rw (unsigned_word _ (hexadecimal_word v)) (hexadecimal_word v)
literal_word (some t) v = by_sign (is_signed t) (written_bits t) (v % 2 ^ written_bits t)
  where
    named : (s : List ℕ) → Word s → Word (unsigned (s ++ (codes "_" ++ codes (int_name t))))
    named s h = let w = word_append s _ h (name_word t) in rw (unsigned_word _ w) w

    by_size : (b : Bool) (m n : ℕ) → Word (unsigned (cond b (decimal m) (45 ∷ decimal n) ++ (codes "_" ++ codes (int_name t))))
    by_size true m n = named (decimal m) (decimal_word m)
    by_size false m n = word_append (decimal n) _ (decimal_word n) (name_word t)

    by_sign : (b : Bool) (w n : ℕ) → Word (unsigned (cond b (signed w n) (codes "0x" ++ hexadecimal n) ++ (codes "_" ++ codes (int_name t))))
    by_sign true w n = by_size (ltb n (2 ^ (w - 1))) n (2 ^ w - n)
    by_sign false w n = named (codes "0x" ++ hexadecimal n) (hexadecimal_word n)

-- WHERE A TOKEN ENDS

no_word : (after : List ℕ) → begins may_follow after ≡ true → word after ≡ []
unfolding word
no_word [] h = refl
no_word (c ∷ s) h = rw (follows_apart c h) refl

word_ends : (s after : List ℕ) → Word s → begins may_follow after ≡ true → word (s ++ after) ≡ s
unfolding word every
word_ends [] after h g = no_word after g
word_ends (c ∷ s) after h g = rw (and_left (continues c) _ h, word_ends s after (and_right (continues c) _ h) g)

-- neither a byte that continues nor one that may follow is a quote
no_quote : (c : ℕ) → continues c ≡ true → eqb c 34 ≡ false
no_quote c h = go (eqb c 34) refl
  where
    go : (b : Bool) → eqb c 34 ≡ b → b ≡ false
    go true e = false_true (rw (eqb-true c 34 e) at h)
    go false e = refl

not_quoted : (s after : List ℕ) → Word s → begins may_follow after ≡ true → literal_token (s ++ after) ≡ word (s ++ after)
unfolding literal_token every word
not_quoted [] [] h g = refl
not_quoted [] (c ∷ a) h g = rw (not-true (eqb c 34) (in_all (λ c. not (eqb c 34)) following refl c g)) refl
not_quoted (c ∷ s) a h g = rw (no_quote c (and_left (continues c) _ h)) refl

pub literal_is_token : (t : Option IntType) (v : ℕ) (after : List ℕ) → begins may_follow after ≡ true → literal_token (unsigned (literal t v) ++ after) ≡ unsigned (literal t v)
literal_is_token t v after h = not_quoted (unsigned (literal t v)) after (literal_word t v) h ∙ word_ends (unsigned (literal t v)) after (literal_word t v) h

-- QUOTED TEXTS

read_on : (d : ℕ) (o : Option (List ℕ)) {y : List ℕ} → with d o ≡ some y → (z : List ℕ) × (o ≡ some z)
unfolding with
read_on d none e = none_some e
read_on d (some z) e = (z, refl)

-- bytes that read as a string literal, which is closed at their end
abbrev Ends : Before → List ℕ → List ℕ → Type 0
Ends b x after = (y : List ℕ) → is_closed b ≡ false → characters b x ≡ some y → in_string b (x ++ after) ≡ x

-- bytes that read as a string literal, which is closed at their end
module _ (after : List ℕ) (g : begins may_follow after ≡ true) where
  closed_ends : (x y : List ℕ) → characters closed x ≡ some y → word (x ++ after) ≡ x
  unfolding characters step_after go_on
  closed_ends [] y e = no_word after g
  closed_ends (d ∷ x) y e = none_some e

  step_ends : (s : Step) (x y : List ℕ) → ((b : Before) → Ends b x after) → go_on s (λ b. characters b x) ≡ some y → from_step s (x ++ after) (λ b. in_string b (x ++ after)) ≡ x
  unfolding go_on from_step
  step_ends (gives d) x y ih e = let z = read_on d (characters text x) e in ih text z.0 refl z.1
  step_ends (goes text) x y ih e = ih text y refl e
  step_ends (goes escape) x y ih e = ih escape y refl e
  step_ends (goes hex) x y ih e = ih hex y refl e
  step_ends (goes (hex_digit n)) x y ih e = ih (hex_digit n) y refl e
  step_ends (goes unicode) x y ih e = ih unicode y refl e
  step_ends (goes (unicode_digits k n)) x y ih e = ih (unicode_digits k n) y refl e
  step_ends (goes continue) x y ih e = ih continue y refl e
  step_ends (goes closed) x y ih e = closed_ends x y e
  step_ends wrong x y ih e = none_some e

  string_ends : (x : List ℕ) (b : Before) → Ends b x after
  unfolding characters in_string
  string_ends [] b y c e = none_some (rw c at e)
  string_ends (d ∷ x) b y c e = ap (λ (r : List ℕ). d ∷ r) (step_ends (step_after b d) x y (string_ends x) e)

pub text_is_token : (s y after : List ℕ) → string_value (quoted s) ≡ some y → begins may_follow after ≡ true → literal_token (unsigned (quoted s) ++ after) ≡ unsigned (quoted s)
unfolding quoted string_value literal_token unsigned
text_is_token s y after e g = ap (λ (r : List ℕ). 34 ∷ r) (string_ends after g (escaped s ++ (34 ∷ [])) text y refl e)
