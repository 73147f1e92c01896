-- Helper laws of ReadBack: digits read from the left say the number that they were written from, and a number cast to a width.
-- Assumes nothing.
use Prim.Native.Nat.{ℕ, zero, suc, ◌+◌, ◌-◌, ◌*◌, ◌/◌, ◌%◌, ◌^◌, ◌≤◌, ◌<◌}
use Rattle.std.specs.Prelude.{◌≡◌, Bool, true, false, cond, ◌||◌, List, [], ◌∷◌, ◌++◌, leb, ltb, eqb}
use Rattle.std.proofs.Math.Path.{refl, ap}
use Rattle.std.proofs.Common.{sym, ◌∙◌, append_assoc, mod-lt, div-add-mod', mod-eq_of_lt, mul_assoc, add-mul, one-mul, lt_of_lt_of_le, le_trans, lit≤}
use Rattle.std.proofs.Math.Bool.{and-false, or-true}
use Rattle.std.proofs.Math.Option.{some}
use Rattle.std.proofs.Math.Nat.{div-lt_self, mul-add-mod_self_right, one-le-pow, pow-le-pow_right}
use native.Mathlib.Omega.{arith}
use borrow.Author.Tests.{lt-ltb, le-ltb, le-leb, lt-leb, ne_eqb, ltb-true, ltb-false, leb-true, leb-false}
use Rattle.text.specs.Codes.{codes}
use Rattle.text.specs.Digits.{digit, digits, decimal, hexadecimal, signed}
use Rattle.text.specs.Split.{null, same, starts_with}
use Rattle.literal.specs.declared.builtin_type.IntType.{IntType}
use Rattle.literal.specs.declared.builtin_type.IntType.TheVariants.{U8, U16, U32, U64, U128, USize, I8, I16, I32, I64, I128, ISize}
use Rattle.literal.specs.BuiltinType.{int_name, is_signed, bits}
use Rattle.literal.specs.Literal.{written_bits, rust_int_literal}
use Rattle.literal.specs.Reference.{digit_value, radix, unprefixed, digits_of, suffix_of, number, underscore, int_types, type_named, typed, cast, begins_literal, literal_value, negated, integer_value}

-- A DIGIT

digit_value_digit : (d : ℕ) → d < 16 → digit_value (digit d) ≡ d
unfolding digit_value
digit_value_digit d h = go (ltb d 10) refl
  where
    figure : d < 10 → digit_value (d + 48) ≡ d
    figure l = rw (le-leb 48 (d + 48) (omega arith), le-leb (d + 48) 57 (omega arith)) (omega arith)

    letter : 10 ≤ d → digit_value (d + 87) ≡ d
    letter l =
        rw (le-leb 48 (d + 87) (omega arith), lt-leb (d + 87) 57 (omega arith), le-leb 97 (d + 87) (omega arith), le-leb (d + 87) 102 (omega arith)) (omega arith)

    go : (t : Bool) → ltb d 10 ≡ t → digit_value (digit d) ≡ d
    go true q = rw q (figure (ltb-true d 10 q))
    go false q = rw q (letter (ltb-false d 10 q))

digit_no_underscore : (d : ℕ) → d < 16 → eqb (digit d) underscore ≡ false
digit_no_underscore d h = go (ltb d 10) refl
  where
    go : (t : Bool) → ltb d 10 ≡ t → eqb (digit d) underscore ≡ false
    go true q = let l : d < 10 = ltb-true d 10 q in rw q (ne_eqb (d + 48) 95 (λ e. omega arith))
    go false q = let l : 10 ≤ d = ltb-false d 10 q in rw q (ne_eqb (d + 87) 95 (λ e. omega arith))

-- DIGITS

-- the text s, whatever follows, is read to the base b as the digits of n
pub record Reads (b n : ℕ) (s : List ℕ) : Type 0 where
  pub value : (rest : List ℕ) → number b 0 (digits_of b (s ++ rest)) ≡ number b n (digits_of b rest)
  pub suffix : (rest : List ℕ) → suffix_of b (s ++ rest) ≡ suffix_of b rest
  pub some_digit : (rest : List ℕ) → null (digits_of b (s ++ rest)) ≡ false

module _ (b d : ℕ) (small : b ≤ 16) (less : d < b) where
  digits_of_digit : (rest : List ℕ) → digits_of b (digit d ∷ rest) ≡ d ∷ digits_of b rest
  unfolding digits_of
  digits_of_digit rest =
      let h : d < 16 = omega arith in
      rw (digit_value_digit d h, digit_no_underscore d h, lt-ltb d b less)

  suffix_of_digit : (rest : List ℕ) → suffix_of b (digit d ∷ rest) ≡ suffix_of b rest
  unfolding suffix_of
  suffix_of_digit rest =
      let h : d < 16 = omega arith in
      rw (digit_value_digit d h, lt-ltb d b less)

  reads_one : Reads b d (digit d ∷ [])
  unfolding number
  reads_one =
      let e : 0 * b + d ≡ d = omega arith in
      record {
        value = λ rest. ap (number b 0) (digits_of_digit rest) ∙ ap (λ (n : ℕ). number b n (digits_of b rest)) e;
        suffix = suffix_of_digit;
        some_digit = λ rest. rw (digits_of_digit rest);
      }

  reads_more : (q : ℕ) (s : List ℕ) → Reads b q s → Reads b (q * b + d) (s ++ (digit d ∷ []))
  unfolding number
  reads_more q s r =
      record {
        value = λ rest. rw (append_assoc, r.value (digit d ∷ rest), digits_of_digit rest);
        suffix = λ rest. rw (append_assoc, r.suffix (digit d ∷ rest), suffix_of_digit rest);
        some_digit = λ rest. rw (append_assoc, r.some_digit (digit d ∷ rest));
      }

pub reads_digits : (b k n : ℕ) → 2 ≤ b → b ≤ 16 → n < k → Reads b n (digits b k n)
unfolding digits
reads_digits b zero n h g l = absurd (omega arith)
reads_digits b (suc k) n h g l = go (ltb n b) refl (reads_digits b k (n / b) h g)
  where
    more : b ≤ n → Reads b (n / b) (digits b k (n / b)) → Reads b n (digits b k (n / b) ++ (digit (n % b) ∷ []))
    more m r = rw div-add-mod' at (reads_more b (n % b) g (mod-lt n (omega arith)) (n / b) (digits b k (n / b)) r)

    go : (t : Bool) → ltb n b ≡ t → (n / b < k → Reads b (n / b) (digits b k (n / b))) → Reads b n (digits b (suc k) n)
    go true q f = rw q (reads_one b n g (ltb-true n b q))
    go false q f =
        let m : b ≤ n = ltb-false n b q in
        let fewer : n / b < n = div-lt_self (omega arith) (omega arith) in
        rw q (more m (f (omega arith)))

-- A SUFFIX

-- a text whose first character is neither a digit nor an underscore
data Word : List ℕ → Type 0 where
  word : (c : ℕ) (s : List ℕ) → digit_value c ≡ 16 → eqb c underscore ≡ false → Word (c ∷ s)

no_digits : (b : ℕ) {s : List ℕ} → b ≤ 16 → Word s → digits_of b (underscore ∷ s) ≡ []
unfolding digits_of digit_value
no_digits b h (word c s v u) = rw (le-ltb 16 b h, v, le-ltb 16 b h, u)

only_suffix : (b : ℕ) {s : List ℕ} → b ≤ 16 → Word s → suffix_of b (underscore ∷ s) ≡ s
unfolding suffix_of digit_value
only_suffix b h (word c s v u) = rw (le-ltb 16 b h, v, le-ltb 16 b h, u)

-- THE TYPES

-- what is computed of each type: its name is a word and known, and its width divides the one that it is written with, 1 to 128
record Computed (t : IntType) : Type 0 where
  name : Word (codes (int_name t))
  known : type_named int_types (codes (int_name t)) ≡ some t
  divides : 2 ^ written_bits t ≡ 2 ^ (written_bits t - bits t) * 2 ^ bits t
  some_bits : 1 ≤ written_bits t
  most : written_bits t ≤ 128
  -- half of the type's values, and how often they go into those of 128 bits after the first time
  halves : 2 ^ (bits t - 1) + 2 ^ (bits t - 1) ≡ 2 ^ bits t
  times : 2 ^ 128 ≡ (2 ^ (128 - bits t) - 1) * 2 ^ bits t + 2 ^ bits t

computed : (t : IntType) → Computed t
unfolding digit_value type_named same
computed U8 = record { name = word _ _ refl refl; known = refl; divides = refl; some_bits = lit≤ tt; most = lit≤ tt; halves = refl; times = refl }
computed U16 = record { name = word _ _ refl refl; known = refl; divides = refl; some_bits = lit≤ tt; most = lit≤ tt; halves = refl; times = refl }
computed U32 = record { name = word _ _ refl refl; known = refl; divides = refl; some_bits = lit≤ tt; most = lit≤ tt; halves = refl; times = refl }
computed U64 = record { name = word _ _ refl refl; known = refl; divides = refl; some_bits = lit≤ tt; most = lit≤ tt; halves = refl; times = refl }
computed U128 = record { name = word _ _ refl refl; known = refl; divides = refl; some_bits = lit≤ tt; most = lit≤ tt; halves = refl; times = refl }
computed USize = record { name = word _ _ refl refl; known = refl; divides = refl; some_bits = lit≤ tt; most = lit≤ tt; halves = refl; times = refl }
computed I8 = record { name = word _ _ refl refl; known = refl; divides = refl; some_bits = lit≤ tt; most = lit≤ tt; halves = refl; times = refl }
computed I16 = record { name = word _ _ refl refl; known = refl; divides = refl; some_bits = lit≤ tt; most = lit≤ tt; halves = refl; times = refl }
computed I32 = record { name = word _ _ refl refl; known = refl; divides = refl; some_bits = lit≤ tt; most = lit≤ tt; halves = refl; times = refl }
computed I64 = record { name = word _ _ refl refl; known = refl; divides = refl; some_bits = lit≤ tt; most = lit≤ tt; halves = refl; times = refl }
computed I128 = record { name = word _ _ refl refl; known = refl; divides = refl; some_bits = lit≤ tt; most = lit≤ tt; halves = refl; times = refl }
computed ISize = record { name = word _ _ refl refl; known = refl; divides = refl; some_bits = lit≤ tt; most = lit≤ tt; halves = refl; times = refl }

pub written_most : (t : IntType) → (1 ≤ written_bits t) × (written_bits t ≤ 128)
written_most t = ((computed t).some_bits, (computed t).most)

pub written_width : (t : IntType) → (t ≡ USize → ⊥) → (t ≡ ISize → ⊥) → written_bits t ≡ bits t
written_width U8 f g = refl
written_width U16 f g = refl
written_width U32 f g = refl
written_width U64 f g = refl
written_width U128 f g = refl
written_width USize f g = absurd (f refl)
written_width I8 f g = refl
written_width I16 f g = refl
written_width I32 f g = refl
written_width I64 f g = refl
written_width I128 f g = refl
written_width ISize f g = absurd (g refl)

-- A LITERAL

-- a text that is a number and then its suffix
pub literal_value_is : (b n : ℕ) (s ds rest name : List ℕ) → Reads b n ds → n < 2 ^ 128 → begins_literal s ≡ true → radix s ≡ b → unprefixed s ≡ ds ++ rest → digits_of b rest ≡ [] → suffix_of b rest ≡ name → literal_value s ≡ cast (type_named int_types name) (null name) n
unfolding literal_value number
literal_value_is b n s ds rest name r h i p q e f =
    rw (i, p, q, r.some_digit rest, r.value rest, r.suffix rest, e, f, lt-ltb n (2 ^ 128) h)

-- a text that is a decimal number, as far as its first two characters tell: no sign, and none of `0x`, `0o` and `0b`
pub data Starts : List ℕ → Type 0 where
  starts : (c d : ℕ) (s : List ℕ) → 48 ≤ c → c ≤ 57 → d < 98 → Starts (c ∷ d ∷ s)

digit_below : (d : ℕ) → d < 10 → digit d < 98
digit_below d h = rw (lt-ltb d 10 h) (omega arith)

pub starts_digits : (k n x : ℕ) (rest : List ℕ) → n < k → x < 98 → Starts (digits 10 k n ++ (x ∷ rest))
unfolding digits
starts_digits zero n x rest l h = absurd (omega arith)
starts_digits (suc k) n x rest l h = go (ltb n 10) refl (starts_digits k (n / 10))
  where
    go : (t : Bool) → ltb n 10 ≡ t → ((y : ℕ) (s : List ℕ) → n / 10 < k → y < 98 → Starts (digits 10 k (n / 10) ++ (y ∷ s))) → Starts (digits 10 (suc k) n ++ (x ∷ rest))
    go true q f = let m : n < 10 = ltb-true n 10 q in rw q (starts (n + 48) x rest (omega arith) (omega arith) h)
    go false q f =
        let m : 10 ≤ n = ltb-false n 10 q in
        rw (q, append_assoc) (f (digit (n % 10)) (x ∷ rest) (omega arith) (digit_below (n % 10) (omega arith)))

pub starts_radix : {s : List ℕ} → Starts s → radix s ≡ 10
unfolding radix starts_with
starts_radix (starts c d s h l g) =
    rw (ne_eqb 120 d (λ e. omega arith), ne_eqb 111 d (λ e. omega arith), ne_eqb 98 d (λ e. omega arith), and-false (eqb 48 c))

starts_begins : {s : List ℕ} → Starts s → begins_literal s ≡ true
starts_begins (starts c d s h l g) = rw (le-leb 48 c h, le-leb c 57 l)

pub starts_unsigned : {s : List ℕ} → Starts s → integer_value s ≡ literal_value s
unfolding integer_value
starts_unsigned (starts c d s h l g) = rw (ne_eqb c 45 (λ e. omega arith))

-- A NUMBER CAST TO A WIDTH

-- b is the number of values of a width, and q * b that of a wider one
pub cast_twice : (v q b : ℕ) → v % (q * b) % b ≡ v % b
cast_twice v q b =
    let e : v / (q * b) * q * b + v % (q * b) ≡ v = rw (mul_assoc (v / (q * b)) q b) (div-add-mod' v (q * b)) in
    sym (mul-add-mod_self_right (v / (q * b) * q) b (v % (q * b))) ∙ ap (λ (x : ℕ). x % b) e

-- the negation of the negation: m and c make the wider width's number of values
pub negate_twice : (m c q b : ℕ) → 0 < b → m + c ≡ q * b → (b - m % b) % b ≡ c % b
negate_twice m c q b h e =
    let less : m % b < b = mod-lt m h in
    let l : q * b + (b - m % b) ≡ (m / b + 1) * b + c = go (m % b) (m / b) (div-add-mod' m b) less in
    sym (mul-add-mod_self_right q b (b - m % b)) ∙ ap (λ (x : ℕ). x % b) l ∙ mul-add-mod_self_right (m / b + 1) b c
  where
    go : (r j : ℕ) → j * b + r ≡ m → r < b → q * b + (b - r) ≡ (j + 1) * b + c
    go r j f g = rw (← e, ← f, add-mul j 1 b, one-mul b) (omega arith)

-- THE LITERALS OF A TYPE

pub read_hexadecimal : (n : ℕ) (rest name : List ℕ) → n < 2 ^ 128 → digits_of 16 rest ≡ [] → suffix_of 16 rest ≡ name → integer_value (codes "0x" ++ hexadecimal n ++ rest) ≡ cast (type_named int_types name) (null name) n
unfolding integer_value radix starts_with unprefixed hexadecimal
read_hexadecimal n rest name h e f =
    literal_value_is 16 n (codes "0x" ++ hexadecimal n ++ rest) (hexadecimal n) rest name (reads_digits 16 (suc n) n (lit≤ tt) (lit≤ tt) (omega arith)) h refl refl refl e f

module _ (t : IntType) where
  abbrev pub suffix_text : List ℕ
  suffix_text = codes "_" ++ codes (int_name t)

  pub read_unsigned : (n : ℕ) → n < 2 ^ 128 → integer_value (codes "0x" ++ hexadecimal n ++ suffix_text) ≡ some (typed t (n % 2 ^ bits t))
  unfolding cast
  read_unsigned n h =
      let c = computed t in
      rw c.known at (read_hexadecimal n suffix_text (codes (int_name t)) h (no_digits 16 (lit≤ tt) c.name) (only_suffix 16 (lit≤ tt) c.name))

  starts_decimal : (n : ℕ) → Starts (decimal n ++ suffix_text)
  unfolding decimal
  starts_decimal n = starts_digits (suc n) n underscore (codes (int_name t)) (omega arith) (lit≤ tt)

  read_decimal : (n : ℕ) → n < 2 ^ 128 → literal_value (decimal n ++ suffix_text) ≡ some (typed t (n % 2 ^ bits t))
  unfolding cast decimal unprefixed
  read_decimal n h =
      let c = computed t in
      let p : radix (decimal n ++ suffix_text) ≡ 10 = starts_radix (starts_decimal n) in
      rw c.known at (literal_value_is 10 n (decimal n ++ suffix_text) (decimal n) suffix_text (codes (int_name t)) (reads_digits 10 (suc n) n (lit≤ tt) (lit≤ tt) (omega arith)) h (starts_begins (starts_decimal n)) p (rw p) (no_digits 10 (lit≤ tt) c.name) (only_suffix 10 (lit≤ tt) c.name))

  read_minus : (n : ℕ) → is_signed t ≡ true → n < 2 ^ 128 → integer_value (45 ∷ decimal n ++ suffix_text) ≡ some (typed t ((2 ^ bits t - n % 2 ^ bits t) % 2 ^ bits t))
  unfolding integer_value negated
  read_minus n e h = ap negated (read_decimal n h) ∙ rw e

  -- the two's complement c of w bits, q times as many as the type has values
  read_signed : (w c q : ℕ) → is_signed t ≡ true → c < 2 ^ w → 2 ^ w ≤ 2 ^ 128 → 2 ^ w ≡ q * 2 ^ bits t → integer_value (signed w c ++ suffix_text) ≡ some (typed t (c % 2 ^ bits t))
  unfolding signed
  read_signed w c q s h g e = go (ltb c (2 ^ (w - 1))) refl
    where
      plus : integer_value (decimal c ++ suffix_text) ≡ some (typed t (c % 2 ^ bits t))
      plus = starts_unsigned (starts_decimal c) ∙ read_decimal c (lt_of_lt_of_le h g)

      minus : 0 < c → integer_value (45 ∷ decimal (2 ^ w - c) ++ suffix_text) ≡ some (typed t (c % 2 ^ bits t))
      minus l =
          let less : 2 ^ w - c < 2 ^ 128 = lt_of_lt_of_le (omega arith) g in
          let sum : 2 ^ w - c + c ≡ 2 ^ w = omega arith in
          read_minus (2 ^ w - c) s less ∙ ap (λ (n : ℕ). some (typed t n)) (negate_twice (2 ^ w - c) c q (2 ^ bits t) (one-le-pow (bits t) 2 (lit≤ tt)) (sum ∙ e))

      go : (b : Bool) → ltb c (2 ^ (w - 1)) ≡ b → integer_value (signed w c ++ suffix_text) ≡ some (typed t (c % 2 ^ bits t))
      go true r = rw r plus
      go false r = rw r (minus (le_trans (one-le-pow (w - 1) 2 (lit≤ tt)) (ltb-false c (2 ^ (w - 1)) r)))

  pub read_written : (v : ℕ) → integer_value (rust_int_literal t v) ≡ some (typed t (v % 2 ^ bits t))
  unfolding rust_int_literal
  read_written v = go (is_signed t) refl ∙ ap (λ (n : ℕ). some (typed t n)) same_value
    where
      w : ℕ
      w = written_bits t

      q : ℕ
      q = 2 ^ (w - bits t)

      most : 2 ^ w ≤ 2 ^ 128
      most = pow-le-pow_right (lit≤ tt) (computed t).most

      less : v % 2 ^ w < 2 ^ w
      less = mod-lt v (one-le-pow w 2 (lit≤ tt))

      same_value : v % 2 ^ w % 2 ^ bits t ≡ v % 2 ^ bits t
      same_value = rw (computed t).divides (cast_twice v q (2 ^ bits t))

      go : (b : Bool) → is_signed t ≡ b → integer_value (rust_int_literal t v) ≡ some (typed t (v % 2 ^ w % 2 ^ bits t))
      go true e = rw e (read_signed w (v % 2 ^ w) q e less most (computed t).divides)
      go false e = rw e (read_unsigned (v % 2 ^ w) (lt_of_lt_of_le less most))

-- A VALUE IN ITS TYPE'S RANGE

-- below the half, nothing is lost
extend_low : (v half b x : ℕ) → half + half ≡ b → v < half → cond (leb half (v % b)) x (v % b) ≡ v
extend_low v half b x e h = let l : v < b = omega arith in rw (mod-eq_of_lt l, lt-leb half v h)

-- among the last half of m values, which are p * b and b more: the upper half of b values, p * b lower
extend_high : (v half b p m : ℕ) → half + half ≡ b → m ≡ p * b + b → m - half ≤ v → v < m → cond (leb half (v % b)) (v % b + (m - b)) (v % b) ≡ v
extend_high v half b p m e f h g =
    let l : v - p * b < b = go (p * b) f in
    let r : v % b ≡ v - p * b = ap (λ (x : ℕ). x % b) (sum (p * b) f) ∙ mul-add-mod_self_right p b (v - p * b) ∙ mod-eq_of_lt l in
    rw (r, le-leb half (v - p * b) (upper (p * b) f)) (whole (p * b) f)
  where
    go : (k : ℕ) → m ≡ k + b → v - k < b
    go k f = omega arith

    sum : (k : ℕ) → m ≡ k + b → v ≡ k + (v - k)
    sum k f = omega arith

    upper : (k : ℕ) → m ≡ k + b → half ≤ v - k
    upper k f = omega arith

    whole : (k : ℕ) → m ≡ k + b → v - k + (m - b) ≡ v
    whole k f = omega arith

pub extend_signed : (t : IntType) (v : ℕ) → (ltb v (2 ^ (bits t - 1)) || leb (2 ^ 128 - 2 ^ (bits t - 1)) v) ≡ true → v < 2 ^ 128
    → cond (leb (2 ^ (bits t - 1)) (v % 2 ^ bits t)) (v % 2 ^ bits t + (2 ^ 128 - 2 ^ bits t)) (v % 2 ^ bits t) ≡ v
extend_signed t v i h = go (ltb v half) refl
  where
    half : ℕ
    half = 2 ^ (bits t - 1)

    go : (b : Bool) → ltb v half ≡ b → cond (leb half (v % 2 ^ bits t)) (v % 2 ^ bits t + (2 ^ 128 - 2 ^ bits t)) (v % 2 ^ bits t) ≡ v
    go true q = extend_low v half (2 ^ bits t) _ (computed t).halves (ltb-true v half q)
    go false q = extend_high v half (2 ^ bits t) (2 ^ (128 - bits t) - 1) (2 ^ 128) (computed t).halves (computed t).times (leb-true (2 ^ 128 - half) v (rw q at i)) h

-- and the other way: a value that is not changed lies in the first half, or among the last
unchanged_in_range : (v half b p m : ℕ) → half + half ≡ b → 0 < b → m ≡ p * b + b → cond (leb half (v % b)) (v % b + (m - b)) (v % b) ≡ v → (ltb v half || leb (m - half) v) ≡ true
unchanged_in_range v half b p m e z f h = go (leb half (v % b)) refl
  where
    last : (n k : ℕ) → n < b → half ≤ n → m ≡ k + b → n + (m - b) ≡ v → m - half ≤ v
    last n k l u f h = omega arith

    first : (n : ℕ) → n < half → n ≡ v → v < half
    first n l h = omega arith

    go : (t : Bool) → leb half (v % b) ≡ t → (ltb v half || leb (m - half) v) ≡ true
    go true q = rw (le-leb (m - half) v (last (v % b) (p * b) (mod-lt v z) (leb-true half (v % b) q) f (rw q at h)), or-true)
    go false q = rw (lt-ltb v half (first (v % b) (leb-false half (v % b) q) (rw q at h)))

pub unchanged_signed : (t : IntType) (v : ℕ) → cond (leb (2 ^ (bits t - 1)) (v % 2 ^ bits t)) (v % 2 ^ bits t + (2 ^ 128 - 2 ^ bits t)) (v % 2 ^ bits t) ≡ v
    → (ltb v (2 ^ (bits t - 1)) || leb (2 ^ 128 - 2 ^ (bits t - 1)) v) ≡ true
unchanged_signed t v h =
    unchanged_in_range v (2 ^ (bits t - 1)) (2 ^ bits t) (2 ^ (128 - bits t) - 1) (2 ^ 128) (computed t).halves (one-le-pow (bits t) 2 (lit≤ tt)) (computed t).times h
