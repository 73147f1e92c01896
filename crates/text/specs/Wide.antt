-- Numbers of 128 bits in two halves: in hexadecimal, and as a two's complement.
use Rattle.std.specs.Prelude.{ℕ, suc, ◌+◌, ◌-◌, ◌*◌, ◌^◌, ◌≤◌, ◌<◌, ◌≡◌, ◌∷◌, ◌++◌}
use Rattle.std.proofs.Common.{ap, ◌∙◌, mul-le-mul_right, lt_of_lt_of_le, le_trans, arith, lt-ltb, le-ltb}
use Rattle.text.specs.declared.number.Wide.{Wide}
use Rattle.text.specs.Digits.{decimal, hexadecimal, signed}
use Rattle.text.specs.DigitsLaws.{padded, digits_split}

-- the number that the code has in two halves
abbrev pub whole : Wide → ℕ
whole n = n.high * 2 ^ 64 + n.low

-- a number that is its lower half
pub low_half : (h l : ℕ) → h ≡ 0 → h * 18446744073709551616 + l ≡ l
low_half h l q = omega arith

-- a number above its lower half in hexadecimal: sixteen digits, and those before them
pub hexadecimal_halves : (h l : ℕ) → (h ≡ 0 → ⊥) → l < 18446744073709551616 → hexadecimal (h * 18446744073709551616 + l) ≡ hexadecimal h ++ padded 16 16 l
unfolding hexadecimal
hexadecimal_halves h l g k = digits_split 16 16 h l (omega arith) (omega arith) k

-- The two's complement of 128 bits in two halves.
pub signed_plus : (h l : ℕ) → h < 9223372036854775808 → l < 18446744073709551616 → signed 128 (h * 18446744073709551616 + l) ≡ decimal (h * 18446744073709551616 + l)
unfolding signed
signed_plus h l g k =
    let a : h * 18446744073709551616 + l < suc h * 18446744073709551616 = omega arith in
    rw (lt-ltb (h * 18446744073709551616 + l) (2 ^ 127) (lt_of_lt_of_le a (mul-le-mul_right 18446744073709551616 g)))

signed_minus : (h l n : ℕ) → 9223372036854775808 ≤ h → h * 18446744073709551616 + l + n ≡ 2 ^ 128 → signed 128 (h * 18446744073709551616 + l) ≡ 45 ∷ decimal n
unfolding signed
signed_minus h l n g q =
    let a : h * 18446744073709551616 ≤ h * 18446744073709551616 + l = omega arith in
    rw (le-ltb (h * 18446744073709551616 + l) (2 ^ 127) (le_trans (mul-le-mul_right 18446744073709551616 g) a), go (h * 18446744073709551616 + l) n (2 ^ 128) q)
  where
    go : (a n m : ℕ) → a + n ≡ m → m - a ≡ n
    go a n m q = omega arith

-- the negation, in its halves; with the number it makes 2 ^ 128
pub signed_minus_high : (h l : ℕ) → 9223372036854775808 ≤ h → h < 18446744073709551616 → l ≡ 0 → signed 128 (h * 18446744073709551616 + l) ≡ 45 ∷ decimal ((18446744073709551615 - h + 1) * 18446744073709551616 + 0)
signed_minus_high h l g k q =
    let s : h + (18446744073709551615 - h + 1) ≡ 18446744073709551616 = omega arith in
    signed_minus h l _ g (go (18446744073709551615 - h + 1) q ∙ ap (λ (n : ℕ). n * 18446744073709551616) s)
  where
    go : (m : ℕ) → l ≡ 0 → h * 18446744073709551616 + l + (m * 18446744073709551616 + 0) ≡ (h + m) * 18446744073709551616
    go m q = omega arith

pub signed_minus_low : (h l : ℕ) → 9223372036854775808 ≤ h → h < 18446744073709551616 → l < 18446744073709551616 → (l ≡ 0 → ⊥) → signed 128 (h * 18446744073709551616 + l) ≡ 45 ∷ decimal ((18446744073709551615 - h) * 18446744073709551616 + (18446744073709551615 - l + 1))
signed_minus_low h l g k f z =
    let s : h + (18446744073709551615 - h) + 1 ≡ 18446744073709551616 = omega arith in
    let t : l + (18446744073709551615 - l + 1) ≡ 18446744073709551616 = omega arith in
    signed_minus h l _ g (go (18446744073709551615 - h) (18446744073709551615 - l + 1) t ∙ ap (λ (n : ℕ). n * 18446744073709551616) s)
  where
    go : (m n : ℕ) → l + n ≡ 18446744073709551616 → h * 18446744073709551616 + l + (m * 18446744073709551616 + n) ≡ (h + m + 1) * 18446744073709551616
    go m n t = omega arith
