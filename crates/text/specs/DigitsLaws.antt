-- Laws of digits, to any base: one digit more, a number cut into parts of some digits, and how many places digits need.
use Rattle.std.specs.Prelude.{ℕ, zero, suc, ◌+◌, ◌-◌, ◌*◌, ◌/◌, ◌%◌, ◌^◌, ◌≤◌, ◌<◌, ◌≡◌, refl, Bool, true, false, List, [], ◌∷◌, ◌++◌, ltb}
use Rattle.std.proofs.Common.{◌∙◌, append_assoc, append-nil, div-lt_iff_lt-mul, pow-suc, add-one, mul_assoc, mul-le-mul, mul-le-mul_right, add_comm, lt_of_lt_of_le, le_trans, lt_of_not-le, not-le_of_lt, arith, lit≤, lt-ltb, le-ltb, ltb-false}
use Rattle.std.proofs.Math.Nat.{div-lt_self, pow-zero, one-le-pow, div-one, div-div-eq-div-mul, add-mul-div_right, add-mul-mod_self_right, pow-le-pow_left, pow-le-pow_right}
use Rattle.text.specs.Digits.{digit, digits, decimal, hexadecimal}

-- exactly k digits of n to the base b, with zeros in front
unfoldable pub padded : ℕ → ℕ → ℕ → List ℕ
padded b zero n = []
padded b (suc k) n = padded b k (n / b) ++ (digit (n % b) ∷ [])

pub padded_none : (b n : ℕ) → padded b 0 n ≡ []
unfolding padded
padded_none b n = refl

pub padded_more : (b k n : ℕ) → 1 ≤ k → padded b k n ≡ padded b (k - 1) (n / b) ++ (digit (n % b) ∷ [])
unfolding padded
padded_more b k n h =
    let s : k ≡ suc (k - 1) = omega arith in
    rw s (let t : suc (k - 1) - 1 ≡ k - 1 = omega arith in rw t)

quotient_less : (b n : ℕ) → 2 ≤ b → b ≤ n → n / b < n
quotient_less b n h g = div-lt_self (omega arith) (omega arith)

-- how many digits are allowed does not matter, if they are more than n
pub digits_any : (b k k' n : ℕ) → 2 ≤ b → n < k → n < k' → digits b k n ≡ digits b k' n
unfolding digits
digits_any b zero k' n h g g' = absurd (omega arith)
digits_any b (suc k) zero n h g g' = absurd (omega arith)
digits_any b (suc k) (suc k') n h g g' = go (ltb n b) refl (λ m l l'. digits_any b k k' m h l l')
  where
    go : (t : Bool) → ltb n b ≡ t → ((m : ℕ) → m < k → m < k' → digits b k m ≡ digits b k' m) → digits b (suc k) n ≡ digits b (suc k') n
    go true q f = rw q
    go false q f =
        let l : n / b < n = quotient_less b n h (ltb-false n b q) in
        rw (q, f (n / b) (omega arith) (omega arith))

pub digits_one : (b n : ℕ) → n < b → digits b (suc n) n ≡ digit n ∷ []
unfolding digits
digits_one b n h = rw (lt-ltb n b h)

pub digits_more : (b n : ℕ) → 2 ≤ b → b ≤ n → digits b (suc n) n ≡ digits b (suc (n / b)) (n / b) ++ (digit (n % b) ∷ [])
unfolding digits
digits_more b n h g =
    let l : n / b < n = quotient_less b n h g in
    rw (le-ltb n b g, digits_any b n (suc (n / b)) (n / b) h l (omega arith))

power_less : (b k r : ℕ) → 2 ≤ b → r < b ^ suc k → r / b < b ^ k
power_less b k r h l = let z : 0 < b = omega arith in (div-lt_iff_lt-mul {k = b} {x = r} {y = b ^ k} z).1 (rw pow-suc at l)

-- a number of more than k digits: those of the quotient by b ^ k, then k digits of the remainder
pub digits_split : (b k q r : ℕ) → 2 ≤ b → 1 ≤ q → r < b ^ k → digits b (suc (q * b ^ k + r)) (q * b ^ k + r) ≡ digits b (suc q) q ++ padded b k r
unfolding padded
digits_split b zero q r h g l =
    let p : q * b ^ 0 + r ≡ q = rw (pow-zero b) (omega (arith, rw (pow-zero b) at l)) in
    rw (p, append-nil)
digits_split b (suc k) q r h g l =
    let p : q * b ^ suc k + r ≡ r + q * b ^ k * b = rw (pow-suc, ← mul_assoc) (add_comm (q * b ^ k * b) r) in
    let d : (r + q * b ^ k * b) / b ≡ q * b ^ k + r / b = add-mul-div_right r (q * b ^ k) (omega arith) ∙ add_comm (r / b) (q * b ^ k) in
    let m : (r + q * b ^ k * b) % b ≡ r % b = add-mul-mod_self_right r (q * b ^ k) b in
    let c : 1 ≤ q * b ^ k = mul-le-mul g (one-le-pow k b (omega arith)) in
    let f : b ≤ r + q * b ^ k * b = omega (arith, mul-le-mul_right b c) in
    rw (p, digits_more b (r + q * b ^ k * b) h f, d, m, digits_split b k q (r / b) h g (power_less b k r h l), append_assoc)

pub part_less : (b k r : ℕ) → 2 ≤ b → 1 ≤ k → r < b ^ k → r / b < b ^ (k - 1)
part_less b k r h g l =
    let s : k ≡ suc (k - 1) = omega arith in
    power_less b (k - 1) r h (rw s at l)

-- a number of 64 bits has at most 40 digits
pub forty_places : (b n : ℕ) → 10 ≤ b → n < 18446744073709551616 → n < b ^ 40
forty_places b n h g = lt_of_lt_of_le g (le_trans {m = 10 ^ 40} (lit≤ tt) (pow-le-pow_left h 40))

-- the quotients of a number that lost some digits, one after another
pub quotient_none : (b n : ℕ) → n ≡ n / b ^ 0
quotient_none b n = rw (pow-zero b, div-one)

pub quotient_more : (b k n : ℕ) {r : ℕ} → r ≡ n / b ^ k → r / b ≡ n / b ^ (k + 1)
quotient_more b k n q = rw (q, add-one, pow-suc) (div-div-eq-div-mul n (b ^ k) b)

-- a number of more than m digits has more than m places
pub places : (b m n k : ℕ) → 1 ≤ b → b ^ m ≤ n → n < b ^ k → m < k
places b m n k l h g = lt_of_not-le (λ (q : k ≤ m). not-le_of_lt g (le_trans (pow-le-pow_right l q) h))

-- and one of more than one digit more than one
pub more_places : (b n k : ℕ) → 1 ≤ b → b ≤ n → n < b ^ k → 1 < k
more_places b n k l h g =
    let e : b ^ 1 ≡ b = rw (pow-suc b 0, pow-zero b) (omega arith) in
    places b 1 n k l (rw e h) g

-- a decimal digit, which is a remainder by ten
pub decimal_digit : (n : ℕ) → digit (n % 10) ≡ 48 + n % 10
decimal_digit n = rw (lt-ltb (n % 10) 10 (omega arith)) (omega arith)

-- a single one, as a remainder too
pub decimal_one : (n : ℕ) → n < 10 → decimal n ≡ digit (n % 10) ∷ []
unfolding decimal
decimal_one n h = let e : n % 10 ≡ n = omega arith in rw e (digits_one 10 n h)

pub decimal_more : (n : ℕ) → 10 ≤ n → decimal n ≡ decimal (n / 10) ++ (digit (n % 10) ∷ [])
unfolding decimal
decimal_more n h = digits_more 10 n (omega arith) h

pub hexadecimal_one : (n : ℕ) → n < 16 → hexadecimal n ≡ digit n ∷ []
unfolding hexadecimal
hexadecimal_one n h = digits_one 16 n h

pub hexadecimal_more : (n : ℕ) → 16 ≤ n → hexadecimal n ≡ hexadecimal (n / 16) ++ (digit (n % 16) ∷ [])
unfolding hexadecimal
hexadecimal_more n h = digits_more 16 n (omega arith) h

-- four digits of a number that has more
pub decimal_four : (n : ℕ) → 10000 ≤ n → decimal n ≡ decimal (n / 10 / 10 / 10 / 10) ++ padded 10 4 n
unfolding padded
decimal_four n h =
    rw
    (decimal_more n (omega arith), decimal_more (n / 10) (omega arith), decimal_more (n / 10 / 10) (omega arith), decimal_more (n / 10 / 10 / 10) (omega arith))
    (simp append_assoc)

pub quotient_four : (n : ℕ) → n / 10 ^ 4 ≡ n / 10 / 10 / 10 / 10
quotient_four n = omega arith

pub part_less_four : (k n : ℕ) → 4 ≤ k → n < 10 ^ k → n / 10 / 10 / 10 / 10 < 10 ^ (k - 4)
part_less_four k n h g =
    let s : k - 1 - 1 - 1 - 1 ≡ k - 4 = omega arith in
    let p : n / 10 < 10 ^ (k - 1) = part_less 10 k n (omega arith) (omega arith) g in
    let q : n / 10 / 10 < 10 ^ (k - 1 - 1) = part_less 10 (k - 1) (n / 10) (omega arith) (omega arith) p in
    let r : n / 10 / 10 / 10 < 10 ^ (k - 1 - 1 - 1) = part_less 10 (k - 1 - 1) (n / 10 / 10) (omega arith) (omega arith) q in
    rw (← s) (part_less 10 (k - 1 - 1 - 1) (n / 10 / 10 / 10) (omega arith) (omega arith) r)
