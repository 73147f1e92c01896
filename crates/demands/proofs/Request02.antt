-- Req 02, of what `find_decimal` (text/src/decimal.rt) promises of any number in two halves. Assumes nothing.
use Rattle.std.specs.Prelude.{ℕ, zero, suc, ◌+◌, ◌*◌, ◌-◌, ◌/◌, ◌%◌, ◌^◌, ◌≤◌, ◌<◌, ◌≡◌, refl, Bool, true, false, List, [], ◌∷◌, ◌++◌, ltb, ◌&&◌, get_or}
use Rattle.std.proofs.Common.{ap, ◌∙◌, arith, ltb-true, ltb-false, le-leb}
use Rattle.text.specs.declared.number.Wide.{Wide}
use Rattle.text.specs.declared.decimal.Decimal.{Decimal}
use Rattle.text.specs.Wide.{whole}
use Rattle.text.specs.Digits.{decimal}
use Rattle.text.specs.DigitsLaws.{decimal_digit, decimal_one, decimal_more}
use Rattle.text.specs.Decimal.{Finds}
use Rattle.plan.specs.Layout.{digit, digits, decimal_from}
use Rattle.demands.specs.Request02.{InHalves, ReadBack, NoLeadingZero, AsManyDivisions}

-- a number by its digits: one below ten, and one digit more
by_digits : (P : ℕ → List ℕ → Type 0) → ((n : ℕ) → n < 10 → P n ((48 + n % 10) ∷ [])) → ((n : ℕ) (s : List ℕ) → 10 ≤ n → P (n / 10) s → P n (s ++ ((48 + n % 10) ∷ []))) → (k n : ℕ) → n < k → P n (decimal n)
by_digits P one more zero n h = absurd (omega arith)
by_digits P one more (suc k) n h = by_size (ltb n 10) refl (by_digits P one more k (n / 10))
  where
    by_size : (b : Bool) → ltb n 10 ≡ b → (n / 10 < k → P (n / 10) (decimal (n / 10))) → P n (decimal n)
    by_size true e f = let g : n < 10 = ltb-true n 10 e in rw (decimal_one n g, decimal_digit n) (one n g)
    by_size false e f = let g : 10 ≤ n = ltb-false n 10 e in rw (decimal_more n g, decimal_digit n) (more n (decimal (n / 10)) g (f (omega arith)))

digit_more : (s : List ℕ) (d : ℕ) → digits s ≡ true → d < 10 → digits (s ++ ((48 + d) ∷ [])) ≡ true
unfolding digits
digit_more [] d p h = rw (le-leb 48 (48 + d) (omega arith), le-leb (48 + d) 57 (omega arith))
digit_more (c ∷ s) d p h = by_first (digit c) (λ q. digit_more s d q h) p
  where
    by_first : (b : Bool) → (digits s ≡ true → digits (s ++ ((48 + d) ∷ [])) ≡ true) → (b && digits s) ≡ true → (b && digits (s ++ ((48 + d) ∷ []))) ≡ true
    by_first true f p = f p
    by_first false f p = p

value_more : (s : List ℕ) (m d : ℕ) → decimal_from m (s ++ ((48 + d) ∷ [])) ≡ decimal_from m s * 10 + d
unfolding decimal_from
value_more [] m d = omega arith
value_more (c ∷ s) m d = value_more s (m * 10 + (c - 48)) d

first_more : (s t : List ℕ) → 48 < get_or s 0 0 → get_or (s ++ t) 0 0 ≡ get_or s 0 0
first_more [] t h = absurd (omega arith)
first_more (c ∷ s) t h = refl

all_digits : (n : ℕ) → digits (decimal n) ≡ true
unfolding digits
all_digits n = by_digits (λ n s. digits s ≡ true)
    (λ n h. digit_more [] (n % 10) refl (omega arith))
    (λ n s h p. digit_more s (n % 10) p (omega arith)) (suc n) n (omega arith)

value : (n : ℕ) → decimal_from 0 (decimal n) ≡ n
unfolding decimal_from
value n = by_digits (λ n s. decimal_from 0 s ≡ n)
    (λ n h. value_more [] 0 (n % 10) ∙ (omega arith))
    (λ n s h p. value_more s 0 (n % 10) ∙ (omega (arith, p))) (suc n) n (omega arith)

-- a number's first digit is above 0
leads : (n : ℕ) → 1 ≤ n → 48 < get_or (decimal n) 0 0
leads n = by_digits (λ n s. 1 ≤ n → 48 < get_or s 0 0)
    (λ n h l. omega arith)
    (λ n s h p l. let f : 48 < get_or s 0 0 = p (omega arith) in rw (first_more s _ f) f) (suc n) n (omega arith)

zero_digits : decimal 0 ≡ 48 ∷ []
zero_digits = decimal_one 0 (omega arith) ∙ ap (λ c. c ∷ []) (decimal_digit 0)

zero_alone : (n : ℕ) → get_or (decimal n) 0 0 ≡ 48 → decimal n ≡ 48 ∷ []
zero_alone zero e = zero_digits
zero_alone (suc n) e = absurd (omega (arith, e, leads (suc n) (omega arith)))

-- the numbers that are meant
pub in_halves : (n : ℕ) → n < 2 ^ 128 → InHalves n
in_halves n h = record {
  wide = record { high = n / 18446744073709551616; low = n % 18446744073709551616 };
  is = omega arith;
  high = omega arith;
  low = omega arith;
}

module _ (w : Wide) (d : Decimal) (f : Finds (whole w) d) where
  pub read_back : ReadBack (whole w) d
  read_back = record { digits = rw f.digits (all_digits (whole w)); value = rw f.digits (value (whole w)) }

  pub no_leading_zero : NoLeadingZero (whole w) d
  no_leading_zero = record { first = rw f.digits (zero_alone (whole w)); zero = λ z. f.digits ∙ ap decimal z ∙ zero_digits }

  pub as_many_divisions : AsManyDivisions d
  as_many_divisions = record { divisions = f.divisions; count = f.count }
