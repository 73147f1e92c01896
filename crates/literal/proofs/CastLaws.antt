-- How the code casts a value, which it has in two halves of 64 bits. Assumes nothing.
use Rattle.std.specs.Prelude.{ℕ, suc, ◌+◌, ◌-◌, ◌*◌, ◌%◌, ◌^◌, ◌≤◌, ◌<◌, ◌≡◌, refl, Bool, true, false, ◌&&◌, ltb, eqb}
use Rattle.std.proofs.Common.{sym, ap, ◌∙◌, mul-le-mul_right, lt_of_lt_of_le, mod-lt, arith, lit≤, le-leb, lt-ltb, le-ltb, ltb-true, ltb-false, eqb-true, eq-eqb}
use Rattle.std.proofs.lemmas.Bool.{lt-leb}
use Rattle.std.proofs.Math.Bool.{and-eq-true_iff}
use Rattle.std.proofs.Math.Nat.{pow-le-pow_right, two-pow-succ, one-le-pow}
use Rattle.text.specs.Digits.{signed}
use Rattle.literal.specs.declared.builtin_type.IntType.{IntType}
use Rattle.literal.specs.BuiltinType.{is_signed, bits}
use Rattle.literal.specs.Literal.{written_bits, in_range}
use Rattle.literal.specs.Extend.{extend_bits, extend}
use Rattle.literal.specs.CastLaws.{number_text}
use Rattle.literal.proofs.ReadBackLaws.{written_most}
use Rattle.literal.proofs.ReadBack.{read_back_value, read_back_outside}

-- THE CAST

wide_fits : (high low : ℕ) → high < 2 ^ 64 → low < 2 ^ 64 → high * 2 ^ 64 + low < 2 ^ 128
wide_fits high low h l =
    let a : high * 2 ^ 64 + low < suc high * 2 ^ 64 = omega arith in
    lt_of_lt_of_le a (mul-le-mul_right (2 ^ 64) h)

-- THE LITERAL WITHOUT ITS SUFFIX

-- a number is written alike before and after its sign bit is copied; half is that of its width, most that of 128 bits
module _ (c half b most all : ℕ) (double : half + half ≡ b) (doubled : most + most ≡ all) (less : half ≤ most) where
  upper : half ≤ c → most ≤ c + (all - b)
  upper h = omega arith

  complement : c < b → all - (c + (all - b)) ≡ b - c
  complement h = omega arith

signed_extended : (w c : ℕ) → 1 ≤ w → w ≤ 128 → c < 2 ^ w → signed w c ≡ signed 128 (extend_bits true w c)
unfolding signed
signed_extended w c z l h = go (ltb c half) refl
  where
    half : ℕ
    half = 2 ^ (w - 1)

    double : half + half ≡ 2 ^ w
    double = let e : suc (w - 1) ≡ w = omega arith in sym (two-pow-succ (w - 1)) ∙ ap (λ (k : ℕ). 2 ^ k) e

    less : half ≤ 2 ^ 127
    less = let e : w - 1 ≤ 127 = omega arith in pow-le-pow_right (lit≤ tt) e

    go : (t : Bool) → ltb c half ≡ t → signed w c ≡ signed 128 (extend_bits true w c)
    go true q =
        let below : c < half = ltb-true c half q in
        rw (q, lt-leb half c below, lt-ltb c (2 ^ 127) (lt_of_lt_of_le below less))
    go false q =
        let from : half ≤ c = ltb-false c half q in
        let high : 2 ^ 127 ≤ c + (2 ^ 128 - 2 ^ w) = upper c half (2 ^ w) (2 ^ 127) (2 ^ 128) double refl less from in
        rw (q, le-leb half c from, le-ltb (c + (2 ^ 128 - 2 ^ w)) (2 ^ 127) high, complement c half (2 ^ w) (2 ^ 127) (2 ^ 128) double refl less h)

module _ (t : IntType) (v x : ℕ) (cast : x ≡ extend_bits (is_signed t) (written_bits t) (v % 2 ^ written_bits t)) where
  pub number_signed : is_signed t ≡ true → number_text t v ≡ signed 128 x
  number_signed e =
      let (some_bits, most) = written_most t in
      let c : ℕ = v % 2 ^ written_bits t in
      let s : signed (written_bits t) c ≡ signed 128 (extend_bits true (written_bits t) c) = signed_extended (written_bits t) c some_bits most (mod-lt v (one-le-pow (written_bits t) 2 (lit≤ tt))) in
      rw e (s ∙ ap (signed 128) (sym (rw e at cast)))

-- IN RANGE

same_test : (a b : Bool) → (a ≡ true → b ≡ true) → (b ≡ true → a ≡ true) → a ≡ b
same_test true b f g = sym (f refl)
same_test false true f g = g refl
same_test false false f g = refl

-- a value is in range where the cast to its type, `usize` and `isize` taken as 64 bits, does not change it
module _ (t f : IntType) (high low high' low' : ℕ) (sign : is_signed f ≡ is_signed t) (width : written_bits f ≡ bits t)
    (cast : high' * 2 ^ 64 + low' ≡ extend_bits (is_signed f) (written_bits f) ((high * 2 ^ 64 + low) % 2 ^ written_bits f))
    (high_fits : high < 2 ^ 64) (low_fits : low < 2 ^ 64) (low_fits' : low' < 2 ^ 64) where
  extends : high' * 2 ^ 64 + low' ≡ extend t ((high * 2 ^ 64 + low) % 2 ^ bits t)
  unfolding extend
  extends = rw (sign, width) at cast

  unchanged : in_range t (high * 2 ^ 64 + low) ≡ true → high' * 2 ^ 64 + low' ≡ high * 2 ^ 64 + low
  unchanged i = extends ∙ read_back_value t (high * 2 ^ 64 + low) i (wide_fits high low high_fits low_fits)

  pub in_range_cast : (eqb high' high && eqb low' low) ≡ in_range t (high * 2 ^ 64 + low)
  in_range_cast = same_test (eqb high' high && eqb low' low) (in_range t (high * 2 ^ 64 + low)) forth back
    where
      forth : (eqb high' high && eqb low' low) ≡ true → in_range t (high * 2 ^ 64 + low) ≡ true
      forth e =
          let p = (and-eq-true_iff (eqb high' high) (eqb low' low)).0 e in
          read_back_outside t (high * 2 ^ 64 + low) (sym extends ∙ rw (eqb-true high' high p.0, eqb-true low' low p.1))

      back : in_range t (high * 2 ^ 64 + low) ≡ true → (eqb high' high && eqb low' low) ≡ true
      back i =
          let u : high' * 2 ^ 64 + low' ≡ high * 2 ^ 64 + low = unchanged i in
          rw (eq-eqb high' high (omega arith), eq-eqb low' low (omega arith))
