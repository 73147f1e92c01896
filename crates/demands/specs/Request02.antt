-- Req 02: what is said of the decimal digits of a number of 128 bits. `find_decimal` (text/src/decimal.rt) promises `Finds (whole w) d` of any number w
-- in two halves and of what it finds, d; proofs/Request02 proves the three sentences of that. Assumes nothing: these are definitions.
use Rattle.std.specs.Prelude.{ℕ, ◌^◌, ◌<◌, ◌≡◌, true, [], ◌∷◌, length, get_or}
use Rattle.text.specs.declared.number.Wide.{Wide}
use Rattle.text.specs.declared.decimal.Decimal.{Decimal}
use Rattle.text.specs.Wide.{whole}
use Rattle.text.specs.Decimal.{found}
use Rattle.plan.specs.Layout.{digits, decimal_from}

-- REQ 02: "However it is done now, printing a 128-bit decimal is to divide through the value once: the digits are filled from the end, then copied, and
-- their number comes with them." Code: `find_decimal` fills them, `put_decimal_wide` copies them by one `put_bytes`.

-- "For each magnitude up to 2 to the 127": as each number below 2 ^ 128 it has two halves, so `find_decimal` takes it
pub record InHalves (n : ℕ) : Type 0 where
  pub wide : Wide
  pub is : whole wide ≡ n
  pub high : wide.high < 2 ^ 64
  pub low : wide.low < 2 ^ 64

-- "show that they read back as the value": each byte is a digit, 48 to 57, and they say the value as the digits of a plan's numbers do
pub record ReadBack (n : ℕ) (d : Decimal) : Type 0 where
  pub digits : digits (found d) ≡ true
  pub value : decimal_from 0 (found d) ≡ n

-- "that none has a leading zero (0 is one `0`)": the first byte is 48 only if it is the only one
pub record NoLeadingZero (n : ℕ) (d : Decimal) : Type 0 where
  pub first : get_or (found d) 0 0 ≡ 48 → found d ≡ 48 ∷ []
  pub zero : n ≡ 0 → found d ≡ 48 ∷ []

-- "and that the divisions of the value by ten, counted as they are made, are as many as the digits": `divide` alone divides, and raises the count
pub record AsManyDivisions (d : Decimal) : Type 0 where
  pub divisions : d.divisions ≡ length (found d)
  pub count : d.count ≡ length (found d)
