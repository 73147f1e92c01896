-- Decimal digits that were found: what is promised of them. Assumes nothing: these are definitions.
use Rattle.std.specs.Prelude.{ℕ, ◌≡◌, ◌≤◌, List, length, drop}
use Rattle.text.specs.declared.decimal.Decimal.{Decimal}
use Rattle.text.specs.Digits.{decimal}

-- the bytes that they are
abbrev pub found : Decimal → List ℕ
found d = drop d.first d.digits

-- they are those of n, their number comes with them, and as many divisions of n by ten were made
pub record Finds (n : ℕ) (d : Decimal) : Type 0 where
  pub place : d.first ≤ 40
  pub digits : found d ≡ decimal n
  pub count : d.count ≡ length (found d)
  pub divisions : d.divisions ≡ length (found d)
