-- A signed number that was written, by its sign. Assumes nothing.
use Rattle.std.specs.Prelude.{ℕ, ◌+◌, ◌*◌, ◌-◌, ◌<◌, ◌≤◌, ◌≡◌, [], ◌∷◌}
use Rattle.text.specs.declared.sink.Sink.{Sink}
use Rattle.text.specs.Digits.{decimal, signed}
use Rattle.text.specs.Wide.{signed_plus, signed_minus_high, signed_minus_low}
use Rattle.text.specs.Writes.{Writes, writes_then}

pub writes_plus : (h l : ℕ) {w w' : Sink} → h < 9223372036854775808 → l < 18446744073709551616 → Writes (decimal (h * 18446744073709551616 + l)) w w' → Writes (signed 128 (h * 18446744073709551616 + l)) w w'
writes_plus h l g k p = rw (signed_plus h l g k) p

pub writes_minus_high : (h l : ℕ) {w w₁ w' : Sink} → 9223372036854775808 ≤ h → h < 18446744073709551616 → l ≡ 0 → Writes (45 ∷ []) w w₁ → Writes (decimal ((18446744073709551615 - h + 1) * 18446744073709551616 + 0)) w₁ w' → Writes (signed 128 (h * 18446744073709551616 + l)) w w'
writes_minus_high h l g k q s p = rw (signed_minus_high h l g k q) (writes_then s p)

pub writes_minus_low : (h l : ℕ) {w w₁ w' : Sink} → 9223372036854775808 ≤ h → h < 18446744073709551616 → l < 18446744073709551616 → (l ≡ 0 → ⊥) → Writes (45 ∷ []) w w₁ → Writes (decimal ((18446744073709551615 - h) * 18446744073709551616 + (18446744073709551615 - l + 1))) w₁ w' → Writes (signed 128 (h * 18446744073709551616 + l)) w w'
writes_minus_low h l g k f z s p = rw (signed_minus_low h l g k f z) (writes_then s p)
