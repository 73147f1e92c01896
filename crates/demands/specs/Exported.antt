-- The three demands, of the C functions: what is said of a call. proofs/Exported proves it. Assumes nothing: these are definitions.
use Rattle.std.specs.Prelude.{ℕ, ◌≤◌, ◌≡◌, List, eqb, length, get_or, Ok, Err}
use Rattle.emitter.specs.Answered.{Emitted, number_of, length_of, count_of, is_text}

-- what a C function tells: of a result with the property P its number n, which is 0 for a text, and as the first two entries of the
-- slice its length and count, as far as there are such; the other entries are unchanged, and there are as many as before
pub record Told (P : Emitted → Type 0) (n : ℕ) (told told' : List ℕ) : Type 0 where
  pub result : Emitted
  pub holds : P result
  pub number : n ≡ number_of result
  pub text : is_text result ≡ eqb n 0
  pub entry_0 : 1 ≤ length told → get_or told' 0 0 ≡ length_of result
  pub entry_1 : 2 ≤ length told → get_or told' 1 0 ≡ count_of result
  pub others : (i : ℕ) → 2 ≤ i → get_or told' i 0 ≡ get_or told i 0
  pub entries : length told' ≡ length told

-- a property of a text's length and count, where there is a text
abbrev pub Where : (ℕ → ℕ → Type 0) → Emitted → Type 0
Where P (Err r) = Unit
Where P (Ok t) = P t.length t.count
