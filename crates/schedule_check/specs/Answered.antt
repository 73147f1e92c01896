-- What the entry answers, as a number and a length, and what it promises. Assumes nothing: these are definitions.
use Rattle.std.specs.Prelude.{ℕ, ◌≡◌, List, [], ◌∷◌, ◌++◌, drop, Result, Ok, Err}
use Rattle.std.proofs.lemmas.List.Edits.{sets}
use Rattle.codegen.specs.Answer.{Answer}
use Rattle.refusal.specs.Number.{result_number}
use Rattle.refusal.specs.declared.Refusal.{Refusal}

-- what the entry gives: the length of a sheet, or a refusal
abbrev pub Checked : Type 0
Checked = Result ℕ Refusal

-- "A refusal gives its number, length 0"
abbrev pub length_of : Checked → ℕ
length_of (Ok n) = n
length_of (Err r) = 0

-- The entry's result is the answer: a sheet has the number 0, which no refusal has. So is each byte of the buffer: the sheet, and past its
-- length the bytes that were there.
pub record Answers (a : Answer) (r : Checked) (before after : List ℕ) : Type 0 where
  pub number : result_number r ≡ a.number
  pub length : length_of r ≡ a.length
  pub bytes : after ≡ a.text ++ drop a.length before

-- the same of a C function: it returns the number, and sets the first entry of a lent slice, where there is one
pub record Exports (a : Answer) (number : ℕ) (before after told told' : List ℕ) : Type 0 where
  pub numbered : number ≡ a.number
  pub bytes : after ≡ a.text ++ drop a.length before
  pub values : told' ≡ sets told 0 (a.length ∷ [])
