-- What the entries answer, as document 01's number, length and count, and what they promise. Assumes nothing: these are definitions.
use Rattle.std.specs.Prelude.{ℕ, ◌≡◌, refl, Bool, true, false, List, [], ◌∷◌, ◌++◌, eqb, drop, Result, Ok, Err}
use Rattle.std.proofs.Common.{◌∙◌}
use Rattle.std.proofs.lemmas.List.Edits.{sets}
use Rattle.plan.specs.Refusal.{outcome}
use Rattle.codegen.specs.Piece.{render}
use Rattle.codegen.specs.Items.{items}
use Rattle.codegen.specs.Answer.{Answer, answer_of}
use Rattle.refusal.specs.Number.{number}
use Rattle.refusal.specs.declared.Refusal.{Refusal}
use Rattle.emitter.specs.declared.Text.{Text}

-- what an entry answers
abbrev pub Emitted : Type 0
Emitted = Result Text Refusal

-- "An accepted plan gives the length written and the count of odd literals"
abbrev pub gives : ℕ → ℕ → Emitted
gives l k = Ok (record { length = l; count = k })

-- "A refusal gives its number, length 0, count 0"; a text has the number 0
abbrev pub number_of : Emitted → ℕ
number_of (Err r) = number r
number_of (Ok t) = 0

abbrev pub length_of : Emitted → ℕ
length_of (Err r) = 0
length_of (Ok t) = t.length

abbrev pub count_of : Emitted → ℕ
count_of (Err r) = 0
count_of (Ok t) = t.count

-- header, trait and types alone: no literals stand there
abbrev pub uncounted : Answer → Answer
uncounted a = record { number = a.number; length = a.length; count = 0; text = a.text }

unfoldable pub items_answer : List ℕ → ℕ → Answer
items_answer plan room = uncounted (answer_of (λ p. render p.env 0 (items p)) room (outcome plan))

-- a result with the number 0 is a text
abbrev pub is_text : Emitted → Bool
is_text (Err r) = false
is_text (Ok t) = true

-- the entry's result is the answer, and so is each byte of the buffer: the text, and past its length the bytes that were there
pub record Answers (a : Answer) (r : Emitted) (before after : List ℕ) : Type 0 where
  pub number : number_of r ≡ a.number
  pub length : length_of r ≡ a.length
  pub count : count_of r ≡ a.count
  pub written : is_text r ≡ eqb a.number 0
  pub bytes : after ≡ a.text ++ drop a.length before

-- the same of a C function: it returns the number, and sets the first two entries of a lent slice, where there are such
pub record Exports (a : Answer) (number : ℕ) (before after told told' : List ℕ) : Type 0 where
  pub numbered : number ≡ a.number
  pub bytes : after ≡ a.text ++ drop a.length before
  pub values : told' ≡ sets told 0 (a.length ∷ a.count ∷ [])

pub exports : {a : Answer} {r : Emitted} {before after told told' : List ℕ} {n : ℕ} → Answers a r before after → n ≡ number_of r → told' ≡ sets told 0 (length_of r ∷ count_of r ∷ []) → Exports a n before after told told'
exports p q v = record { numbered = q ∙ p.number; bytes = p.bytes; values = v ∙ (rw (p.length, p.count) refl) }
