-- What the programs print. Assumes nothing: these are definitions.
use Rattle.std.specs.Prelude.{ℕ, cond, List, [], ◌∷◌, ◌++◌, eqb, take, Ok, Err}
use Rattle.text.specs.Codes.{codes}
use Rattle.text.specs.Digits.{decimal}
use Rattle.codegen.specs.Answer.{Answer}
use Rattle.refusal.specs.Number.{number}
use Rattle.emitter.specs.Answered.{Emitted, number_of, length_of, count_of}

-- document 01, "the line `refused N`", with its LF
unfoldable pub refused_line : ℕ → List ℕ
refused_line n = codes "refused " ++ (decimal n ++ (10 ∷ []))

-- "prints only `generate_internal_term_constructors`' text, or the line `refused N`. The whole program prints everything, or that line."
unfoldable pub printed : Answer → List ℕ
printed a = cond (eqb a.number 0) a.text (refused_line a.number)

-- the line `accepted`, and what is printed of the number of a plan's lowest refusal from 1 to 10, 0 for none
unfoldable pub accepted_line : List ℕ
accepted_line = codes "accepted" ++ (10 ∷ [])

unfoldable pub verdict : ℕ → List ℕ
verdict n = cond (eqb n 0) accepted_line (refused_line n)

-- the line `number length count`
unfoldable pub count_line : ℕ → ℕ → ℕ → List ℕ
count_line number length count = decimal number ++ (codes " " ++ (decimal length ++ (codes " " ++ (decimal count ++ (10 ∷ [])))))

abbrev pub counted : Answer → List ℕ
counted a = count_line a.number a.length a.count

-- the same of an entry's result
abbrev pub numbers : Emitted → List ℕ
numbers r = count_line (number_of r) (length_of r) (count_of r)

-- the same as `printed`, of an entry's result and its buffer
abbrev pub shown : Emitted → List ℕ → List ℕ
shown (Err r) out = refused_line (number r)
shown (Ok t) out = take t.length out
