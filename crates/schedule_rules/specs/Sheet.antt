-- Req 01: the sheet of a plan's faults, what the program prints, and the answer in a lent buffer. Assumes nothing: these are definitions.
use Rattle.std.specs.Prelude.{ℕ, suc, cond, List, [], ◌∷◌, ◌++◌, leb, length}
use Rattle.text.specs.Codes.{codes}
use Rattle.text.specs.Digits.{decimal}
use Rattle.plan.specs.Plan.{Environment, Generated, Plan}
use Rattle.plan.specs.Refusal.{Outcome, refused, accepted, outcome}
use Rattle.codegen.specs.Answer.{Answer, refuse}
use Rattle.schedule_rules.specs.Faults.{Letters, table_faults}

-- "The columns are the generated term's row in the term table, the block row counted from 0 within that term, and the letter."
unfoldable pub fault_line : ℕ → ℕ → ℕ → List ℕ
fault_line term row letter = decimal term ++ (32 ∷ decimal row ++ (32 ∷ letter ∷ 10 ∷ []))

-- a, b and c are 97, 98 and 99
unfoldable pub row_lines : ℕ → ℕ → Letters → List ℕ
row_lines term row f =
    let a = fault_line term row 97 in
    let b = fault_line term row 98 in
    let c = fault_line term row 99 in
    cond f.a a [] ++ (cond f.b b [] ++ cond f.c c [])

unfoldable pub table_lines : ℕ → ℕ → List Letters → List ℕ
table_lines term row [] = []
table_lines term row (f ∷ fs) = row_lines term row f ++ table_lines term (suc row) fs

-- "in plan order": the generated terms in order, each with its rows in order
unfoldable pub plan_lines : Environment → List Generated → List ℕ
plan_lines e [] = []
plan_lines e (g ∷ gs) = table_lines g.term 0 (table_faults e g) ++ plan_lines e gs

-- "a names line `term row fault` and a line for each fault"
unfoldable pub sheet : Plan → List ℕ
sheet p = codes "term row fault\n" ++ plan_lines p.env p.generated

-- "A refused plan prints `refused N` alone."
abbrev pub printed : Outcome → List ℕ
printed (refused n) = codes "refused " ++ (decimal n ++ (10 ∷ []))
printed (accepted p) = sheet p

-- what the program prints, from the plan's bytes
unfoldable pub schedule_text : List ℕ → List ℕ
schedule_text s = printed (outcome s)

-- the answer in a buffer: the sheet, 11 where it is longer than the buffer, or the plan's refusal from 1 to 10; a sheet has no literals
unfoldable pub sheet_answer_of : ℕ → Outcome → Answer
sheet_answer_of room (refused n) = refuse n
sheet_answer_of room (accepted p) = let t = sheet p in cond (leb (length t) room) (record { number = 0; length = length t; count = 0; text = t }) (refuse 11)

unfoldable pub sheet_answer : List ℕ → ℕ → Answer
sheet_answer s room = sheet_answer_of room (outcome s)
