-- Req 01: what is said of a call of the schedule check, its result and the buffer. proofs/Request01 proves it of the entry and of the C function.
-- Assumes nothing: these are definitions.
use Rattle.std.specs.Prelude.{ℕ, ◌≤◌, ◌≡◌, true, List, ◌++◌, drop, length, get_or, Ok, Err}
use Rattle.std.proofs.Math.Option.{some}
use Rattle.plan.specs.Plan.{Plan}
use Rattle.plan.specs.Layout.{read}
use Rattle.plan.specs.Refusal.{accepted, outcome}
use Rattle.refusal.specs.Number.{number, result_number}
use Rattle.refusal.specs.declared.Refusal.{Refusal}
use Rattle.schedule_rules.specs.Sheet.{sheet}
use Rattle.schedule_check.specs.Answered.{Checked, length_of}
use Rattle.demands.specs.Checks.{checks, passes, FirstToFail}

-- REQ 01: "Add a check over plans that pass refusals 1 to 10, and a program that prints a names line `term row fault` and a line for each fault in
-- plan order, a row's faults in letter order, each letter at most once a row." What the lines are is said by `sheet` (schedule_rules/specs/Sheet and
-- Faults), and by the laws about it: schedule_rules/proofs/Laws and `sheet_room`.

-- of a plan's bytes and the buffer before: the result, and the buffer after
pub data SheetOrRefusal (plan before : List ℕ) : Checked → List ℕ → Type 0 where
  -- The check of the list (Checks.antt) that has the refusal's number fails, and every earlier one passes: 11 is about the sheet.
  refusal : (r : Refusal) → 1 ≤ number r → number r ≤ 11 → FirstToFail (checks sheet plan (length before)) (number r) → SheetOrRefusal plan before (Err r) before
  -- every check passes, and the sheet is that of the plan that the bytes are read as
  faults : (p : Plan) → read plan ≡ some p → outcome plan ≡ accepted p → ((n : ℕ) → passes (checks sheet plan (length before)) n ≡ true) → length (sheet p) ≤ length before
      → SheetOrRefusal plan before (Ok (length (sheet p))) (sheet p ++ drop (length (sheet p)) before)

-- of a call of the C function `rizhavel_schedule`: such a result, of which it returns the number, 0 for a sheet, and gives the length as the first
-- entry of the lent slice, where there is one; the other entries are unchanged, and there are as many as before
pub record SheetTold (plan before after : List ℕ) (n : ℕ) (told told' : List ℕ) : Type 0 where
  pub result : Checked
  pub holds : SheetOrRefusal plan before result after
  pub number : n ≡ result_number result
  pub entry_0 : 1 ≤ length told → get_or told' 0 0 ≡ length_of result
  pub others : (i : ℕ) → 1 ≤ i → get_or told' i 0 ≡ get_or told i 0
  pub entries : length told' ≡ length told
