-- Demand 1: what is said of a call, its result and the buffer. proofs/Demand1 proves it of the entries. Assumes nothing: these are definitions.
use Rattle.std.specs.Prelude.{ℕ, ◌≤◌, ◌≡◌, true, List, ◌++◌, drop, length, Err}
use Rattle.std.proofs.Math.Option.{some}
use Rattle.plan.specs.Plan.{Plan}
use Rattle.plan.specs.Layout.{read}
use Rattle.plan.specs.Refusal.{accepted, outcome}
use Rattle.codegen.specs.Piece.{render}
use Rattle.codegen.specs.Items.{items}
use Rattle.refusal.specs.Number.{number}
use Rattle.refusal.specs.declared.Refusal.{Refusal}
use Rattle.emitter.specs.Answered.{Emitted, gives}
use Rattle.demands.specs.Checks.{checks, passes, FirstToFail}

-- DEMAND 1: "A caller may hand over any bytes as a plan, and an output buffer of any length, and gets the text or one of the
-- refusals 1 to 11; a refusal gives length 0 and count 0 and changes no byte of the buffer."
-- Document 01: "Checks run over the whole plan in number order; the lowest number is given, and none otherwise."

-- of a text that is asked for, with its count, a plan's bytes and the buffer before: the result, and the buffer after
pub data TextOrRefusal (form : Plan → List ℕ) (odd : Plan → ℕ) (plan before : List ℕ) : Emitted → List ℕ → Type 0 where
  -- the check of the list (Checks.antt) that has the refusal's number fails, and every earlier one passes
  refusal : (r : Refusal) → 1 ≤ number r → number r ≤ 11 → FirstToFail (checks form plan (length before)) (number r) → TextOrRefusal form odd plan before (Err r) before
  -- every check passes, and the text and the count are those of the plan that the bytes are read as
  text : (p : Plan) → read plan ≡ some p → outcome plan ≡ accepted p → ((n : ℕ) → passes (checks form plan (length before)) n ≡ true) → length (form p) ≤ length before → odd p ≤ length (form p)
      → TextOrRefusal form odd plan before (gives (length (form p)) (odd p)) (form p ++ drop (length (form p)) before)

-- header, trait and types: no literals stand there
abbrev pub items_text : Plan → List ℕ
items_text p = render p.env 0 (items p)
