-- The refusals 4 to 10 come after 1 to 3. Assumes nothing.
use Prim.Native.Nat.{ℕ, ◌+◌, ◌≤◌, ◌<◌}
use mathlib.Core.Path.{◌≡◌, refl, sym, ap, ◌∙◌}
use mathlib.Core.Bool.{Bool, true, false, cond}
use mathlib.Core.List.{List}
use mathlib.Core.Option.{Option, some, none}
use native.Mathlib.Omega.{arith}
use lib.ListN.{length, take}
use Rattle.plan.specs.Plan.{Plan}
use Rattle.plan.specs.Layout.{read}
use Rattle.plan.specs.Refusal.{fits_length, bytes_allowed, Outcome, refused, accepted, judged, laid_out, outcome, number_of, refusal, within_most, all_exist, lengths_fit, sources_lower, returns_fit, matches_have_arms, loops_iterate}
use Rattle.reader.specs.Reading.{of_layout, reading, Holding, Says}
use Rattle.reader.specs.declared.Held.{Held}
use Rattle.refusal.specs.declared.Refusal.{Refusal}
use Rattle.refusal.specs.Number as refusal
use Rattle.refusal.specs.Number.{result_number, refusal_number}
use Rattle.refusal.specs.NumberLaws.{some_number}
use Rattle.std.specs.Result.{result_err}
use Rattle.std.specs.declared.result.Result as rust
use Rattle.std.specs.Prelude.{Ok, Err}
use Rattle.view.specs.Tables.{plan_in}
use Rattle.view.proofs.Held.{plan_is}

-- what the checks 4 to 10 make of a plan
data Result (p : Plan) : Outcome → Type 0 where
  passes : Result p (accepted p)
  turned : (n : ℕ) → 4 ≤ n → Result p (refused n)

either : {p : Plan} (b : Bool) {x y : Outcome} → Result p x → Result p y → Result p (cond b x y)
either true h g = h
either false h g = g

result : (p : Plan) → Result p (judged p)
unfolding judged
result p =
    either (within_most p)
    (either (all_exist p)
    (either (lengths_fit p)
    (either (sources_lower p)
    (either (returns_fit p)
    (either (matches_have_arms p)
    (either (loops_iterate p) passes (turned 10 (omega arith)))
    (turned 9 (omega arith)))
    (turned 8 (omega arith)))
    (turned 7 (omega arith)))
    (turned 6 (omega arith)))
    (turned 5 (omega arith)))
    (turned 4 (omega arith))

abbrev go_on : Outcome → Outcome
go_on (refused n) = refused n
go_on (accepted p) = judged p

outcome_is : (s : List ℕ) → go_on (reading s) ≡ outcome s
unfolding reading outcome
outcome_is s = by_tests (fits_length s) (bytes_allowed s) (read s) where
  by_tests : (a b : Bool) (p : Option Plan) → go_on (cond a (cond b (of_layout p) (refused 2)) (refused 1)) ≡ cond a (cond b (laid_out p) (refused 2)) (refused 1)
  by_tests true true none = refl
  by_tests true true (some p) = refl
  by_tests true false p = refl
  by_tests false b p = refl

-- a refusal of the reader
pub says_early : (s words rows tables : List ℕ) (r : Refusal) → Says (reading s) s (Err r) words rows tables → Says (outcome s) s (Err r) words rows tables
unfolding Says
says_early s words rows tables r h = rw (sym (outcome_is s)) (by_outcome (reading s) h) where
  by_outcome : (o : Outcome) → Says o s (Err r) words rows tables → Says (go_on o) s (Err r) words rows tables
  by_outcome (refused m) h = h
  by_outcome (accepted p) h = absurd h

-- the plan that was read, and what the checks 4 to 10 make of it
module _ (s words rows tables : List ℕ) (n : Held) (h : Says (reading s) s (Ok n) words rows tables) where
  pub held : n.tables < length tables
  unfolding Says
  held = by_outcome (reading s) h where
    by_outcome : (o : Outcome) → Says o s (Ok n) words rows tables → n.tables < length tables
    by_outcome (refused m) h = absurd h
    by_outcome (accepted p) h = h.held

  module _ (k : ℕ) (e : k ≡ number_of (judged (plan_in s words rows (take (n.tables + 1) tables)))) where
    judged_is : (p : Plan) → Holding p s words rows tables n.rows n.tables → k ≡ number_of (judged p)
    judged_is p g = e ∙ ap (λ (p : Plan). number_of (judged p)) (sym (plan_is words rows tables n.rows n.tables g.index g.held s) ∙ g.is)

    pub says_late : (r : Refusal) → refusal.number r ≡ k → Says (outcome s) s (Err r) words rows tables
    unfolding Says
    says_late r q = rw (sym (outcome_is s)) (by_outcome (reading s) h) where
      by_outcome : (o : Outcome) → Says o s (Ok n) words rows tables → Says (go_on o) s (Err r) words rows tables
      by_outcome (refused m) h = absurd h
      by_outcome (accepted p) g = by_result (result p) (judged_is p g)
        where
          by_result : {o : Outcome} → Result p o → k ≡ number_of o → Says o s (Err r) words rows tables
          by_result passes z = absurd (some_number r (q ∙ z))
          by_result (turned m g) z = q ∙ z

    pub says_held : k ≡ 0 → Says (outcome s) s (Ok n) words rows tables
    unfolding Says
    says_held q = rw (sym (outcome_is s)) (by_outcome (reading s) h) where
      by_outcome : (o : Outcome) → Says o s (Ok n) words rows tables → Says (go_on o) s (Ok n) words rows tables
      by_outcome (refused m) h = absurd h
      by_outcome (accepted p) g = by_result (result p) (judged_is p g)
        where
          by_result : {o : Outcome} → Result p o → k ≡ number_of o → Says o s (Ok n) words rows tables
          by_result passes z = g
          by_result (turned m f) z = absurd (omega arith)

    -- the refusals 1 to 3 are the reader's
    pub late : (r : Refusal) → refusal.number r ≡ k → 3 < refusal.number r
    unfolding Says
    late r q = by_outcome (reading s) h where
      by_outcome : (o : Outcome) → Says o s (Ok n) words rows tables → 3 < refusal.number r
      by_outcome (refused m) h = absurd h
      by_outcome (accepted p) g = by_result (result p) (judged_is p g)
        where
          by_result : {o : Outcome} → Result p o → k ≡ number_of o → 3 < refusal.number r
          by_result passes z = absurd (some_number r (q ∙ z))
          by_result (turned m f) z = omega arith

-- the number of an answer
pub refused_is : (s words rows tables : List ℕ) (r : rust.Result Held Refusal) → Says (outcome s) s r words rows tables → result_number r ≡ refusal s
unfolding Says refusal
refused_is s words rows tables r h = by_outcome (outcome s) r h where
  by_outcome : (o : Outcome) (r : rust.Result Held Refusal) → Says o s r words rows tables → result_number r ≡ number_of o
  by_outcome (refused m) (Err r) h = h
  by_outcome (refused m) (Ok n) h = absurd h
  by_outcome (accepted p) (Err r) h = absurd h
  by_outcome (accepted p) (Ok n) h = refl

pub number_of_err : (r : rust.Result Held Refusal) → refusal_number (result_err r) ≡ result_number r
number_of_err (Ok n) = refl
number_of_err (Err r) = refl
