-- What is read, measured and put gives the answer. Assumes nothing.
use Rattle.std.specs.Prelude.{ℕ, ◌+◌, ◌≤◌, ◌<◌, ◌≡◌, refl, Bool, true, false, cond, List, ◌++◌, leb, length, take, drop, Ok, Err}
use Rattle.std.proofs.Common.{◌∙◌, zero-add, arith, leb-true, le-leb}
use Rattle.std.proofs.Math.Seq.{take-append_seam}
use Rattle.plan.specs.Plan.{Plan}
use Rattle.plan.specs.Refusal.{Outcome, refused, accepted, outcome}
use Rattle.codegen.specs.Answer.{refuse}
use Rattle.text.specs.Sink.{Puts}
use Rattle.text.specs.SinkLaws.{puts_fit, puts_room, puts_written}
use Rattle.schedule_rules.specs.Sheet.{sheet, sheet_answer_of, sheet_answer}
use Rattle.reader.specs.Reading.{Says}
use Rattle.reader.specs.declared.Held.{Held}
use Rattle.refusal.specs.declared.Refusal.{Refusal}
use Rattle.refusal.specs.declared.Refusal.TheVariants.{Room}
use Rattle.view.specs.Tables.{plan_in}
use Rattle.view.proofs.Held.{plan_is}
use Rattle.schedule_check.specs.Answered.{Answers}

-- THE READER'S ANSWER

module _ (s words rows tables : List ℕ) where
  pub answers_refused : (room : ℕ) (o : List ℕ) (r : Refusal) → Says (outcome s) s (Err r) words rows tables → Answers (sheet_answer s room) (Err r) o o
  unfolding Says sheet_answer sheet_answer_of
  answers_refused room o r h = by_outcome (outcome s) h
    where
      by_outcome : (x : Outcome) → Says x s (Err r) words rows tables → Answers (sheet_answer_of room x) (Err r) o o
      by_outcome (refused m) q = record { number = q; length = refl; bytes = refl }
      by_outcome (accepted p) q = absurd q

  -- the tables that are held are there, and hold the accepted plan
  pub held : (h : Held) → Says (outcome s) s (Ok h) words rows tables → (h.tables < length tables) × (outcome s ≡ accepted (plan_in s words rows (take (h.tables + 1) tables)))
  unfolding Says
  held h q = by_outcome (outcome s) refl q
    where
      by_outcome : (x : Outcome) → outcome s ≡ x → Says x s (Ok h) words rows tables → (h.tables < length tables) × (outcome s ≡ accepted (plan_in s words rows (take (h.tables + 1) tables)))
      by_outcome (refused m) e q = absurd q
      by_outcome (accepted p) e q = (q.held, rw (e, ← plan_is words rows tables h.rows h.tables q.index q.held s, q.is) refl)

-- THE SHEET, PUT FROM A BUFFER'S START

module _ (p : Plan) {room n : ℕ} {d d' : List ℕ} (put : Puts (room + 1) (sheet p) d 0 d' n) where
  -- a place past the room: the sheet is longer than the buffer
  pub answers_room : room < n → (o : List ℕ) → Answers (sheet_answer_of room (accepted p)) (Err Room) o o
  unfolding sheet_answer_of
  answers_room h o = by_test (leb (length (sheet p)) room) refl
    where
      by_test : (b : Bool) → leb (length (sheet p)) room ≡ b → Answers (cond b (record { number = 0; length = length (sheet p); count = 0; text = sheet p }) (refuse 11)) (Err Room) o o
      by_test true g =
          let l : length (sheet p) ≤ room = leb-true (length (sheet p)) room g in
          absurd (omega (arith, h, l, (puts_fit put (omega (arith, l))).0))
      by_test false g = record { number = refl; length = refl; bytes = refl }

  module _ (h : n ≤ room) where
    fits : (length (sheet p) ≤ room) × (n ≡ length (sheet p))
    fits = let l : 0 + length (sheet p) < room + 1 = puts_room put (omega (arith, h)) in (omega (arith, l), omega (arith, (puts_fit put l).0))

    sheet_given : {o o' : List ℕ} → o' ≡ sheet p ++ drop (length (sheet p)) o → Answers (sheet_answer_of room (accepted p)) (Ok n) o o'
    unfolding sheet_answer_of
    sheet_given q = rw (le-leb (length (sheet p)) room fits.0) (record { number = refl; length = fits.1; bytes = q })

    -- a buffer that has a place for each of its bytes holds it
    written : {m : ℕ} {o o' : List ℕ} → Puts (room + 1) (sheet p) o 0 o' m → length (sheet p) ≤ length o → o' ≡ sheet p ++ drop (length (sheet p)) o
    written w g =
        let z : 0 + length (sheet p) ≡ length (sheet p) = zero-add (length (sheet p)) in
        rw z at (puts_written w (omega (arith, fits.0)) (omega (arith, g)))

    -- copied from a draft that has all of it
    pub answers_copied : n ≤ length d → {o o' : List ℕ} → o' ≡ take n d' ++ drop n o → Answers (sheet_answer_of room (accepted p)) (Ok n) o o'
    answers_copied g q =
        let c : take (length (sheet p)) d' ≡ sheet p = rw (written put (omega (arith, g, fits.1))) (take-append_seam (sheet p) (drop (length (sheet p)) d)) in
        sheet_given (q ∙ rw (fits.1, c) refl)

    -- put again into the buffer itself
    pub answers_put : {m : ℕ} {o o' : List ℕ} → room ≡ length o → Puts (room + 1) (sheet p) o 0 o' m → Answers (sheet_answer_of room (accepted p)) (Ok n) o o'
    answers_put e w = sheet_given (written w (omega (arith, fits.0, e)))
