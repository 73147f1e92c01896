-- The buffer of the program `schedule` holds each sheet, so what it prints is the sheet or the line of a refusal from 1 to 10. Assumes nothing.
use Rattle.std.specs.Prelude.{ℕ, ◌≡◌, refl, List, length, take, drop, Ok, Err}
use Rattle.std.proofs.Common.{arith, le-leb}
use Rattle.std.proofs.Math.Seq.{take-append_seam}
use Rattle.plan.specs.Plan.{Plan}
use Rattle.plan.specs.Refusal.{Outcome, refused, accepted, outcome}
use Rattle.codegen.specs.AnswerLaws.{Judged, turned_away, judged_outcome}
use Rattle.refusal.specs.Number.{number}
use Rattle.refusal.specs.NumberLaws.{some_number}
use Rattle.refusal.specs.declared.Refusal.{Refusal}
use Rattle.schedule_rules.specs.Sheet.{sheet, printed, schedule_text, sheet_answer_of, sheet_answer}
use Rattle.schedule_rules.proofs.Room.{sheet_room}
use Rattle.schedule_check.specs.Answered.{Answers}
use Rattle.programs.specs.Printed.{refused_line}

module _ (s : List ℕ) where
  -- a buffer of this length has room for the sheet
  by_room : (p : Plan) → outcome s ≡ accepted p → sheet_answer_of 288369 (accepted p) ≡ record { number = 0; length = length (sheet p); count = 0; text = sheet p }
  unfolding sheet_answer_of
  by_room p e = rw (le-leb (length (sheet p)) 288369 (sheet_room s p e)) refl

  pub sheet_printed : {room n : ℕ} {before after : List ℕ} → room ≡ 288369 → Answers (sheet_answer s room) (Ok n) before after → take n after ≡ schedule_text s
  unfolding sheet_answer sheet_answer_of schedule_text
  sheet_printed {n = n} {before = before} {after = after} e h = go (outcome s) refl (judged_outcome s) (rw e at h)
    where
      go : (o : Outcome) → outcome s ≡ o → Judged o → Answers (sheet_answer_of 288369 o) (Ok n) before after → take n after ≡ printed o
      go (refused m) e (turned_away _ l _) q = absurd (omega (arith, l, q.number))
      go (accepted p) e j q =
          let a : Answers (record { number = 0; length = length (sheet p); count = 0; text = sheet p }) (Ok n) before after = rw (by_room p e) at q in
          rw (a.bytes, a.length) (take-append_seam (sheet p) (drop (length (sheet p)) before))

  pub refusal_printed : {room : ℕ} {r : Refusal} {before after : List ℕ} → room ≡ 288369 → Answers (sheet_answer s room) (Err r) before after → refused_line (number r) ≡ schedule_text s
  unfolding sheet_answer sheet_answer_of schedule_text refused_line
  refusal_printed {r = r} {before = before} {after = after} e h = go (outcome s) refl (rw e at h)
    where
      go : (o : Outcome) → outcome s ≡ o → Answers (sheet_answer_of 288369 o) (Err r) before after → refused_line (number r) ≡ printed o
      go (refused m) e q = rw q.number refl
      go (accepted p) e q =
          let a : Answers (record { number = 0; length = length (sheet p); count = 0; text = sheet p }) (Err r) before after = rw (by_room p e) at q in
          absurd (some_number r a.number)
