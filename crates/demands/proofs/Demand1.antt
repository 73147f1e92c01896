-- Demand 1, of the entries `emit`, `emit_terms` and `emit_items` (emitter/src/lib.rt). For any plan and any buffer the contract of `emit`
-- says `Answers (answer plan (length before)) r before after` of its result r and the buffer before and after; those of `emit_terms` and
-- `emit_items` say the same with `terms_answer` and `items_answer`. So what is proved here from `Answers` holds of each of their calls.
-- Assumes nothing.
use Rattle.std.specs.Prelude.{zero, ℕ, suc, ◌≤◌, ◌≡◌, Bool, List, Ok, Err}
use Rattle.std.proofs.Math.Path.{refl}
use Rattle.std.proofs.Common.{sym, ◌∙◌, arith, ne_eqb, leb-true}
use Rattle.std.proofs.Math.Bool.{true, false, cond}
use Rattle.std.proofs.Math.Dec.{leb}
use Rattle.std.proofs.Math.ListN.{length}
use Rattle.plan.specs.Plan.{Plan}
use Rattle.plan.specs.Refusal.{Outcome, accepted, outcome}
use Rattle.codegen.specs.Terms.{terms_text, odds}
use Rattle.codegen.specs.Answer.{refuse, answer, terms_answer, whole_text}
use Rattle.codegen.specs.AnswerLaws.{Judged, turned_away, taken, judged_outcome}
use Rattle.splitting.specs.Cases.{false_true}
use Rattle.splitting.specs.Accepted.{accepted_read}
use Rattle.refusal.specs.Number.{number}
use Rattle.emitter.specs.declared.Form.{Form}
use Rattle.emitter.specs.declared.Form.TheVariants.{Whole, Terms, Items}
use Rattle.emitter.specs.Answered.{Emitted, Answers, items_answer}
use Rattle.emitter.specs.Held.{form_text, form_count, form_answer, answer_with, answer_in}
use Rattle.emitter.specs.EntryLaws.{form_le, form_is}
use Rattle.demands.specs.Checks.{checks, first_failing, all_pass, first_to_fail, number_given, first_check}
use Rattle.demands.specs.Demand1.{TextOrRefusal, refusal, text, items_text}

module _ (f : Form) (plan before : List ℕ) where
  abbrev list : List Bool
  list = checks (form_text f) plan (length before)

  abbrev Demanded : Emitted → List ℕ → Type 0
  Demanded r after = TextOrRefusal (form_text f) (form_count f) plan before r after

  refusing : (n : ℕ) → n ≤ 11 → first_failing 0 list ≡ n → 1 ≤ n → (r : Emitted) {after : List ℕ} → Answers (refuse n) r before after → Demanded r after
  refusing zero h e g r {after = after} q = elim g [ ]
  refusing (suc n) h e g (Err m) q = let z : number m ≡ suc n = q.number in rw q.bytes (refusal m (rw z g) (rw z h) (rw z (first_to_fail list n e)))
  refusing (suc n) h e g (Ok t) q = false_true (sym (ne_eqb (suc n) 0 (λ z. absurd (omega arith))) ∙ sym q.written)

  writing : (p : Plan) → outcome plan ≡ accepted p → first_failing 0 list ≡ 0 → length (form_text f p) ≤ length before → (r : Emitted) {after : List ℕ}
      → Answers (record { number = 0; length = length (form_text f p); count = form_count f p; text = form_text f p }) r before after → Demanded r after
  writing p e g h (Err m) q = false_true q.written
  writing p e g h (Ok t) q = rw (q.bytes, q.length, q.count) (text p (accepted_read plan p e) e (all_pass list g) h (form_le f p))

  text_or_refusal : (r : Emitted) {after : List ℕ} → Answers (form_answer f plan (length before)) r before after → Demanded r after
  unfolding answer_in answer_with number_given
  text_or_refusal r {after} q = by_outcome (judged_outcome plan) refl (sym (first_check (form_text f) (length before) plan)) (rw (form_is f plan (length before)) q)
    where
      by_room : (p : Plan) → outcome plan ≡ accepted p → (b : Bool) → leb (length (form_text f p)) (length before) ≡ b → first_failing 0 list ≡ cond b 0 11
          → Answers (cond b (record { number = 0; length = length (form_text f p); count = form_count f p; text = form_text f p }) (refuse 11)) r before after → Demanded r after
      by_room p e true h g q = writing p e g (leb-true (length (form_text f p)) (length before) h) r q
      by_room p e false h g q = refusing 11 (omega arith) g (omega arith) r q

      by_outcome : {o : Outcome} → Judged o → outcome plan ≡ o → first_failing 0 list ≡ number_given (form_text f) (length before) o → Answers (answer_in f (length before) o) r before after → Demanded r after
      by_outcome (turned_away n h g) e w q = refusing n (omega arith) w h r q
      by_outcome (taken p) e w q = by_room p e (leb (length (form_text f p)) (length before)) refl w q

pub demand_1 : (plan before : List ℕ) {r : Emitted} {after : List ℕ} → Answers (answer plan (length before)) r before after → TextOrRefusal whole_text odds plan before r after
demand_1 plan before {r} q = text_or_refusal Whole plan before r q

pub demand_1_terms : (plan before : List ℕ) {r : Emitted} {after : List ℕ} → Answers (terms_answer plan (length before)) r before after → TextOrRefusal terms_text odds plan before r after
demand_1_terms plan before {r} q = text_or_refusal Terms plan before r q

pub demand_1_items : (plan before : List ℕ) {r : Emitted} {after : List ℕ} → Answers (items_answer plan (length before)) r before after → TextOrRefusal items_text (λ p. 0) plan before r after
demand_1_items plan before {r} q = text_or_refusal Items plan before r q
