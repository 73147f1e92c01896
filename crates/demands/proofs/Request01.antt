-- Req 01, of the entry `schedule` (schedule_check/src/lib.rt), whose contract says `Answers (sheet_answer plan (length before)) r before after` for
-- any plan and any buffer; and of the C function `rizhavel_schedule` (c_api/src/entries.rt), whose contract says the like by `Exports`. Assumes
-- nothing.
use Rattle.std.specs.Prelude.{zero, ℕ, suc, ◌≤◌, ◌<◌, ◌≡◌, Bool, List, [], ◌∷◌, Ok, Err}
use Rattle.std.proofs.Math.Path.{refl}
use Rattle.std.proofs.Common.{sym, ◌∙◌, arith, leb-true}
use Rattle.std.proofs.Math.Bool.{true, false, cond}
use Rattle.std.proofs.Math.Dec.{leb}
use Rattle.std.proofs.Math.ListN.{length}
use Rattle.std.proofs.Math.Seq.{length-sets}
use Rattle.plan.specs.Plan.{Plan}
use Rattle.plan.specs.Refusal.{Outcome, refused, accepted, outcome}
use Rattle.codegen.specs.Terms.{odds}
use Rattle.codegen.specs.Answer.{Answer, refuse, answer_of}
use Rattle.codegen.specs.AnswerLaws.{Judged, turned_away, taken, judged_outcome}
use Rattle.splitting.specs.Accepted.{accepted_read}
use Rattle.refusal.specs.Number.{number}
use Rattle.refusal.specs.declared.Refusal.{Refusal}
use Rattle.refusal.specs.NumberLaws.{some_number}
use Rattle.schedule_rules.specs.Sheet.{sheet, sheet_answer_of, sheet_answer}
use Rattle.schedule_check.specs.Answered.{Checked, Answers, Exports}
use Rattle.emitter.specs.Answered.{uncounted}
use Rattle.demands.specs.Checks.{checks, first_failing, all_pass, first_to_fail, number_given, first_check}
use Rattle.demands.specs.Request01.{SheetOrRefusal, refusal, faults, SheetTold}
use Rattle.demands.proofs.Exported.{numbered, most_of, nothing_given}
use Rattle.demands.proofs.SetLaws.{sets_at, sets_after}

module _ (plan before : List ℕ) where
  abbrev list : List Bool
  list = checks sheet plan (length before)

  refusing : (n : ℕ) → n ≤ 11 → first_failing 0 list ≡ n → 1 ≤ n → (r : Checked) {after : List ℕ} → Answers (refuse n) r before after → SheetOrRefusal plan before r after
  refusing zero h e g r {after = after} q = elim g [ ]
  refusing (suc n) h e g (Err m) q = let z : number m ≡ suc n = q.number in rw q.bytes (refusal m (rw z g) (rw z h) (rw z (first_to_fail list n e)))
  refusing (suc n) h e g (Ok t) q = absurd (omega (arith, q.number))

  writing : (p : Plan) → outcome plan ≡ accepted p → first_failing 0 list ≡ 0 → length (sheet p) ≤ length before → (r : Checked) {after : List ℕ}
      → Answers (record { number = 0; length = length (sheet p); count = 0; text = sheet p }) r before after → SheetOrRefusal plan before r after
  writing p e g h (Err m) q = absurd (some_number m q.number)
  writing p e g h (Ok t) q = rw (q.bytes, q.length) (faults p (accepted_read plan p e) e (all_pass list g) h)

  pub request_01 : {r : Checked} {after : List ℕ} → Answers (sheet_answer plan (length before)) r before after → SheetOrRefusal plan before r after
  unfolding sheet_answer sheet_answer_of number_given
  request_01 {r} {after} q = by_outcome (judged_outcome plan) refl (sym (first_check sheet (length before) plan)) q
    where
      by_room : (p : Plan) → outcome plan ≡ accepted p → (b : Bool) → leb (length (sheet p)) (length before) ≡ b → first_failing 0 list ≡ cond b 0 11
          → Answers (cond b (record { number = 0; length = length (sheet p); count = 0; text = sheet p }) (refuse 11)) r before after → SheetOrRefusal plan before r after
      by_room p e true h g q = writing p e g (leb-true (length (sheet p)) (length before) h) r q
      by_room p e false h g q = refusing 11 (omega arith) g (omega arith) r q

      by_outcome : {o : Outcome} → Judged o → outcome plan ≡ o → first_failing 0 list ≡ number_given sheet (length before) o → Answers (sheet_answer_of (length before) o) r before after → SheetOrRefusal plan before r after
      by_outcome (turned_away n h g) e w q = refusing n (omega arith) w h r q
      by_outcome (taken p) e w q = by_room p e (leb (length (sheet p)) (length before)) refl w q

-- THE C FUNCTION

-- it answers as the entries do, of a sheet, in which there is nothing to count
sheet_is : (room : ℕ) (o : Outcome) → sheet_answer_of room o ≡ uncounted (answer_of sheet room o)
unfolding sheet_answer_of answer_of
sheet_is room (refused n) = refl
sheet_is room (accepted p) = by_room (leb (length (sheet p)) room)
  where
    by_room : (b : Bool) → cond b (record { number = 0; length = length (sheet p); count = 0; text = sheet p }) (refuse 11) ≡ uncounted (cond b (record { number = 0; length = length (sheet p); count = odds p; text = sheet p }) (refuse 11))
    by_room true = refl
    by_room false = refl

module _ (plan before : List ℕ) {n : ℕ} {after told told' : List ℕ} (e : Exports (sheet_answer plan (length before)) n before after told told') where
  abbrev given : Answer
  given = sheet_answer plan (length before)

  tells : (r : Checked) → Answers given r before after → SheetTold plan before after n told told'
  tells r q = record {
    result = r;
    holds = request_01 plan before q;
    number = e.numbered ∙ sym q.number;
    entry_0 = λ g. rw e.values (sets_at told (given.length ∷ []) 0 0 g (let b : 0 < 1 = omega arith in b) ∙ sym q.length);
    others = λ i g. rw e.values (sets_after told (given.length ∷ []) 0 i g);
    entries = rw e.values (length-sets told 0 (given.length ∷ []));
  }

  by_number : (m : ℕ) → m ≡ given.number → given.number ≤ 11 → (1 ≤ given.number → given.length ≡ 0) → SheetTold plan before after n told told'
  by_number zero z most nothing = tells (Ok given.length) (record { number = z; length = refl; bytes = e.bytes })
  by_number (suc m) z most nothing =
      let r : (r : Refusal) × (number r ≡ suc m) = numbered m (omega arith) in
      tells (Err r.0) (record { number = r.1 ∙ z; length = sym (nothing (omega arith)); bytes = e.bytes })

  pub exported_request_01 : SheetTold plan before after n told told'
  unfolding sheet_answer
  exported_request_01 =
      let is : given ≡ uncounted (answer_of sheet (length before) (outcome plan)) = sheet_is (length before) (outcome plan) in
      by_number n e.numbered (rw is (most_of sheet (length before) plan)) (rw is (λ g. (nothing_given sheet (length before) (outcome plan) g).0))
