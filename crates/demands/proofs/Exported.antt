-- The three demands, of the C functions `rizhavel_whole`, `rizhavel_terms` and `rizhavel_items` (c_api/src/entries.rt). Their contracts
-- say `Exports (answer plan (length before)) n before after told told'`, or the same with `terms_answer` or `items_answer`, of the number n
-- that is returned, the buffer before and after, and the lent slice of numbers before and after, however short. Assumes nothing.
use Rattle.std.specs.Prelude.{ℕ, zero, suc, ◌≤◌, ◌≡◌, refl, Bool, true, false, cond, List, [], ◌∷◌, ◌<◌, leb, length, take, Ok, Err}
use Rattle.std.proofs.Common.{sym, ◌∙◌, arith, ne_eqb}
use Rattle.std.proofs.Math.Option.{some}
use Rattle.std.proofs.Math.Seq.{length-sets}
use Rattle.plan.specs.Plan.{Plan}
use Rattle.plan.specs.Refusal.{Outcome, refused, accepted, outcome}
use Rattle.codegen.specs.Items.{items}
use Rattle.codegen.specs.Terms.{terms_text, odds}
use Rattle.codegen.specs.Answer.{Answer, refuse, answer_of, answer, terms_answer, whole_text}
use Rattle.codegen.specs.AnswerLaws.{Judged, turned_away, taken, judged_outcome}
use Rattle.codegen.specs.TakeOff.{closures_off, closures_off_terms}
use Rattle.splitting.specs.Demand3.{SplitPair, SplitBytes}
use Rattle.read_back.specs.Tokens.{piece_tokens, whole_tokens, terms_tokens}
use Rattle.refusal.specs.Number.{number}
use Rattle.refusal.specs.declared.Refusal.{Refusal}
use Rattle.refusal.specs.declared.Refusal.TheVariants.{TooLong, Byte, Layout, Most, Exists, Lengths, Lower, Returns, Armless, Loop, Room}
use Rattle.demands.specs.Exported.{Told, Where}
use Rattle.demands.proofs.SetLaws.{sets_at, sets_after}
use Rattle.emitter.specs.Answered.{Emitted, Answers, Exports, items_answer, gives}
use Rattle.demands.specs.Demand1.{TextOrRefusal, items_text}
use Rattle.demands.proofs.Demand1.{demand_1, demand_1_terms, demand_1_items}
use Rattle.demands.specs.Demand2.{Writes, ReadBack, FromRows, demand_2, demand_2_terms, demand_2_read_back, demand_2_read_back_terms, demand_2_origins, demand_2_origins_terms}
use Rattle.demands.specs.Demand2Items.{NoLiterals}
use Rattle.demands.proofs.Demand2Items.{demand_2_items, demand_2_read_back_items}
use Rattle.demands.specs.Demand2Boundaries.{Boundaries, demand_2_boundaries, demand_2_boundaries_terms}
use Rattle.demands.specs.Demand3.{Closures, demand_3, demand_3_terms, demand_3_bytes, demand_3_bytes_terms, demand_3_closures, demand_3_closures_terms}

-- WHATEVER HOLDS OF THE ENTRY'S CALLS HOLDS OF THE C FUNCTION'S

-- each number from 1 to 11 is a refusal's
pub numbered : (n : ℕ) → n < 11 → (r : Refusal) × (number r ≡ suc n)
numbered zero h = (TooLong, refl)
numbered (suc zero) h = (Byte, refl)
numbered (suc (suc zero)) h = (Layout, refl)
numbered (suc (suc (suc zero))) h = (Most, refl)
numbered (suc (suc (suc (suc zero)))) h = (Exists, refl)
numbered (suc (suc (suc (suc (suc zero))))) h = (Lengths, refl)
numbered (suc (suc (suc (suc (suc (suc zero)))))) h = (Lower, refl)
numbered (suc (suc (suc (suc (suc (suc (suc zero))))))) h = (Returns, refl)
numbered (suc (suc (suc (suc (suc (suc (suc (suc zero)))))))) h = (Armless, refl)
numbered (suc (suc (suc (suc (suc (suc (suc (suc (suc zero))))))))) h = (Loop, refl)
numbered (suc (suc (suc (suc (suc (suc (suc (suc (suc (suc zero)))))))))) h = (Room, refl)
numbered (suc (suc (suc (suc (suc (suc (suc (suc (suc (suc (suc n))))))))))) h = absurd (omega arith)

module _ (a : Answer) (nothing : 1 ≤ a.number → (a.length ≡ 0) × (a.count ≡ 0)) (most : a.number ≤ 11) {n : ℕ} {before after told told' : List ℕ} (P : Emitted → Type 0) (h : (r : Emitted) → Answers a r before after → P r) where
  tells : (r : Emitted) → Answers a r before after → Exports a n before after told told' → Told P n told told'
  tells r q e = record {
    result = r;
    holds = h r q;
    number = e.numbered ∙ sym q.number;
    text = q.written ∙ rw e.numbered refl;
    entry_0 = λ g. rw e.values (sets_at told (a.length ∷ a.count ∷ []) 0 0 g (let b : 0 < 2 = omega arith in b) ∙ sym q.length);
    entry_1 = λ g. rw e.values (sets_at told (a.length ∷ a.count ∷ []) 0 1 g (let b : 1 < 2 = omega arith in b) ∙ sym q.count);
    others = λ i g. rw e.values (sets_after told (a.length ∷ a.count ∷ []) 0 i g);
    entries = rw e.values (length-sets told 0 (a.length ∷ a.count ∷ []));
  }

  told_of : Exports a n before after told told' → Told P n told told'
  told_of e = by_number n e.numbered
    where
      by_number : (m : ℕ) → m ≡ a.number → Told P n told told'
      by_number zero z = tells (gives a.length a.count) (record { number = z; length = refl; count = refl; written = rw (← z) refl; bytes = e.bytes }) e
      by_number (suc m) z =
          let g : (a.length ≡ 0) × (a.count ≡ 0) = nothing (omega arith) in
          let r : (r : Refusal) × (number r ≡ suc m) = numbered m (omega arith) in
          tells (Err r.0) (record { number = r.1 ∙ z; length = sym g.0; count = sym g.1; written = rw (ne_eqb a.number 0 (λ y. absurd (omega arith))) refl; bytes = e.bytes }) e

-- no number is larger
pub most_of : (form : Plan → List ℕ) (room : ℕ) (plan : List ℕ) → (answer_of form room (outcome plan)).number ≤ 11
unfolding answer_of
most_of form room plan = by_outcome (judged_outcome plan)
  where
    by_room : (b : Bool) (a : Answer) → a.number ≡ 0 → (cond b a (refuse 11)).number ≤ 11
    by_room true a z = omega arith
    by_room false a z = omega arith

    by_outcome : {o : Outcome} → Judged o → (answer_of form room o).number ≤ 11
    by_outcome (turned_away n h g) = omega arith
    by_outcome (taken p) = by_room (leb (length (form p)) room) _ refl

-- a refusal has length 0 and count 0
pub nothing_given : (form : Plan → List ℕ) (room : ℕ) (o : Outcome) → 1 ≤ (answer_of form room o).number → ((answer_of form room o).length ≡ 0) × ((answer_of form room o).count ≡ 0)
unfolding answer_of
nothing_given form room (refused n) h = (refl, refl)
nothing_given form room (accepted p) h = by_room (leb (length (form p)) room) _ refl h
  where
    by_room : (b : Bool) (a : Answer) → a.number ≡ 0 → 1 ≤ (cond b a (refuse 11)).number → ((cond b a (refuse 11)).length ≡ 0) × ((cond b a (refuse 11)).count ≡ 0)
    by_room true a z h = absurd (omega arith)
    by_room false a z h = (refl, refl)

module _ (plan before : List ℕ) {n : ℕ} {after told told' : List ℕ} (P : Emitted → Type 0) where
  pub rizhavel_whole : ((r : Emitted) → Answers (answer plan (length before)) r before after → P r) → Exports (answer plan (length before)) n before after told told' → Told P n told told'
  unfolding answer
  rizhavel_whole h e = told_of _ (nothing_given whole_text (length before) (outcome plan)) (most_of whole_text (length before) plan) P h e

  pub rizhavel_terms : ((r : Emitted) → Answers (terms_answer plan (length before)) r before after → P r) → Exports (terms_answer plan (length before)) n before after told told' → Told P n told told'
  unfolding terms_answer
  rizhavel_terms h e = told_of _ (nothing_given terms_text (length before) (outcome plan)) (most_of terms_text (length before) plan) P h e

  pub rizhavel_items : ((r : Emitted) → Answers (items_answer plan (length before)) r before after → P r) → Exports (items_answer plan (length before)) n before after told told' → Told P n told told'
  unfolding items_answer
  rizhavel_items h e = told_of _ (λ g. ((nothing_given items_text (length before) (outcome plan) g).0, refl)) (most_of items_text (length before) plan) P h e

where_text : {a : Answer} {before after : List ℕ} (P : ℕ → ℕ → Type 0) → ((l k : ℕ) → Answers a (gives l k) before after → P l k) → (r : Emitted) → Answers a r before after → Where P r
where_text P h (Err r) q = tt
where_text P h (Ok t) q = h t.length t.count q

-- `rizhavel_whole`

module _ (plan before : List ℕ) {n : ℕ} {after told told' : List ℕ} (e : Exports (answer plan (length before)) n before after told told') where
  pub whole_demand_1 : Told (λ r. TextOrRefusal whole_text odds plan before r after) n told told'
  whole_demand_1 = rizhavel_whole plan before _ (λ r q. demand_1 plan before q) e

  pub whole_demand_2 : (p : Plan) → outcome plan ≡ accepted p → length (whole_text p) ≤ length before → Told (λ r. Writes (whole_text p) (odds p) before r after) n told told'
  whole_demand_2 p i h = rizhavel_whole plan before _ (λ r q. demand_2 plan before p i h q) e

  pub whole_demand_2_read_back : Told (Where (λ l k. ReadBack plan whole_tokens l k after)) n told told'
  whole_demand_2_read_back = rizhavel_whole plan before _ (where_text _ (λ l k q. demand_2_read_back plan before q)) e

  pub whole_demand_2_origins : Told (Where (λ l k. FromRows plan (λ p. piece_tokens p.env 0 (items p)) whole_tokens l after)) n told told'
  whole_demand_2_origins = rizhavel_whole plan before _ (where_text _ (λ l k q. demand_2_origins plan before q)) e

  pub whole_demand_2_boundaries : Told (Where (λ l k. Boundaries plan whole_tokens l after)) n told told'
  whole_demand_2_boundaries = rizhavel_whole plan before _ (where_text _ (λ l k q. demand_2_boundaries plan before q)) e

  pub whole_demand_3_closures : Told (Where (λ l k. Closures plan items_text (take l after))) n told told'
  whole_demand_3_closures = rizhavel_whole plan before _ (where_text _ (λ l k q. demand_3_closures plan before q)) e

  pub whole_demand_3 : (b : List ℕ) (p q : Plan) → SplitPair plan b p q → {m : ℕ} (before' : List ℕ) {after' other other' : List ℕ} → Exports (answer b (length before')) m before' after' other other'
      → Told (Where (λ l k. Told (Where (λ l' k'. (closures_off plan (take l after) ≡ some (take l' after')) × (k ≡ k'))) m other other')) n told told'
  whole_demand_3 b p q s before' f = rizhavel_whole plan before _ (where_text _ (λ l k x. rizhavel_whole b before' _ (where_text _ (λ l' k' y. demand_3 plan b p q s x y)) f)) e

  pub whole_demand_3_bytes : (b : List ℕ) → SplitBytes plan b → {m : ℕ} (before' : List ℕ) {after' other other' : List ℕ} → Exports (answer b (length before')) m before' after' other other'
      → Told (Where (λ l k. Told (Where (λ l' k'. (closures_off plan (take l after) ≡ some (take l' after')) × (k ≡ k'))) m other other')) n told told'
  whole_demand_3_bytes b s before' f = rizhavel_whole plan before _ (where_text _ (λ l k x. rizhavel_whole b before' _ (where_text _ (λ l' k' y. demand_3_bytes plan b s x y)) f)) e

-- `rizhavel_terms`

module _ (plan before : List ℕ) {n : ℕ} {after told told' : List ℕ} (e : Exports (terms_answer plan (length before)) n before after told told') where
  pub terms_demand_1 : Told (λ r. TextOrRefusal terms_text odds plan before r after) n told told'
  terms_demand_1 = rizhavel_terms plan before _ (λ r q. demand_1_terms plan before q) e

  pub terms_demand_2 : (p : Plan) → outcome plan ≡ accepted p → length (terms_text p) ≤ length before → Told (λ r. Writes (terms_text p) (odds p) before r after) n told told'
  terms_demand_2 p i h = rizhavel_terms plan before _ (λ r q. demand_2_terms plan before p i h q) e

  pub terms_demand_2_read_back : Told (Where (λ l k. ReadBack plan terms_tokens l k after)) n told told'
  terms_demand_2_read_back = rizhavel_terms plan before _ (where_text _ (λ l k q. demand_2_read_back_terms plan before q)) e

  pub terms_demand_2_origins : Told (Where (λ l k. FromRows plan (λ p. []) terms_tokens l after)) n told told'
  terms_demand_2_origins = rizhavel_terms plan before _ (where_text _ (λ l k q. demand_2_origins_terms plan before q)) e

  pub terms_demand_2_boundaries : Told (Where (λ l k. Boundaries plan terms_tokens l after)) n told told'
  terms_demand_2_boundaries = rizhavel_terms plan before _ (where_text _ (λ l k q. demand_2_boundaries_terms plan before q)) e

  pub terms_demand_3_closures : Told (Where (λ l k. Closures plan (λ p. []) (take l after))) n told told'
  terms_demand_3_closures = rizhavel_terms plan before _ (where_text _ (λ l k q. demand_3_closures_terms plan before q)) e

  pub terms_demand_3 : (b : List ℕ) (p q : Plan) → SplitPair plan b p q → {m : ℕ} (before' : List ℕ) {after' other other' : List ℕ} → Exports (terms_answer b (length before')) m before' after' other other'
      → Told (Where (λ l k. Told (Where (λ l' k'. (closures_off_terms plan (take l after) ≡ some (take l' after')) × (k ≡ k'))) m other other')) n told told'
  terms_demand_3 b p q s before' f = rizhavel_terms plan before _ (where_text _ (λ l k x. rizhavel_terms b before' _ (where_text _ (λ l' k' y. demand_3_terms plan b p q s x y)) f)) e

  pub terms_demand_3_bytes : (b : List ℕ) → SplitBytes plan b → {m : ℕ} (before' : List ℕ) {after' other other' : List ℕ} → Exports (terms_answer b (length before')) m before' after' other other'
      → Told (Where (λ l k. Told (Where (λ l' k'. (closures_off_terms plan (take l after) ≡ some (take l' after')) × (k ≡ k'))) m other other')) n told told'
  terms_demand_3_bytes b s before' f = rizhavel_terms plan before _ (where_text _ (λ l k x. rizhavel_terms b before' _ (where_text _ (λ l' k' y. demand_3_bytes_terms plan b s x y)) f)) e

-- `rizhavel_items`

module _ (plan before : List ℕ) {n : ℕ} {after told told' : List ℕ} (e : Exports (items_answer plan (length before)) n before after told told') where
  pub items_demand_1 : Told (λ r. TextOrRefusal items_text (λ p. 0) plan before r after) n told told'
  items_demand_1 = rizhavel_items plan before _ (λ r q. demand_1_items plan before q) e

  pub items_demand_2 : (p : Plan) → outcome plan ≡ accepted p → length (items_text p) ≤ length before → Told (λ r. Writes (items_text p) 0 before r after) n told told'
  items_demand_2 p i h = rizhavel_items plan before _ (λ r q. demand_2_items plan before p i h q) e

  pub items_demand_2_read_back : Told (Where (λ l k. NoLiterals plan l k after)) n told told'
  items_demand_2_read_back = rizhavel_items plan before _ (where_text _ (λ l k q. demand_2_read_back_items plan before q)) e
