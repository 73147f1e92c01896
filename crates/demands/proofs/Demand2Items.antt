-- Demand 2, of the entry `emit_items`: header, trait and types alone. Assumes nothing.
use Rattle.std.specs.Prelude.{ℕ, ◌≤◌, ◌≡◌, refl, List, length, drop, Ok, Err}
use Rattle.std.proofs.Common.{sym, ◌∙◌, le-leb}
use Rattle.std.proofs.Math.Seq.{take-append_seam}
use Rattle.plan.specs.Plan.{Plan}
use Rattle.plan.specs.Refusal.{accepted, outcome}
use Rattle.codegen.specs.Items.{items}
use Rattle.codegen.specs.Answer.{answer_of}
use Rattle.splitting.specs.Cases.{false_true}
use Rattle.read_back.proofs.TokenLaws.{joined_pieces}
use Rattle.read_back.proofs.Theorems.{whole_text_origins}
use Rattle.emitter.specs.Answered.{Emitted, Answers, items_answer, gives}
use Rattle.demands.specs.Demand1.{TextOrRefusal, text, items_text}
use Rattle.demands.specs.Demand2.{Writes}
use Rattle.demands.specs.Demand2Items.{NoLiterals}
use Rattle.demands.proofs.Demand1.{demand_1_items}

-- "For every plan that passes refusals 1 to 10, with a buffer long enough: the bytes are those that the crate's release build writes";
-- no literals stand there, so the count is 0
pub demand_2_items : (plan before : List ℕ) (p : Plan) {r : Emitted} {after : List ℕ} → outcome plan ≡ accepted p → length (items_text p) ≤ length before → Answers (items_answer plan (length before)) r before after → Writes (items_text p) 0 before r after
unfolding items_answer answer_of
demand_2_items plan before p {r} {after} e h q = by_result r (rw (le-leb (length (items_text p)) (length before) h) at (rw e at q))
  where
    by_result : (r : Emitted) → Answers (record { number = 0; length = length (items_text p); count = 0; text = items_text p }) r before after → Writes (items_text p) 0 before r after
    by_result (Err n) q = false_true q.written
    by_result (Ok t) q = record { result = rw (q.length, q.count) refl; bytes = q.bytes }

pub demand_2_read_back_items : (plan before : List ℕ) {l k : ℕ} {after : List ℕ} → Answers (items_answer plan (length before)) (gives l k) before after → NoLiterals plan l k after
demand_2_read_back_items plan before q = go (demand_1_items plan before q)
  where
    go : {l k : ℕ} {after : List ℕ} → TextOrRefusal items_text (λ p. 0) plan before (gives l k) after → NoLiterals plan l k after
    go (text p r e c h g) = record {
      p = p;
      is = e;
      text_is = take-append_seam (items_text p) (drop (length (items_text p)) before) ∙ sym (joined_pieces p.env 0 (items p));
      no_texts = λ m. (whole_text_origins p).no_strings m;
      no_integers = λ m. (whole_text_origins p).no_integers m;
      count = refl;
    }
