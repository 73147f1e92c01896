-- What a call that wrote a text says of its plan. Assumes nothing.
use Rattle.std.specs.Prelude.{ℕ, ◌≡◌, refl, Bool, true, false, cond, List, leb, length, drop, take}
use Rattle.std.proofs.Common.{arith}
use Rattle.std.proofs.Math.Seq.{take-append_seam}
use Rattle.plan.specs.Plan.{Plan}
use Rattle.plan.specs.Refusal.{Outcome, refused, accepted, outcome}
use Rattle.codegen.specs.Terms.{odds}
use Rattle.codegen.specs.Answer.{refuse, answer_of}
use Rattle.splitting.specs.Accepted.{refused_number}
use Rattle.emitter.specs.Answered.{Answers, gives}

-- a call that wrote a text: what its plan was read as; the text and the count are that plan's
pub record Wrote (form : Plan → List ℕ) (plan : List ℕ) (l k : ℕ) (after : List ℕ) : Type 0 where
  pub p : Plan
  pub is : outcome plan ≡ accepted p
  pub text : take l after ≡ form p
  pub count : k ≡ odds p

pub wrote : (form : Plan → List ℕ) (plan before : List ℕ) {l k : ℕ} {after : List ℕ} → Answers (answer_of form (length before) (outcome plan)) (gives l k) before after → Wrote form plan l k after
unfolding answer_of
wrote form plan before {l} {k} {after} = by_outcome (outcome plan) refl
  where
    by_room : (p : Plan) → outcome plan ≡ accepted p → (b : Bool) → Answers (cond b (record { number = 0; length = length (form p); count = odds p; text = form p }) (refuse 11)) (gives l k) before after → Wrote form plan l k after
    by_room p e true q = record { p = p; is = e; text = rw (q.bytes, q.length) (take-append_seam (form p) (drop (length (form p)) before)); count = q.count }
    by_room p e false q = absurd (omega (arith, q.number))

    by_outcome : (o : Outcome) → outcome plan ≡ o → Answers (answer_of form (length before) o) (gives l k) before after → Wrote form plan l k after
    by_outcome (refused n) e q = absurd (omega (arith, refused_number plan n e, q.number))
    by_outcome (accepted p) e q = by_room p e (leb (length (form p)) (length before)) q
