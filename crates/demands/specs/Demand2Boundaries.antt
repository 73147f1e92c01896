-- Demand 2, of the entries `emit` and `emit_terms`: "Read back one by one by the Rust Reference". Reading one of them at its place in the
-- text is reading it alone: no literal and no quoted text runs on into the bytes beside it. Assumes nothing.
use Rattle.std.specs.Prelude.{ℕ, ◌≡◌, List, length, take}
use Rattle.plan.specs.Plan.{Plan}
use Rattle.plan.specs.Refusal.{accepted, outcome}
use Rattle.codegen.specs.Answer.{answer, terms_answer}
use Rattle.read_back.specs.Tokens.{Token, joined, whole_tokens, terms_tokens}
use Rattle.token_boundaries.specs.Boundary.{TokensStand}
use Rattle.token_boundaries.proofs.Theorems.{whole_tokens_stand, terms_tokens_stand}
use Rattle.emitter.specs.Answered.{Answers, gives}
use Rattle.demands.specs.Demand2.{ReadBack, demand_2_read_back, demand_2_read_back_terms}

pub record Boundaries (plan : List ℕ) (tokens : Plan → List Token) (l : ℕ) (after : List ℕ) : Type 0 where
  pub p : Plan
  pub is : outcome plan ≡ accepted p
  -- the text is the tokens of its plan, one after the other
  pub text_is : take l after ≡ joined (tokens p)
  pub stand : TokensStand (tokens p)

pub demand_2_boundaries : (plan before : List ℕ) {l k : ℕ} {after : List ℕ} → Answers (answer plan (length before)) (gives l k) before after → Boundaries plan whole_tokens l after
demand_2_boundaries plan before {l} {k} {after} q =
    let r : ReadBack plan whole_tokens l k after = demand_2_read_back plan before q in
    record { p = r.p; is = r.is; text_is = r.text_is; stand = whole_tokens_stand plan r.p r.is }

pub demand_2_boundaries_terms : (plan before : List ℕ) {l k : ℕ} {after : List ℕ} → Answers (terms_answer plan (length before)) (gives l k) before after → Boundaries plan terms_tokens l after
demand_2_boundaries_terms plan before {l} {k} {after} q =
    let r : ReadBack plan terms_tokens l k after = demand_2_read_back_terms plan before q in
    record { p = r.p; is = r.is; text_is = r.text_is; stand = terms_tokens_stand plan r.p r.is }
