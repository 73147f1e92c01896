-- Demand 2 of header, trait and types alone: what is said of a text of `emit_items`. proofs/Demand2Items proves it. Assumes nothing:
-- these are definitions.
use Rattle.std.specs.Prelude.{ℕ, ◌≡◌, List, take}
use Rattle.std.proofs.Math.Option.{Option}
use Rattle.literal.specs.declared.builtin_type.IntType.{IntType}
use Rattle.plan.specs.Plan.{Plan}
use Rattle.plan.specs.Refusal.{accepted, outcome}
use Rattle.codegen.specs.Items.{items}
use Rattle.read_back.specs.Tokens.{string, integer, joined, piece_tokens, ◌∈◌}

-- "Read back one by one by the Rust Reference": there are no literals and no quoted texts to read back
pub record NoLiterals (plan : List ℕ) (l k : ℕ) (after : List ℕ) : Type 0 where
  pub p : Plan
  pub is : outcome plan ≡ accepted p
  pub text_is : take l after ≡ joined (piece_tokens p.env 0 (items p))
  pub no_texts : {s : List ℕ} → string s ∈ piece_tokens p.env 0 (items p) → ⊥
  pub no_integers : {t : Option IntType} {v : ℕ} → integer t v ∈ piece_tokens p.env 0 (items p) → ⊥
  pub count : k ≡ 0
