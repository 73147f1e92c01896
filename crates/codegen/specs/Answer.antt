-- The answer to a plan's bytes and a buffer's length: document 01, "The answer". Assumes nothing: these are definitions.
use Rattle.std.specs.Prelude.{ℕ, cond, List, [], ◌++◌, length, nat_le}
use Rattle.plan.specs.Plan.{Plan}
use Rattle.plan.specs.Refusal.{Outcome, refused, accepted, outcome}
use Rattle.codegen.specs.Piece.{render}
use Rattle.codegen.specs.Items.{items}
use Rattle.codegen.specs.Terms.{terms_text, odds}

-- codegen.rs 176: `generate_rust`; "`generate_header`, trait, types, then terms"
unfoldable pub whole_text : Plan → List ℕ
whole_text p = render p.env 0 (items p) ++ terms_text p

-- number 0 for a text; the text is what the buffer's first bytes are afterwards
pub record Answer : Type 0 where
  pub number : ℕ
  pub length : ℕ
  pub count : ℕ
  pub text : List ℕ

-- "A refusal gives its number, length 0, count 0, and the buffer untouched."
abbrev pub refuse : ℕ → Answer
refuse n = record { number = n; length = 0; count = 0; text = [] }

-- 11: "text longer than the buffer"
unfoldable pub answer_of : (Plan → List ℕ) → ℕ → Outcome → Answer
answer_of text room (refused n) = refuse n
answer_of text room (accepted p) = let t = text p in cond (nat_le (length t) room) (record { number = 0; length = length t; count = odds p; text = t }) (refuse 11)

-- the whole module, and the terms alone
unfoldable pub answer : List ℕ → ℕ → Answer
answer plan room = answer_of whole_text room (outcome plan)

unfoldable pub terms_answer : List ℕ → ℕ → Answer
terms_answer plan room = answer_of terms_text room (outcome plan)
