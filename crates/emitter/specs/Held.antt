-- What is known where a text is written: the plan is accepted, and the buffers hold it with the index of its variants.
-- Assumes nothing: these are definitions.
use Rattle.std.specs.Prelude.{ℕ, ◌≡◌, cond, List, leb, length}
use Rattle.plan.specs.Plan.{Plan}
use Rattle.plan.specs.Refusal.{Outcome, refused, accepted, outcome}
use Rattle.codegen.specs.Piece.{render}
use Rattle.codegen.specs.Items.{items}
use Rattle.codegen.specs.Answer.{Answer, refuse, answer, terms_answer, whole_text}
use Rattle.codegen.specs.Terms.{terms_text, odds}
use Rattle.view.specs.Tables.{plan_in}
use Rattle.emitter.specs.Answered.{items_answer}
use Rattle.emitter.specs.declared.Form.{Form}
use Rattle.emitter.specs.declared.Form.TheVariants.{Whole, Terms, Items}
use Rattle.view.specs.Index.{VariantIndex}
use Rattle.view.specs.declared.buffers.Plan as buffers

-- the text that is asked for, and how many of its literals are odd
abbrev pub form_text : Form → Plan → List ℕ
form_text Whole p = whole_text p
form_text Terms p = terms_text p
form_text Items p = render p.env 0 (items p)

abbrev pub form_count : Form → Plan → ℕ
form_count Whole p = odds p
form_count Terms p = odds p
form_count Items p = 0

-- the answer for a text with its count
unfoldable pub answer_with : List ℕ → ℕ → ℕ → Answer
answer_with t k room = cond (leb (length t) room) (record { number = 0; length = length t; count = k; text = t }) (refuse 11)

-- the answer in a form
unfoldable pub answer_in : Form → ℕ → Outcome → Answer
answer_in f room (refused n) = refuse n
answer_in f room (accepted p) = answer_with (form_text f p) (form_count f p) room

-- the answer of each entry, for a plan's bytes and the room of a buffer
abbrev pub form_answer : Form → List ℕ → ℕ → Answer
form_answer Whole = answer
form_answer Terms = terms_answer
form_answer Items = items_answer

pub record Held (p : Plan) (plan words rows tables index : List ℕ) : Type 0 where
  pub accepts : outcome plan ≡ accepted p
  pub is : plan_in plan words rows tables ≡ p
  pub indexed : VariantIndex words rows tables index

-- the same of a plan's buffers as one value
abbrev pub HeldIn : Plan → buffers.Plan → Type 0
HeldIn p b = Held p b.bytes.now b.words.now b.rows.now b.tables.now b.index.now
