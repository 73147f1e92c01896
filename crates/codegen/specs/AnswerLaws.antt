-- What holds of every answer: a refusal gives nothing, a text gives its length, and the count is at most the length.
use Rattle.std.specs.Prelude.{◌≡◌, ℕ, ◌≤◌, Bool, true, false, cond, List, [], length, nat_le}
use Rattle.std.specs.Prelude.{refl}
use Rattle.std.proofs.Math.Option.{Option, some, none}
use Rattle.std.proofs.Common.{arith, leb-true}
use Rattle.plan.specs.Plan.{Plan}
use Rattle.plan.specs.Refusal.{Outcome, refused, accepted, outcome, laid_out, judged, fits_length, bytes_allowed, within_most, all_exist, lengths_fit, sources_lower, returns_fit, matches_have_arms, loops_iterate}
use Rattle.plan.specs.Layout.{read}
use Rattle.codegen.specs.Answer.{Answer, refuse, answer_of, answer, terms_answer, whole_text}
use Rattle.codegen.specs.Terms.{terms_text, odds}
use Rattle.codegen.specs.OddLaws.{odds_le, odds_le_whole}

-- an accepted plan has one `Plan`
pub accepted_one : (s : List ℕ) (p q : Plan) → outcome s ≡ accepted p → outcome s ≡ accepted q → p ≡ q
accepted_one s p q h g = cc

-- a refused plan has a number from 1 to 10
pub data Judged : Outcome → Type 0 where
  turned_away : (n : ℕ) → 1 ≤ n → n ≤ 10 → Judged (refused n)
  taken : (p : Plan) → Judged (accepted p)

either : (b : Bool) (x y : Outcome) → Judged x → Judged y → Judged (cond b x y)
either true x y h g = h
either false x y h g = g

number : (n : ℕ) → 1 ≤ n → n ≤ 10 → Judged (refused n)
number n h g = turned_away n h g

judged_plan : (p : Plan) → Judged (judged p)
unfolding judged
judged_plan p =
    either (within_most p) _ _
    (either (all_exist p) _ _
    (either (lengths_fit p) _ _
    (either (sources_lower p) _ _
    (either (returns_fit p) _ _
    (either (matches_have_arms p) _ _
    (either (loops_iterate p) _ _ (taken p) (number 10 (omega arith) (omega arith)))
    (number 9 (omega arith) (omega arith)))
    (number 8 (omega arith) (omega arith)))
    (number 7 (omega arith) (omega arith)))
    (number 6 (omega arith) (omega arith)))
    (number 5 (omega arith) (omega arith)))
    (number 4 (omega arith) (omega arith))

judged_layout : (o : Option Plan) → Judged (laid_out o)
judged_layout none = number 3 (omega arith) (omega arith)
judged_layout (some p) = judged_plan p

pub judged_outcome : (s : List ℕ) → Judged (outcome s)
unfolding outcome
judged_outcome s =
    either (fits_length s) _ _
    (either (bytes_allowed s) _ _ (judged_layout (read s)) (number 2 (omega arith) (omega arith)))
    (number 1 (omega arith) (omega arith))

-- What an answer is: a refusal with a number from 1 to 11, length 0, count 0 and no text; or number 0 with a text that fits, its
-- length, and a count that is no larger.
pub data Given (room : ℕ) : Answer → Type 0 where
  refusing : (n : ℕ) → 1 ≤ n → n ≤ 11 → Given room (refuse n)
  writing : (t : List ℕ) (count : ℕ) → length t ≤ room → count ≤ length t → Given room (record { number = 0; length = length t; count = count; text = t })

given_of : (text : Plan → List ℕ) → ((p : Plan) → odds p ≤ length (text p)) → (room : ℕ) {o : Outcome} → Judged o → Given room (answer_of text room o)
unfolding answer_of
given_of text le room (turned_away n h g) = refusing n h (omega arith)
given_of text le room (taken p) = go (nat_le (length (text p)) room) refl
  where
    go : (b : Bool) → nat_le (length (text p)) room ≡ b → Given room (cond b (record { number = 0; length = length (text p); count = odds p; text = text p }) (refuse 11))
    go true h = writing (text p) (odds p) (leb-true (length (text p)) room h) (le p)
    go false h = refusing 11 (omega arith) (omega arith)

pub answer_given : (plan : List ℕ) (room : ℕ) → Given room (answer plan room)
unfolding answer
answer_given plan room = given_of whole_text odds_le_whole room (judged_outcome plan)

pub terms_answer_given : (plan : List ℕ) (room : ℕ) → Given room (terms_answer plan room)
unfolding terms_answer
terms_answer_given plan room = given_of terms_text odds_le room (judged_outcome plan)

-- the sentences of demand 1, one by one
pub refusal_gives_nothing : (plan : List ℕ) (room : ℕ) → 1 ≤ (answer plan room).number → ((answer plan room).length ≡ 0) × ((answer plan room).count ≡ 0) × ((answer plan room).text ≡ [])
refusal_gives_nothing plan room h = go (answer_given plan room) h
  where
    go : {a : Answer} → Given room a → 1 ≤ a.number → (a.length ≡ 0) × (a.count ≡ 0) × (a.text ≡ [])
    go (refusing n g k) h = (refl, refl, refl)
    go (writing t c g k) h = absurd (omega arith)
