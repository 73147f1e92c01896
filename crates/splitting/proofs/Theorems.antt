-- The proofs of the statements of Demand3.antt.
use Rattle.std.specs.Prelude.{ℕ, ◌≡◌, refl, Bool, true, false, cond, List, [], ◌∷◌, ◌++◌, leb, length, get_or}
use Rattle.std.proofs.Common.{sym, ap, ◌∙◌, append_assoc, arith}
use Rattle.std.proofs.Math.Option.{Option, some, none}
use Rattle.plan.specs.Plan.{Options, Environment, Generated, Plan}
use Rattle.plan.specs.Refusal.{Outcome, refused, accepted, outcome}
use Rattle.codegen.specs.Block.{numbered}
use Rattle.codegen.specs.Terms.{term_parts, all_parts, terms_text, odds}
use Rattle.codegen.specs.Answer.{Answer, refuse, whole_text, answer_of, answer, terms_answer}
use Rattle.codegen.specs.TakeOff.{take_off_by, closures_off, closures_off_terms}
use Rattle.splitting.specs.Demand3.{DifferOnlyInSplitting, CountsEqual, SplitTextBecomesOther, SplitTermsTextBecomesOther, AnswersAgree, TermsAnswersAgree, AnswersToBytesAgree, TermsAnswersToBytesAgree, split_arms, four_lines, BlockTable, ClosuresAreThoseOfSplitArms, ClosuresHaveRows, NumberedInOpeningOrder, ClosureEnclosesBody, TextByBlockTables, numbers}
use Rattle.splitting.specs.Cases.{and_left, and_right}
use Rattle.splitting.specs.Lines.{text_append}
use Rattle.splitting.specs.Owners.{arms_placed}
use Rattle.splitting.specs.TermsLaw.{Alike, all_arms_placed, same_odds, terms_off}
use Rattle.splitting.specs.WholeLaw.{whole_off}
use Rattle.splitting.specs.Accepted.{accepted_fit, refused_number}
use Rattle.splitting.proofs.PlanBytes.{bytes_pair}
use Rattle.splitting.specs.Closures.{all_four, closures_of}
use Rattle.splitting.proofs.SplitArms.{block_numbers, closure_number, numbers_count}
use Rattle.splitting.proofs.Enclosed.{term_encloses}
use Rattle.splitting.proofs.Openings.{opened_term, rowed_term}

-- THE TWO TEXTS

alike_plans : {p q : Plan} → DifferOnlyInSplitting p q → Alike p q
alike_plans d = record { env = d.env; generated = d.generated; log = d.log }

pub counts_equal : CountsEqual
counts_equal a b p q s = same_odds p q (alike_plans s.alike) s.off

pub split_text_becomes_other : SplitTextBecomesOther
unfolding closures_off take_off_by
split_text_becomes_other a b p q s =
    rw s.split_plan (whole_off p q (alike_plans s.alike) s.alike.nopragmas s.off (accepted_fit a p s.split_plan).clean (accepted_fit a p s.split_plan).placed)

pub split_terms_text_becomes_other : SplitTermsTextBecomesOther
unfolding closures_off_terms take_off_by
split_terms_text_becomes_other a b p q s =
    rw s.split_plan (terms_off p q (alike_plans s.alike) s.off (accepted_fit a p s.split_plan).clean (accepted_fit a p s.split_plan).placed)

-- an answer with number 0 has the text and the count of the accepted plan
pub record Answered (text : Plan → List ℕ) (p : Plan) (r : Answer) : Type 0 where
  pub text_is : r.text ≡ text p
  pub count_is : r.count ≡ odds p

answered : (text : Plan → List ℕ) (m : ℕ) (p : Plan) → (answer_of text m (accepted p)).number ≡ 0 → Answered text p (answer_of text m (accepted p))
unfolding answer_of
answered text m p = go (leb (length (text p)) m)
  where
    go : (b : Bool) → (cond b (record { number = 0; length = length (text p); count = odds p; text = text p }) (refuse 11)).number ≡ 0 → Answered text p (cond b (record { number = 0; length = length (text p); count = odds p; text = text p }) (refuse 11))
    go true h = record { text_is = refl; count_is = refl }
    go false h = absurd (omega arith)

answer_is : (text : Plan → List ℕ) (m : ℕ) (o : Outcome) (p : Plan) → o ≡ accepted p → (answer_of text m o).number ≡ 0 → Answered text p (answer_of text m o)
answer_is text m o p e = rw e (answered text m p)

pub answers_agree : AnswersAgree
unfolding answer
answers_agree a b p q s m n h k =
    let x : Answered whole_text p (answer a m) = answer_is whole_text m (outcome a) p s.split_plan h in
    let y : Answered whole_text q (answer b n) = answer_is whole_text n (outcome b) q s.other_plan k in
    (ap (closures_off a) x.text_is ∙ split_text_becomes_other a b p q s ∙ ap some (sym y.text_is), x.count_is ∙ counts_equal a b p q s ∙ sym y.count_is)

pub terms_answers_agree : TermsAnswersAgree
unfolding terms_answer
terms_answers_agree a b p q s m n h k =
    let x : Answered terms_text p (terms_answer a m) = answer_is terms_text m (outcome a) p s.split_plan h in
    let y : Answered terms_text q (terms_answer b n) = answer_is terms_text n (outcome b) q s.other_plan k in
    (ap (closures_off_terms a) x.text_is ∙ split_terms_text_becomes_other a b p q s ∙ ap some (sym y.text_is), x.count_is ∙ counts_equal a b p q s ∙ sym y.count_is)

-- a plan that is answered with number 0 is accepted
record Accepts (a : List ℕ) : Type 0 where
  plan : Plan
  is : outcome a ≡ accepted plan

accepts : (text : Plan → List ℕ) (a : List ℕ) (m : ℕ) → (answer_of text m (outcome a)).number ≡ 0 → Accepts a
unfolding answer_of
accepts text a m h = go (outcome a) refl h
  where
    go : (o : Outcome) → outcome a ≡ o → (answer_of text m o).number ≡ 0 → Accepts a
    go (refused n) e g = absurd (omega (arith, refused_number a n e, g))
    go (accepted p) e g = record { plan = p; is = e }

pub answers_to_bytes_agree : AnswersToBytesAgree
unfolding answer
answers_to_bytes_agree a b s m n h k =
    let p : Accepts a = accepts whole_text a m h in
    let q : Accepts b = accepts whole_text b n k in
    answers_agree a b p.plan q.plan (bytes_pair a b p.plan q.plan s p.is q.is) m n h k

pub terms_answers_to_bytes_agree : TermsAnswersToBytesAgree
unfolding terms_answer
terms_answers_to_bytes_agree a b s m n h k =
    let p : Accepts a = accepts terms_text a m h in
    let q : Accepts b = accepts terms_text b n k in
    terms_answers_agree a b p.plan q.plan (bytes_pair a b p.plan q.plan s p.is q.is) m n h k

-- THE CLOSURES

placed_in : (before after : List Generated) (g : Generated) → all_arms_placed (before ++ (g ∷ after)) ≡ true → arms_placed [] g.rows ≡ true
unfolding all_arms_placed
placed_in [] after g h = and_left (arms_placed [] g.rows) _ h
placed_in (f ∷ before) after g h = placed_in before after g (and_right (arms_placed [] f.rows) _ h)

block_placed : (a : List ℕ) (p : Plan) (g : Generated) → outcome a ≡ accepted p → BlockTable p g → arms_placed [] g.rows ≡ true
block_placed a p g e b = placed_in b.before b.after g (rw b.is at (accepted_fit a p e).placed)

lines_of : (b : Bool) (n : ℕ) → all_four (numbered b n) ≡ four_lines b n
unfolding four_lines all_four
lines_of true n = refl
lines_of false n = refl

pub closures_are_those_of_split_arms : ClosuresAreThoseOfSplitArms
closures_are_those_of_split_arms a p g e b j =
    let h : arms_placed [] g.rows ≡ true = block_placed a p g e b in
    closures_of p.options p.env g j h
    ∙ ap all_four (ap (λ (ns : List (Option ℕ)). get_or ns j none) (block_numbers p.options p.env g h) ∙ closure_number j (split_arms p.options p.env g))
    ∙ lines_of _ _

pub closures_have_rows : ClosuresHaveRows
closures_have_rows = rowed_term

pub numbered_in_opening_order : NumberedInOpeningOrder
numbered_in_opening_order a p g e b =
    ap (numbers (split_arms p.options p.env g)) (opened_term p.options p.env g (block_placed a p g e b)) ∙ numbers_count (split_arms p.options p.env g)

pub closure_encloses_body : ClosureEnclosesBody
closure_encloses_body a p g e b earlier later r q h = term_encloses p.options p.env g earlier later r q (block_placed a p g e b) h

pub all_parts_append : (o : Options) (e : Environment) (gs hs : List Generated) → all_parts o e (gs ++ hs) ≡ all_parts o e gs ++ all_parts o e hs
unfolding all_parts
all_parts_append o e [] hs = refl
all_parts_append o e (g ∷ gs) hs = rw (all_parts_append o e gs hs, append_assoc)

pub one_more : (o : Options) (e : Environment) (g : Generated) (gs : List Generated) → all_parts o e (g ∷ gs) ≡ term_parts o e g ++ all_parts o e gs
unfolding all_parts
one_more o e g gs = refl

pub text_by_block_tables : TextByBlockTables
unfolding terms_text
text_by_block_tables p g b = rw (b.is, all_parts_append, one_more, text_append, text_append)
