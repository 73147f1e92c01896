-- Demand 3, of the entries `emit` and `emit_terms`. Assumes nothing.
use Rattle.std.specs.Prelude.{ℕ, ◌≡◌, refl, Bool, true, false, List, [], ◌∷◌, ◌++◌, length, get_or, drop, take}
use Rattle.std.proofs.Common.{sym, ap, ◌∙◌, arith, ne_eqb}
use Rattle.std.proofs.Math.Option.{some}
use Rattle.std.proofs.Math.Seq.{take-append_seam}
use Rattle.plan.specs.Plan.{Generated, Plan}
use Rattle.plan.specs.Row.{Row, level}
use Rattle.plan.specs.Refusal.{accepted, outcome}
use Rattle.codegen.specs.Piece.{render}
use Rattle.codegen.specs.Items.{items}
use Rattle.codegen.specs.Block.{Part, text_of}
use Rattle.codegen.specs.Terms.{term_parts, all_parts, terms_text}
use Rattle.codegen.specs.Answer.{Answer, answer, terms_answer, whole_text}
use Rattle.codegen.specs.AnswerLaws.{Given, refusing, writing, answer_given, terms_answer_given}
use Rattle.codegen.specs.Enclosing.{Encloses}
use Rattle.codegen.specs.TakeOff.{closures_off, closures_off_terms}
use Rattle.splitting.specs.Cases.{false_true}
use Rattle.splitting.specs.Demand3.{SplitPair, SplitBytes, rows_below, split_arms, number, four_lines, edges_at, edges_have_rows, opened_rows, numbers, count, counting, BlockTable}
use Rattle.splitting.proofs.Theorems.{answers_agree, terms_answers_agree, closures_are_those_of_split_arms, closures_have_rows, numbered_in_opening_order, closure_encloses_body, text_by_block_tables}
use Rattle.splitting.proofs.PlanBytes.{bytes_pair}
use Rattle.emitter.specs.Answered.{Answers, gives}
use Rattle.demands.specs.Calls.{Wrote, wrote}

-- DEMAND 3: "Take any two plans that differ only in split and threshold, splitting off in one and on in the other, whatever the threshold,
-- each accepted with its buffer. Their counts are equal. The split text becomes the other, byte for byte" by `closures-off`
-- (codegen/specs/TakeOff): "by removing the four lines of each closure, taking four spaces off the lines inside for each closure around
-- them, and turning "return true;" into "return;" in overflow lines". It gives no text where a line has fewer spaces than it is to
-- lose. splitting/specs/Demand3 has the same of the definition.

-- the text and the count of a call that wrote one are the answer's
read_text : {a : Answer} {l k : ℕ} {before after : List ℕ} → Given (length before) a → Answers a (gives l k) before after → (a.number ≡ 0) × (take l after ≡ a.text) × (k ≡ a.count)
read_text (refusing m h g) q = false_true (sym (ne_eqb m 0 (λ z. absurd (omega arith))) ∙ sym q.written)
read_text {before = before} (writing t c h g) q = (refl, rw (q.bytes, q.length) (take-append_seam t (drop (length t) before)), q.count)

pub demand_3 : (a b : List ℕ) (p q : Plan) → SplitPair a b p q → {l k : ℕ} {before after : List ℕ} → Answers (answer a (length before)) (gives l k) before after
    → {m n : ℕ} {before' after' : List ℕ} → Answers (answer b (length before')) (gives m n) before' after' → (closures_off a (take l after) ≡ some (take m after')) × (k ≡ n)
demand_3 a b p q s {before = before} x {before' = before'} y =
    let u = read_text (answer_given a (length before)) x in
    let v = read_text (answer_given b (length before')) y in
    let w = answers_agree a b p q s (length before) (length before') u.0 v.0 in
    (ap (closures_off a) u.1 ∙ w.0 ∙ ap some (sym v.1), u.2 ∙ w.1 ∙ sym v.2)

pub demand_3_terms : (a b : List ℕ) (p q : Plan) → SplitPair a b p q → {l k : ℕ} {before after : List ℕ} → Answers (terms_answer a (length before)) (gives l k) before after
    → {m n : ℕ} {before' after' : List ℕ} → Answers (terms_answer b (length before')) (gives m n) before' after' → (closures_off_terms a (take l after) ≡ some (take m after')) × (k ≡ n)
demand_3_terms a b p q s {before = before} x {before' = before'} y =
    let u = read_text (terms_answer_given a (length before)) x in
    let v = read_text (terms_answer_given b (length before')) y in
    let w = terms_answers_agree a b p q s (length before) (length before') u.0 v.0 in
    (ap (closures_off_terms a) u.1 ∙ w.0 ∙ ap some (sym v.1), u.2 ∙ w.1 ∙ sym v.2)

-- The same for a reader of the bytes alone: a and b are two plans' bytes, the same but for the values of split and threshold. That both
-- calls wrote a text says that both plans are accepted.
pub demand_3_bytes : (a b : List ℕ) → SplitBytes a b → {l k : ℕ} {before after : List ℕ} → Answers (answer a (length before)) (gives l k) before after
    → {m n : ℕ} {before' after' : List ℕ} → Answers (answer b (length before')) (gives m n) before' after' → (closures_off a (take l after) ≡ some (take m after')) × (k ≡ n)
unfolding answer
demand_3_bytes a b s {before = before} x {before' = before'} y =
    let p = wrote whole_text a before x in
    let q = wrote whole_text b before' y in
    demand_3 a b p.p q.p (bytes_pair a b p.p q.p s p.is q.is) x y

pub demand_3_bytes_terms : (a b : List ℕ) → SplitBytes a b → {l k : ℕ} {before after : List ℕ} → Answers (terms_answer a (length before)) (gives l k) before after
    → {m n : ℕ} {before' after' : List ℕ} → Answers (terms_answer b (length before')) (gives m n) before' after' → (closures_off_terms a (take l after) ≡ some (take m after')) × (k ≡ n)
unfolding terms_answer
demand_3_bytes_terms a b s {before = before} x {before' = before'} y =
    let p = wrote terms_text a before x in
    let q = wrote terms_text b before' y in
    demand_3_terms a b p.p q.p (bytes_pair a b p.p q.p s p.is q.is) x y

-- "The closures in the split text are exactly those of the iterator_kind arms, in matches of two or more arms, whose body weighs more
-- than the threshold: one closure for each such arm, numbered from 0 in opening order, anew for each block table, also where a term is
-- generated twice." The words are those of splitting/specs/Demand3: `split-arms` says of each row of a block table whether it is such an
-- arm, `number` how many of them stand on earlier rows, `four-lines` what a closure is.

-- of a block table g: the parts of its text, and for each of its rows whether it is a split arm
abbrev pub parts_of : Plan → Generated → List Part
parts_of p g = term_parts p.options p.env g

abbrev pub arms_of : Plan → Generated → List Bool
arms_of p g = split_arms p.options p.env g

abbrev pub text_of_tables : Plan → List Generated → List ℕ
text_of_tables p gs = text_of p.env (all_parts p.options p.env gs)

-- the closures of the block table g in a text, where `head` stands before the terms
pub record ClosuresOf (p : Plan) (g : Generated) (b : BlockTable p g) (head text : List ℕ) : Type 0 where
  -- the text of g stands between those of the block tables before and after it
  pub stands : text ≡ head ++ (text_of_tables p b.before ++ (text_of p.env (parts_of p g) ++ text_of_tables p b.after))
  -- row j has the four lines of one closure, with its number, if it is a split arm, and no closure's line otherwise
  pub exactly : (j : ℕ) → edges_at j (parts_of p g) ≡ four_lines (get_or (arms_of p g) j false) (number (arms_of p g) j)
  -- every closure's line is some row's
  pub no_others : edges_have_rows (parts_of p g) ≡ true
  -- the numbers of the closures, in the order in which they are opened, are 0, 1, 2, ..
  pub in_order : numbers (arms_of p g) (opened_rows (parts_of p g)) ≡ counting 0 (count (arms_of p g))
  -- the closure of a split arm r: between its first line and its `false` line stand the parts of the rows below r, and nothing else; its
  -- last three lines follow one another
  pub encloses : (earlier later : List Row) (r : Row) → g.rows ≡ earlier ++ (r ∷ later) → get_or (arms_of p g) (length earlier) false ≡ true
      → Encloses (length earlier) (number (arms_of p g) (length earlier)) (length (rows_below (level r) later)) (parts_of p g)

-- those of every block table, in the text of a plan's bytes
pub record Closures (plan : List ℕ) (head : Plan → List ℕ) (text : List ℕ) : Type 0 where
  pub p : Plan
  pub is : outcome plan ≡ accepted p
  pub of : (g : Generated) (b : BlockTable p g) → ClosuresOf p g b (head p) text

closures : {plan : List ℕ} (head : Plan → List ℕ) {l k : ℕ} {after : List ℕ} → Wrote (λ p. head p ++ terms_text p) plan l k after → Closures plan head (take l after)
closures {plan} head w = record {
  p = w.p;
  is = w.is;
  of = λ g b. record {
    stands = rw (← text_by_block_tables w.p g b) w.text;
    exactly = closures_are_those_of_split_arms plan w.p g w.is b;
    no_others = closures_have_rows w.p.options w.p.env g;
    in_order = numbered_in_opening_order plan w.p g w.is b;
    encloses = closure_encloses_body plan w.p g w.is b;
  };
}

pub demand_3_closures : (plan before : List ℕ) {l k : ℕ} {after : List ℕ} → Answers (answer plan (length before)) (gives l k) before after → Closures plan (λ p. render p.env 0 (items p)) (take l after)
unfolding answer whole_text
demand_3_closures plan before q = closures (λ p. render p.env 0 (items p)) (wrote whole_text plan before q)

pub demand_3_closures_terms : (plan before : List ℕ) {l k : ℕ} {after : List ℕ} → Answers (terms_answer plan (length before)) (gives l k) before after → Closures plan (λ p. []) (take l after)
unfolding terms_answer
demand_3_closures_terms plan before q = closures (λ p. []) (wrote terms_text plan before q)
