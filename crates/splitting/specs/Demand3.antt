-- Demand 3, sentence by sentence: its words over the definition of the text (crate codegen), and the statements, each a type.
-- Theorems.antt proves every statement of this page. Assumes nothing: these are definitions.
use Rattle.std.specs.Prelude.{ℕ, zero, suc, ◌≡◌, Bool, true, false, cond, ◌&&◌, List, [], ◌∷◌, ◌++◌, leb, ltb, eqb, length, get_or, take}
use Rattle.std.proofs.Math.Option.{Option, some, none}
use Rattle.text.specs.Codes.{codes}
use Rattle.plan.specs.Plan.{Options, Environment, Generated, Plan}
use Rattle.plan.specs.Row.{Row, step, arm, level}
use Rattle.plan.specs.Lookup.{term_at}
use Rattle.plan.specs.Refusal.{accepted, outcome}
use Rattle.codegen.specs.Piece.{plain}
use Rattle.codegen.specs.Block.{Edge, opens, gives_false, ends, calls, What, line, edge, Part, text_of}
use Rattle.codegen.specs.Terms.{term_parts, all_parts, terms_text, odds}
use Rattle.codegen.specs.Answer.{whole_text, answer, terms_answer}
use Rattle.codegen.specs.Enclosing.{Encloses}
use Rattle.codegen.specs.TakeOff.{is_arm, closures_off, closures_off_terms}

-- "Take any two plans that differ only in split and threshold, splitting off in one and on in the other, whatever the threshold,
-- each accepted with its buffer."

pub record DifferOnlyInSplitting (p q : Plan) : Type 0 where
  pub nopragmas : p.options.nopragmas ≡ q.options.nopragmas
  pub log : p.options.log ≡ q.options.log
  pub env : p.env ≡ q.env
  pub generated : p.generated ≡ q.generated

-- the bytes a and b of the two plans, and what they are read as
pub record SplitPair (a b : List ℕ) (p q : Plan) : Type 0 where
  pub split_plan : outcome a ≡ accepted p
  pub other_plan : outcome b ≡ accepted q
  pub alike : DifferOnlyInSplitting p q
  pub on : p.options.split ≡ true
  pub off : q.options.split ≡ false

-- "Their counts are equal. The split text becomes the other, byte for byte, by removing the four lines of each closure, taking
-- four spaces off the lines inside for each closure around them, and turning "return true;" into "return;" in overflow lines."
-- `closures-off` does so, fed the split text and its plan's bytes: TakeOff.antt of crate codegen. It gives no text where a line lacks
-- the spaces that it is to lose. A buffer is long enough where the answer's number is 0.

abbrev pub CountsEqual : Type 0
CountsEqual = (a b : List ℕ) (p q : Plan) → SplitPair a b p q → odds p ≡ odds q

abbrev pub SplitTextBecomesOther : Type 0
SplitTextBecomesOther = (a b : List ℕ) (p q : Plan) → SplitPair a b p q → closures_off a (whole_text p) ≡ some (whole_text q)

abbrev pub SplitTermsTextBecomesOther : Type 0
SplitTermsTextBecomesOther = (a b : List ℕ) (p q : Plan) → SplitPair a b p q → closures_off_terms a (terms_text p) ≡ some (terms_text q)

abbrev pub AnswersAgree : Type 0
AnswersAgree =
    (a b : List ℕ) (p q : Plan) → SplitPair a b p q → (m n : ℕ) → (answer a m).number ≡ 0 → (answer b n).number ≡ 0
    → (closures_off a (answer a m).text ≡ some (answer b n).text) × ((answer a m).count ≡ (answer b n).count)

abbrev pub TermsAnswersAgree : Type 0
TermsAnswersAgree =
    (a b : List ℕ) (p q : Plan) → SplitPair a b p q → (m n : ℕ) → (terms_answer a m).number ≡ 0 → (terms_answer b n).number ≡ 0
    → (closures_off_terms a (terms_answer a m).text ≡ some (terms_answer b n).text) × ((terms_answer a m).count ≡ (terms_answer b n).count)

-- The same, for a reader of the bytes alone. n and l are the values of nopragmas and log, s is that of split, t the text of the
-- threshold, and `rest` is all that follows the first table.
abbrev pub digit : Bool → ℕ
digit b = cond b 49 48

abbrev pub plan_bytes : Bool → Bool → Bool → List ℕ → List ℕ → List ℕ
plan_bytes n l s t rest = codes "nopragmas log split threshold" ++ (10 ∷ digit n ∷ 32 ∷ digit l ∷ 32 ∷ digit s ∷ 32 ∷ t ++ (10 ∷ 10 ∷ rest))

-- a and b are the same bytes but for the values of split, 1 in a and 0 in b, and of threshold
pub record SplitBytes (a b : List ℕ) : Type 0 where
  pub nopragmas : Bool
  pub log : Bool
  pub threshold : List ℕ
  pub other_threshold : List ℕ
  pub rest : List ℕ
  pub in_line : plain threshold ≡ true
  pub other_in_line : plain other_threshold ≡ true
  pub split_bytes : a ≡ plan_bytes nopragmas log true threshold rest
  pub other_bytes : b ≡ plan_bytes nopragmas log false other_threshold rest

abbrev pub AnswersToBytesAgree : Type 0
AnswersToBytesAgree =
    (a b : List ℕ) → SplitBytes a b → (m n : ℕ) → (answer a m).number ≡ 0 → (answer b n).number ≡ 0
    → (closures_off a (answer a m).text ≡ some (answer b n).text) × ((answer a m).count ≡ (answer b n).count)

abbrev pub TermsAnswersToBytesAgree : Type 0
TermsAnswersToBytesAgree =
    (a b : List ℕ) → SplitBytes a b → (m n : ℕ) → (terms_answer a m).number ≡ 0 → (terms_answer b n).number ≡ 0
    → (closures_off_terms a (terms_answer a m).text ≡ some (terms_answer b n).text) × ((terms_answer a m).count ≡ (terms_answer b n).count)

-- "The closures in the split text are exactly those of the iterator_kind arms, in matches of two or more arms, whose body weighs
-- more than the threshold"

-- of the rows after a row of level l, those below it: "up to the next row of its level or a lower one"
unfoldable pub rows_below : ℕ → List Row → List Row
rows_below l [] = []
rows_below l (r ∷ rs) = let more = r ∷ rows_below l rs in cond (leb (level r) l) [] more

-- "Weight of a block: 1 for each step plus the weights below it."
unfoldable pub weight : List Row → ℕ
weight [] = 0
weight (step l c bs ∷ rs) = suc (weight rs)
weight (arm l c bs ∷ rs) = weight rs

unfoldable pub rows_at : ℕ → List Row → ℕ
rows_at l [] = 0
rows_at l (r ∷ rs) = let more = rows_at l rs in cond (eqb (level r) l) (suc more) more

-- how many arms the match of an arm of level l has: that match is the nearest earlier row of a lower level. `earlier` are the rows
-- before, from the nearest on, and `later` those from the arm on.
unfoldable pub match_arms : ℕ → List Row → List Row → ℕ
match_arms l [] later = 0
match_arms l (m ∷ earlier) later =
    let more = match_arms l earlier (m ∷ later) in
    cond (ltb (level m) l) (rows_at (suc (level m)) (rows_below (level m) later)) more

-- "An arm splits when split is 1, the term is of Iterator kind, its match has two or more arms and the arm's body weighs more than
-- the threshold": `multi` is the term's, n its match's arms, w its body's weight
abbrev pub arm_splits : Bool → ℕ → Bool → ℕ → ℕ → Bool
arm_splits split threshold multi n w = split && (multi && (leb 2 n && ltb threshold w))

unfoldable pub is_split_arm : Options → Bool → List Row → Row → List Row → Bool
is_split_arm o multi earlier r later =
    is_arm r && arm_splits o.split o.threshold multi (match_arms (level r) earlier (r ∷ later)) (weight (rows_below (level r) later))

unfoldable pub split_arms_from : Options → Bool → List Row → List Row → List Bool
split_arms_from o multi earlier [] = []
split_arms_from o multi earlier (r ∷ rs) = is_split_arm o multi earlier r rs ∷ split_arms_from o multi (r ∷ earlier) rs

-- for each row of a block table, whether it is a split arm
abbrev pub split_arms : Options → Environment → Generated → List Bool
split_arms o e g = split_arms_from o (term_at e g.term).multi [] g.rows

-- "one closure for each such arm, numbered from 0 in opening order, anew for each block table, also where a term is generated twice"

unfoldable pub count : List Bool → ℕ
count [] = 0
count (b ∷ bs) = let more = count bs in cond b (suc more) more

-- "Its number is how many split arms stand on earlier rows of the same block table"
abbrev pub number : List Bool → ℕ → ℕ
number arms j = count (take j arms)

-- the four lines of a closure with its number, where there is one
unfoldable pub four_lines : Bool → ℕ → List Edge
four_lines false n = []
four_lines true n = opens ∷ gives_false ∷ ends ∷ calls n ∷ []

-- the closures' lines that are row j's, in the order of the text
unfoldable pub edge_at : ℕ → Option ℕ → What → List Edge
edge_at j none w = []
edge_at j (some i) (line l) = []
edge_at j (some i) (edge e) = cond (eqb i j) (e ∷ []) []

unfoldable pub edges_at : ℕ → List Part → List Edge
edges_at j [] = []
edges_at j (p ∷ ps) = edge_at j p.row p.what ++ edges_at j ps

-- every closure's line is some row's
unfoldable pub has_row : Option ℕ → What → Bool
has_row i (line l) = true
has_row none (edge e) = false
has_row (some i) (edge e) = true

unfoldable pub edges_have_rows : List Part → Bool
edges_have_rows [] = true
edges_have_rows (p ∷ ps) = has_row p.row p.what && edges_have_rows ps

-- the rows whose closures are opened, in the order of the text
unfoldable pub opened_row : Option ℕ → What → List ℕ
opened_row none w = []
opened_row (some i) (line l) = []
opened_row (some i) (edge opens) = i ∷ []
opened_row (some i) (edge gives_false) = []
opened_row (some i) (edge ends) = []
opened_row (some i) (edge (calls n)) = []

unfoldable pub opened_rows : List Part → List ℕ
opened_rows [] = []
opened_rows (p ∷ ps) = opened_row p.row p.what ++ opened_rows ps

unfoldable pub numbers : List Bool → List ℕ → List ℕ
numbers arms [] = []
numbers arms (j ∷ js) = number arms j ∷ numbers arms js

-- n numbers from k on
unfoldable pub counting : ℕ → ℕ → List ℕ
counting k zero = []
counting k (suc n) = k ∷ counting (suc k) n

-- a block table of a plan: that of g, with those before it and after it
pub record BlockTable (p : Plan) (g : Generated) : Type 0 where
  pub before : List Generated
  pub after : List Generated
  pub is : p.generated ≡ before ++ (g ∷ after)

abbrev pub ClosuresAreThoseOfSplitArms : Type 0
ClosuresAreThoseOfSplitArms =
    (a : List ℕ) (p : Plan) (g : Generated) → outcome a ≡ accepted p → BlockTable p g → (j : ℕ)
    → let arms = split_arms p.options p.env g in
    edges_at j (term_parts p.options p.env g) ≡ four_lines (get_or arms j false) (number arms j)

abbrev pub ClosuresHaveRows : Type 0
ClosuresHaveRows = (o : Options) (e : Environment) (g : Generated) → edges_have_rows (term_parts o e g) ≡ true

abbrev pub NumberedInOpeningOrder : Type 0
NumberedInOpeningOrder =
    (a : List ℕ) (p : Plan) (g : Generated) → outcome a ≡ accepted p → BlockTable p g
    → let arms = split_arms p.options p.env g in
    numbers arms (opened_rows (term_parts p.options p.env g)) ≡ counting 0 (count arms)

-- "inside it stand the lines of the rows below the arm": of each split arm r of a block table, its row being that after `earlier`. The
-- closure's number and its four lines are those of `ClosuresAreThoseOfSplitArms`.
abbrev pub ClosureEnclosesBody : Type 0
ClosureEnclosesBody =
    (a : List ℕ) (p : Plan) (g : Generated) → outcome a ≡ accepted p → BlockTable p g
    → (earlier later : List Row) (r : Row) → g.rows ≡ earlier ++ (r ∷ later)
    → let arms = split_arms p.options p.env g in let j = length earlier in
    get_or arms j false ≡ true → Encloses j (number arms j) (length (rows_below (level r) later)) (term_parts p.options p.env g)

-- the parts of g are its lines in the text
abbrev pub TextByBlockTables : Type 0
TextByBlockTables =
    (p : Plan) (g : Generated) (b : BlockTable p g)
    → let text : List Part → List ℕ = text_of p.env in let all : List Generated → List Part = all_parts p.options p.env in
    terms_text p ≡ text (all b.before) ++ (text (term_parts p.options p.env g) ++ text (all b.after))
