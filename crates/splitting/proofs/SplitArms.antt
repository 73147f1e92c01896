-- The arms that split in the definition of the text are the split arms of Demand3.antt, and so are their numbers.
use Rattle.std.specs.Prelude.{ℕ, zero, suc, ◌+◌, ◌≤◌, ◌≡◌, Bool, true, false, cond, ◌&&◌, leb, ltb, eqb, length, get_or, take}
use Rattle.std.proofs.Math.Path.{refl}
use Rattle.std.proofs.Common.{ap, ap₂, ◌∙◌, zero-add, add-zero, arith, leb-true}
use Rattle.std.proofs.Math.Option.{Option, none}
use mathlib.Core.List.{List, [], ◌∷◌, ◌++◌, append_assoc}
use Rattle.plan.specs.Plan.{Options, Environment, Generated, Term}
use Rattle.plan.specs.Row.{Match, Equal, Loop, Return, Row, step, arm, level}
use Rattle.plan.specs.Lookup.{term_at}
use Rattle.codegen.specs.ReturnKind.{by_return_kind}
use Rattle.codegen.specs.ReturnKind as kind
use Rattle.codegen.specs.Sema.{constructor_sig}
use Rattle.codegen.specs.Block.{arm_count, step_weight, block_weight, numbered}
use Rattle.codegen.specs.Terms.{splits}
use Rattle.codegen.specs.TakeOff.{Above, arms_above, arms_of_row, splits_arm}
use Rattle.splitting.specs.Demand3.{rows_below, weight, rows_at, match_arms, is_split_arm, split_arms_from, split_arms, count, number, numbers, counting}
use Rattle.splitting.specs.Cases.{and_left, and_right, by_bool}
use Rattle.splitting.specs.Owners.{arms_placed_row, arms_placed}
use Rattle.splitting.specs.Closures.{split_numbers}

-- WEIGHTS AND ARMS

weight_row : (r : Row) (rs : List Row) → step_weight r + weight rs ≡ weight (r ∷ rs)
unfolding weight
weight_row (step l c bs) rs = omega arith
weight_row (arm l c bs) rs = omega arith

weight_below : (l : ℕ) (rs : List Row) → block_weight l rs ≡ weight (rows_below l rs)
unfolding block_weight rows_below weight
weight_below l [] = refl
weight_below l (r ∷ rs) =
    by_bool (λ b. cond b 0 (step_weight r + block_weight l rs) ≡ weight (cond b [] (r ∷ rows_below l rs))) (leb (level r) l)
    refl (ap (λ (n : ℕ). step_weight r + n) (weight_below l rs) ∙ weight_row r (rows_below l rs))

arms_below : (l : ℕ) (rs : List Row) → arm_count l rs ≡ rows_at (suc l) (rows_below l rs)
unfolding arm_count rows_at rows_below
arms_below l [] = refl
arms_below l (r ∷ rs) =
    by_bool (λ b. cond b 0 (cond (eqb (level r) (suc l)) (suc (arm_count l rs)) (arm_count l rs)) ≡ rows_at (suc l) (cond b [] (r ∷ rows_below l rs))) (leb (level r) l)
    refl (rw (arms_below l rs))

-- the earlier rows, from the nearest on, as `splits-arm` has them
unfoldable aboves : List Row → List Row → List Above
aboves [] later = []
aboves (m ∷ earlier) later = record { level = level m; arms = arms_of_row m later } ∷ aboves earlier (m ∷ later)

match_row : (m : Row) (later : List Row) → 1 ≤ arms_of_row m later → arms_of_row m later ≡ rows_at (suc (level m)) (rows_below (level m) later)
unfolding level
match_row (step l (Match q) bs) later h = arms_below l later
match_row (step l (Equal a b) bs) later h = absurd (omega arith)
match_row (step l (Loop r) bs) later h = absurd (omega arith)
match_row (step l (Return r p) bs) later h = absurd (omega arith)
match_row (arm l c bs) later h = absurd (omega arith)

nearest_match : (l : ℕ) (earlier later : List Row) → 1 ≤ arms_above l (aboves earlier later) → arms_above l (aboves earlier later) ≡ match_arms l earlier later
unfolding arms_above aboves match_arms
nearest_match l [] later h = refl
nearest_match l (m ∷ earlier) later h = go (ltb (level m) l) h (nearest_match l earlier (m ∷ later))
  where
    go : (b : Bool) → 1 ≤ cond b (arms_of_row m later) (arms_above l (aboves earlier (m ∷ later)))
        → (1 ≤ arms_above l (aboves earlier (m ∷ later)) → arms_above l (aboves earlier (m ∷ later)) ≡ match_arms l earlier (m ∷ later))
        → cond b (arms_of_row m later) (arms_above l (aboves earlier (m ∷ later))) ≡ cond b (rows_at (suc (level m)) (rows_below (level m) later)) (match_arms l earlier (m ∷ later))
    go true h k = match_row m later h
    go false h k = k h

-- SPLIT ARMS

iterator_kind : (m : Term) → by_return_kind (constructor_sig m).ret_kind true false false ≡ m.multi
unfolding constructor_sig by_return_kind
iterator_kind m = go m.multi m.partial
  where
    go : (x y : Bool) → by_return_kind (cond x kind.Iterator (cond y kind.Option kind.Plain)) true false false ≡ x
    go true y = refl
    go false true = refl
    go false false = refl

-- the number of each split arm, where k split arms stand before
unfoldable pub numbers_from : ℕ → List Bool → List (Option ℕ)
numbers_from k [] = []
numbers_from k (b ∷ bs) = numbered b k ∷ numbers_from (cond b (suc k) k) bs

and_order : (a b c d : Bool) → a && (b && (c && d)) ≡ b && (c && (a && d))
and_order true b c d = refl
and_order false true true d = refl
and_order false true false d = refl
and_order false false c d = refl

module _ (o : Options) (e : Environment) (g : Generated) where
  abbrev multi : Bool
  multi = (term_at e g.term).multi

  same_split_arm : (earlier : List Row) (r : Row) (rs : List Row) → arms_placed_row (aboves earlier (r ∷ rs)) r rs ≡ true → splits_arm (splits o e g) (aboves earlier (r ∷ rs)) r rs ≡ is_split_arm o multi earlier r rs
  unfolding splits_arm is_split_arm splits arms_placed_row level
  same_split_arm earlier (step l c bs) rs h = refl
  same_split_arm earlier (arm l c bs) rs h =
      rw (nearest_match l earlier (arm l c bs ∷ rs) (leb-true 1 _ h), weight_below l rs, iterator_kind (term_at e g.term))
      (and_order (leb 2 (match_arms l earlier (arm l c bs ∷ rs))) o.split multi (ltb o.threshold (weight (rows_below l rs))))

  same_numbers : (earlier : List Row) (k : ℕ) (rs : List Row) → arms_placed (aboves earlier rs) rs ≡ true → split_numbers (splits o e g) (aboves earlier rs) k rs ≡ numbers_from k (split_arms_from o multi earlier rs)
  unfolding split_numbers numbers_from split_arms_from arms_placed aboves
  same_numbers earlier k [] h = refl
  same_numbers earlier k (r ∷ rs) h =
      rw (same_split_arm earlier r rs (and_left (arms_placed_row (aboves earlier (r ∷ rs)) r rs) _ h))
      (ap (λ (ns : List (Option ℕ)). numbered (is_split_arm o multi earlier r rs) k ∷ ns) (same_numbers (r ∷ earlier) _ rs (and_right (arms_placed_row (aboves earlier (r ∷ rs)) r rs) _ h)))

  pub block_numbers : arms_placed [] g.rows ≡ true → split_numbers (splits o e g) [] 0 g.rows ≡ numbers_from 0 (split_arms o e g)
  unfolding aboves
  block_numbers h = same_numbers [] 0 g.rows h

-- NUMBERS

number_at : (k j : ℕ) (bs : List Bool) → get_or (numbers_from k bs) j none ≡ numbered (get_or bs j false) (k + number bs j)
unfolding numbers_from count
number_at k j [] = refl
number_at k zero (b ∷ bs) = rw add-zero
number_at k (suc j) (b ∷ bs) = number_at (cond b (suc k) k) j bs ∙ ap (numbered (get_or bs j false)) (by_bool (λ x. cond x (suc k) k + number bs j ≡ k + cond x (suc (number bs j)) (number bs j)) b (omega arith) refl)

pub closure_number : (j : ℕ) (bs : List Bool) → get_or (numbers_from 0 bs) j none ≡ numbered (get_or bs j false) (number bs j)
closure_number j bs = number_at 0 j bs ∙ rw zero-add

-- the rows of split arms, from row i on
unfoldable pub true_rows : ℕ → List Bool → List ℕ
true_rows i [] = []
true_rows i (b ∷ bs) = let more = true_rows (suc i) bs in cond b (i ∷ more) more

take_length : (bs cs : List Bool) → take (length bs) (bs ++ cs) ≡ bs
take_length [] cs = refl
take_length (b ∷ bs) cs = ap (λ (x : List Bool). b ∷ x) (take_length bs cs)

length_more : (bs : List Bool) (b : Bool) → length (bs ++ (b ∷ [])) ≡ suc (length bs)
length_more [] b = refl
length_more (c ∷ bs) b = ap suc (length_more bs b)

count_more : (bs : List Bool) (b : Bool) → count (bs ++ (b ∷ [])) ≡ cond b (suc (count bs)) (count bs)
unfolding count
count_more [] b = refl
count_more (true ∷ bs) true = ap suc (count_more bs true)
count_more (true ∷ bs) false = ap suc (count_more bs false)
count_more (false ∷ bs) b = count_more bs b

count_up : (bs cs : List Bool) → numbers (bs ++ cs) (true_rows (length bs) cs) ≡ counting (count bs) (count cs)
unfolding numbers true_rows counting count
count_up bs [] = refl
count_up bs (true ∷ cs) = ap₂ (λ (x : ℕ) (xs : List ℕ). x ∷ xs) (ap count (take_length bs (true ∷ cs))) (rw (append_assoc, length_more, count_more) at (count_up (bs ++ (true ∷ [])) cs))
count_up bs (false ∷ cs) = rw (append_assoc, length_more, count_more) at (count_up (bs ++ (false ∷ [])) cs)

-- the numbers of the split arms' rows, in the order of the rows, count from 0
pub numbers_count : (bs : List Bool) → numbers bs (true_rows 0 bs) ≡ counting 0 (count bs)
unfolding count
numbers_count bs = count_up [] bs
