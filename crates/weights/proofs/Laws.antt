-- Arms, weights and rows below, as counts of rows. Assumes nothing.
use Prim.Native.Nat.{ℕ, suc, ◌+◌, ◌-◌, ◌≤◌, ◌<◌}
use mathlib.Core.Path.{◌≡◌, refl, ◌∙◌}
use mathlib.Core.Bool.{Bool, true, false, cond}
use mathlib.Core.List.{List, [], ◌∷◌}
use native.Mathlib.Omega.{arith}
use lib.Dec.{ltb, leb, eqb}
use lib.ListN.{length, drop}
use borrow.Author.Tests.{le-leb, lt-leb, leb-false, eqb-true, eqb-false}
use Rattle.std.specs.List.{count_by}
use Rattle.std.proofs.lemmas.List.Sums.{sum_by-cons}
use Rattle.plan.specs.Row.{Row, step, arm, level}
use Rattle.rows.specs.View.{nth, wide_at, patterns_in, block_of, step_made, arm_made}
use Rattle.view.specs.BlockRows.{level_is}
use Rattle.view.specs.Buffers.{words_of}
use Rattle.view.specs.declared.buffers.Plan.{Plan}
use Rattle.view.proofs.Laws.{cuts_next, cuts_none}
use Rattle.weights.specs.Between.{rows_between}
use Rattle.codegen.specs.Block.{arm_count, step_weight, block_weight}
use Rattle.splitting.specs.Demand3.{rows_below}

pub is_step : Row → Bool
is_step (step l c bs) = true
is_step (arm l c bs) = false

pub step_told : (ws : List ℕ) → ltb (nth ws 1) 4 ≡ is_step (block_of ws)
unfolding block_of is_step
step_told ws = by_test (ltb (nth ws 1) 4) where
  by_test : (b : Bool) → b ≡ is_step (cond b (step (nth ws 0) (step_made (nth ws 1) (nth ws 2) (wide_at ws 3)) (drop 7 ws)) (arm (nth ws 0) (arm_made (nth ws 1 - 4) (nth ws 2) (wide_at ws 3)) (patterns_in (drop 7 ws))))
  by_test true = refl
  by_test false = refl

-- the rows below, of those from row r up to row `end`, and how many of them are counted
abbrev pub below_from : Plan → ℕ → ℕ → ℕ → List Row
below_from p l end r = rows_below l (rows_between p r end)

abbrev pub left : Plan → ℕ → ℕ → (Row → Bool) → ℕ → ℕ
left p l end P r = count_by P (below_from p l end r)

module _ (p : Plan) (l end : ℕ) (P : Row → Bool) (r : ℕ) where
  pub left_end : end ≤ r → left p l end P r ≡ 0
  unfolding rows_below
  left_end h = rw (cuts_none p.words.now p.rows.now r end h) refl

  pub left_out : r < end → nth (words_of p r) 0 ≤ l → left p l end P r ≡ 0
  unfolding rows_below
  left_out h q = rw (cuts_next p.words.now p.rows.now r end h, level_is (words_of p r), le-leb _ l q) refl

  pub left_next : r < end → l < nth (words_of p r) 0 → (b : Bool) → b ≡ P (block_of (words_of p r)) → left p l end P r ≡ cond b 1 0 + left p l end P (r + 1)
  unfolding rows_below
  left_next h q b e =
      rw (cuts_next p.words.now p.rows.now r end h, level_is (words_of p r), lt-leb _ l q, e)
      (sum_by-cons (λ x. cond (P x) 1 0) (block_of (words_of p r)) (below_from p l end (r + 1)))

-- the arms of a match, and the steps below a row, are counted among the rows below it
pub arms_counted : (l : ℕ) (rs : List Row) → arm_count l rs ≡ count_by (λ r. eqb (level r - l) 1) (rows_below l rs)
unfolding arm_count rows_below
arms_counted l [] = refl
arms_counted l (r ∷ rs) = by_test (leb (level r) l) refl (arms_counted l rs) where
  by_level : (a : Bool) → eqb (level r) (suc l) ≡ a → (b : Bool) → eqb (level r - l) 1 ≡ b → l < level r → cond a (suc (arm_count l rs)) (arm_count l rs) ≡ cond b 1 0 + arm_count l rs
  by_level true p true q g = omega arith
  by_level false p false q g = omega arith
  by_level true p false q g = absurd (eqb-false (level r - l) 1 q (let z = eqb-true (level r) (suc l) p in omega arith))
  by_level false p true q g = absurd (eqb-false (level r) (suc l) p (let z = eqb-true (level r - l) 1 q in omega arith))

  by_test : (b : Bool) → leb (level r) l ≡ b → arm_count l rs ≡ count_by (λ r. eqb (level r - l) 1) (rows_below l rs)
      → cond b 0 (cond (eqb (level r) (suc l)) (suc (arm_count l rs)) (arm_count l rs)) ≡ count_by (λ r. eqb (level r - l) 1) (cond b [] (r ∷ rows_below l rs))
  by_test true h more = refl
  by_test false h more =
      rw (sum_by-cons (λ r. cond (eqb (level r - l) 1) 1 0) r (rows_below l rs), ← more) (by_level (eqb (level r) (suc l)) refl (eqb (level r - l) 1) refl (leb-false (level r) l h))

pub steps_counted : (l : ℕ) (rs : List Row) → block_weight l rs ≡ count_by is_step (rows_below l rs)
unfolding block_weight rows_below is_step
steps_counted l [] = refl
steps_counted l (r ∷ rs) = by_test (leb (level r) l) (steps_counted l rs) where
  by_row : (r : Row) → step_weight r + block_weight l rs ≡ cond (is_step r) 1 0 + block_weight l rs
  by_row (step l c bs) = refl
  by_row (arm l c bs) = refl

  by_test : (b : Bool) → block_weight l rs ≡ count_by is_step (rows_below l rs)
      → cond b 0 (step_weight r + block_weight l rs) ≡ count_by is_step (cond b [] (r ∷ rows_below l rs))
  by_test true more = refl
  by_test false more = rw (sum_by-cons (λ r. cond (is_step r) 1 0) r (rows_below l rs), ← more) (by_row r)

pub none_below : (p : Plan) (l end r : ℕ) → end ≤ r → 0 ≡ length (below_from p l end r)
unfolding rows_below
none_below p l end r h = rw (cuts_none p.words.now p.rows.now r end h) refl

pub all_counted : (rs : List Row) → count_by (λ r. true) rs ≡ length rs
all_counted [] = refl
all_counted (r ∷ rs) = sum_by-cons (λ r. 1) r rs ∙ omega (arith, all_counted rs)
