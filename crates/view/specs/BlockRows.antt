-- A row of a block, by its words, and a word of a pattern's list. Assumes nothing.
use Rattle.std.specs.Prelude.{ℕ, ◌-◌, ◌≡◌, refl, Bool, true, false, cond, List, ltb, drop}
use Rattle.std.proofs.Common.{eq-eqb, ne_eqb}
use Rattle.std.proofs.Math.Option.{none, some}
use Rattle.plan.specs.Row.{Row, step, arm, level}
use Rattle.cells.specs.Items.{unbound}
use Rattle.rows.specs.View.{nth, wide_at, step_made, arm_made, pattern_of, patterns_in, block_of}
use Rattle.view.specs.Told.{control_flow_of, constraint_of}

abbrev of_test : (ws : List ℕ) (b : Bool) → Row
of_test ws b = cond b (step (nth ws 0) (step_made (nth ws 1) (nth ws 2) (wide_at ws 3)) (drop 7 ws)) (arm (nth ws 0) (arm_made (nth ws 1 - 4) (nth ws 2) (wide_at ws 3)) (patterns_in (drop 7 ws)))

pub level_is : (ws : List ℕ) → level (block_of ws) ≡ nth ws 0
unfolding block_of level
level_is ws = by_test (ltb (nth ws 1) 4) where
  by_test : (b : Bool) → level (of_test ws b) ≡ nth ws 0
  by_test true = refl
  by_test false = refl

pub step_is : (ws : List ℕ) → ltb (nth ws 1) 4 ≡ true → block_of ws ≡ step (nth ws 0) (control_flow_of ws) (drop 7 ws)
unfolding block_of
step_is ws h = rw h refl

pub arm_is : (ws : List ℕ) → ltb (nth ws 1) 4 ≡ false → block_of ws ≡ arm (nth ws 0) (constraint_of ws) (patterns_in (drop 7 ws))
unfolding block_of
arm_is ws h = rw h refl

pub pattern_none : (b : ℕ) → b ≡ unbound → pattern_of b ≡ none
pattern_none b h = rw (eq-eqb b unbound h)

pub pattern_some : (b : ℕ) → (b ≡ unbound → ⊥) → pattern_of b ≡ some b
pattern_some b h = rw (ne_eqb b unbound h)
