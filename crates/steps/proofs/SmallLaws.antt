-- Numbers that fit a word. Assumes nothing.
use Rattle.std.specs.Prelude.{ℕ, zero, suc, ◌<◌, List, [], ◌∷◌, drop}
use Rattle.rows.specs.View.{nth, step_made, wide_at}
use Rattle.view.specs.Told.{control_flow_of}
use Rattle.steps.specs.Small.{word_bound, SmallFlow}

flow_made : (ws : List ℕ) → ((k : ℕ) → nth ws k < word_bound) → (k : ℕ) → nth (drop 3 ws) 0 < word_bound → SmallFlow (step_made k (nth ws 2) (wide_at ws 3))
unfolding step_made
flow_made ws h zero g = h 2
flow_made ws h (suc zero) g = (h 2, g)
flow_made ws h (suc (suc zero)) g = h 2
flow_made ws h (suc (suc (suc zero))) g = h 2
flow_made ws h (suc (suc (suc (suc k)))) g = h 2

pub flow_small : (ws : List ℕ) → ((k : ℕ) → nth ws k < word_bound) → SmallFlow (control_flow_of ws)
flow_small ws h = flow_made ws h (nth ws 1) (third ws h)
  where
    third : (ws : List ℕ) → ((k : ℕ) → nth ws k < word_bound) → nth (drop 3 ws) 0 < word_bound
    third [] h = h 0
    third (x ∷ []) h = h 1
    third (x ∷ y ∷ []) h = h 2
    third (x ∷ y ∷ z ∷ ws) h = h 3
