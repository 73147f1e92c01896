-- The rows of a block as the buffers hold them. Assumes nothing.
use Rattle.std.specs.Prelude.{ℕ, zero, suc, ◌+◌, ◌-◌, ◌≤◌, ◌<◌, ◌≡◌, refl, Bool, true, false, List, [], ◌∷◌, map, ltb}
use Rattle.std.proofs.Common.{arith, ltb-true, ltb-false}
use Rattle.plan.specs.Row.{Row, level}
use Rattle.rows.specs.View.{block_of}
use Rattle.layout.specs.View.{cut, cuts}
use Rattle.schedule_rules.specs.Passes.{Each}
use Rattle.view.proofs.Laws.{cuts_next, cuts_none}
use Rattle.view.specs.declared.buffers.Plan.{Plan}

-- the rows from row r up to row `last`
abbrev pub rows_from : List ℕ → List ℕ → ℕ → ℕ → List Row
rows_from words rows last r = map block_of (cuts words rows r (last - r))

-- the same of a plan
abbrev pub rows_in : Plan → ℕ → ℕ → List Row
rows_in p last r = rows_from p.words.now p.rows.now last r

module _ (words rows : List ℕ) (r last : ℕ) where
  pub rows_next : r < last → rows_from words rows last r ≡ block_of (cut words rows r) ∷ rows_from words rows last (r + 1)
  rows_next h = rw (cuts_next words rows r last h)

  pub rows_none : last ≤ r → rows_from words rows last r ≡ []
  rows_none h = rw (cuts_none words rows r last h)

-- LEVELS

-- "levels 0 to 63", and the bindings of each open frame find one of n places
pub record Shallow (words rows : List ℕ) (first last n : ℕ) : Type 0 where
  pub levels : (r : ℕ) → first ≤ r → r < last → level (block_of (cut words rows r)) < 64
  pub places : (r : ℕ) → first ≤ r → r < last → level (block_of (cut words rows r)) + 1 < n

each_cut : (P : Row → Type 0) (words rows : List ℕ) (first n r : ℕ) → Each P (map block_of (cuts words rows first n)) → first ≤ r → r < first + n → P (block_of (cut words rows r))
unfolding cuts
each_cut P words rows first zero r e h g = absurd (omega arith)
each_cut P words rows first (suc n) r e h g = by_test (ltb first r) refl (λ l. each_cut P words rows (first + 1) n r e.1 (omega arith) (omega arith))
  where
    by_test : (b : Bool) → ltb first r ≡ b → (first < r → P (block_of (cut words rows r))) → P (block_of (cut words rows r))
    by_test true q later = later (ltb-true first r q)
    by_test false q later = let l : first ≡ r = omega (arith, ltb-false first r q) in rw l at e.0

-- levels below m find m + 1 places
pub shallow_rows : (words rows : List ℕ) (first last m : ℕ) → m ≤ 64 → Each (λ r. level r < m) (rows_from words rows last first) → Shallow words rows first last (m + 1)
shallow_rows words rows first last m u e =
    let below : (r : ℕ) → first ≤ r → r < last → level (block_of (cut words rows r)) < m = λ r h g. each_cut (λ x. level x < m) words rows first (last - first) r e h (omega arith) in
    record { levels = λ r h g. omega (arith, below r h g); places = λ r h g. omega (arith, below r h g) }
