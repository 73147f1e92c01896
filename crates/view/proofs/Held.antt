-- The tables by their number are those that the layout's indices cut, where these are in order. Assumes nothing.
use Prim.Native.Nat.{ℕ, zero, suc, ◌+◌, ◌-◌, ◌≤◌, ◌<◌}
use mathlib.Core.Path.{◌≡◌, refl, ap}
use mathlib.Core.List.{List, ◌∷◌}
use native.Mathlib.Omega.{arith}
use lib.ListN.{length, take, drop, get_or}
use lib.Seq.{get_or-take, length-take-le}
use Rattle.layout.specs.View.{cut, cuts, tables_of, Indexed, plan_of_tables, plan_held}
use Rattle.view.specs.Tables.{table_rows, tables_from, tables_in, plan_in}

module _ {A : Type 0} (xs : List A) (index : List ℕ) where
  take_cuts : (i n b : ℕ) → b ≤ n → take b (cuts xs index i n) ≡ cuts xs index i b
  unfolding cuts
  take_cuts i n zero h = refl
  take_cuts i zero (suc b) h = absurd (omega arith)
  take_cuts i (suc n) (suc b) h = ap (λ (l : List (List A)). cut xs index i ∷ l) (take_cuts (i + 1) n b (omega arith))

  drop_cuts : (i n a : ℕ) → drop a (cuts xs index i n) ≡ cuts xs index (i + a) (n - a)
  unfolding cuts
  drop_cuts i n zero = let z : i + 0 ≡ i = omega arith in let y : n - 0 ≡ n = omega arith in rw (z, y)
  drop_cuts i zero (suc a) = let y : 0 - suc a ≡ 0 = omega arith in rw y refl
  drop_cuts i (suc n) (suc a) = let z : i + suc a ≡ i + 1 + a = omega arith in let y : suc n - suc a ≡ n - a = omega arith in rw (z, y) (drop_cuts (i + 1) n a)

-- the rows of a table, from its first up to the next table's
pub cut_rows : (words rows tables : List ℕ) (n t from to : ℕ) → from ≡ get_or tables t 0 → to ≡ get_or tables (t + 1) 0 → to ≤ n
    → cut (cuts words rows 0 n) tables t ≡ cuts words rows from (to - from)
unfolding cut
cut_rows words rows tables n t from to f g h =
    let z : 0 + from ≡ from = omega arith in
    rw (← f, ← g, take_cuts words rows 0 n to h, drop_cuts words rows 0 to from, z)

module _ (words rows tables : List ℕ) (n j : ℕ) (x : Indexed tables n j) (size : j < length tables) where
  same_entry : (t : ℕ) → t ≤ j → get_or (take (j + 1) tables) t 0 ≡ get_or tables t 0
  same_entry t h = get_or-take (j + 1) tables t 0 (omega arith)

  same_table : (t : ℕ) → t < j → cut (cuts words rows 0 n) tables t ≡ table_rows words rows (take (j + 1) tables) t
  unfolding table_rows
  same_table t h =
      rw (same_entry t (omega arith), same_entry (t + 1) (omega arith))
      (cut_rows words rows tables n t (get_or tables t 0) (get_or tables (t + 1) 0) refl refl (x.inside t h))

  same_tables : (t m : ℕ) → t + m ≤ j → cuts (cuts words rows 0 n) tables t m ≡ tables_from words rows (take (j + 1) tables) t m
  unfolding cuts tables_from
  same_tables t zero h = refl
  same_tables t (suc m) h = rw (same_table t (omega arith), same_tables (t + 1) m (omega arith))

  pub tables_are : tables_of words rows tables n j ≡ tables_in words rows (take (j + 1) tables)
  unfolding tables_of tables_in
  tables_are =
      let l : length (take (j + 1) tables) - 1 ≡ j = omega (arith, length-take-le (j + 1) tables (omega arith)) in
      rw l (same_tables 0 j (omega arith))

  pub plan_is : (plan : List ℕ) → plan_held plan words rows tables n j ≡ plan_in plan words rows (take (j + 1) tables)
  unfolding plan_held plan_in
  plan_is plan = ap (plan_of_tables plan) tables_are
