-- The arms of a match, by the first row after it; names that are there already. Assumes nothing.
use Rattle.std.specs.Prelude.{ℕ, zero, suc, ◌≤◌, ◌<◌, ◌≡◌, refl, Bool, true, false, cond, not, ◌||◌, List, [], ◌∷◌, eqb, ltb}
use Rattle.std.proofs.Common.{sym, ap, ◌∙◌, eq-eqb, ne_eqb}
use Rattle.codegen.specs.Writer.{Marks, contains, insert}
use Rattle.codegen.specs.Block.{arm_count}
use Rattle.rows.specs.View.{nth}
use Rattle.layout.specs.View.{cut}
use Rattle.splitting.specs.Cases.{false_true}
use Rattle.view.specs.BlockRows.{step_is, arm_is}
use Rattle.row_frames.specs.Arms.{arms_in}
use Rattle.row_frames.specs.Rows.{rows_from, rows_next, rows_none}
use Rattle.row_frames.specs.declared.Arms.TheVariants.{Absent, One, Several}

-- ARMS

module _ (words rows : List ℕ) (l r last : ℕ) where
  pub arms_absent : last ≤ r → Absent ≡ arms_in l (rows_from words rows last r)
  unfolding arms_in
  arms_absent h = rw (rows_none words rows r last h)

  pub arms_step : r < last → ltb (nth (cut words rows r) 1) 4 ≡ true → Absent ≡ arms_in l (rows_from words rows last r)
  unfolding arms_in
  arms_step h s = rw (rows_next words rows r last h, step_is (cut words rows r) s)

  arms_some : r < last → ltb (nth (cut words rows r) 1) 4 ≡ false → arms_in l (rows_from words rows last r) ≡ cond (eqb (arm_count l (rows_from words rows last r)) 1) One Several
  unfolding arms_in
  arms_some h s = rw (rows_next words rows r last h, arm_is (cut words rows r) s)

  pub arms_one : r < last → ltb (nth (cut words rows r) 1) 4 ≡ false → arm_count l (rows_from words rows last r) ≡ 1 → One ≡ arms_in l (rows_from words rows last r)
  arms_one h s q = sym (arms_some h s ∙ rw (eq-eqb _ 1 q))

  pub arms_several : r < last → ltb (nth (cut words rows r) 1) 4 ≡ false → (arm_count l (rows_from words rows last r) ≡ 1 → ⊥) → Several ≡ arms_in l (rows_from words rows last r)
  arms_several h s q = sym (arms_some h s ∙ rw (ne_eqb (arm_count l (rows_from words rows last r)) 1 q))

-- NAMES

-- what is there already changes nothing
insert_in : (m : Marks) (b : ℕ) → contains m b ≡ true → insert m b ≡ m
insert_in [] b h = refl
insert_in (x ∷ m) zero h = ap (λ (y : Bool). y ∷ m) (sym h)
insert_in (x ∷ m) (suc b) h = ap (λ (n : Marks). x ∷ n) (insert_in m b h)

pub insert_there : (m : Marks) (b : ℕ) → not (contains m b) ≡ false → insert m b ≡ m
insert_there m b h = by_test (contains m b) refl h where
  by_test : (c : Bool) → contains m b ≡ c → not c ≡ false → insert m b ≡ m
  by_test true e g = insert_in m b e
  by_test false e g = false_true (sym g)

pub or_left : (a b : Bool) → (a || b) ≡ false → a ≡ false
or_left true b h = false_true (sym h)
or_left false b h = refl

pub or_right : (a b : Bool) → (a || b) ≡ false → b ≡ false
or_right true b h = false_true (sym h)
or_right false b h = h
