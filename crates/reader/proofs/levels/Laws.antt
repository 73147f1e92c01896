-- Laws of levels and of the tables' rows. Assumes nothing.
use Prim.Native.Nat.{ℕ, zero, suc, ◌+◌, ◌≤◌, ◌<◌}
use mathlib.Core.Path.{◌≡◌, refl, ap, ◌∙◌}
use mathlib.Core.Bool.{Bool, true, false, cond, ◌&&◌}
use mathlib.Core.List.{List, [], ◌∷◌, ◌++◌, map}
use native.Mathlib.Omega.{arith}
use lib.Dec.{eqb, ltb, leb}
use lib.ListN.{length, take, set, get_or, length-map, get_or-map}
use lib.Seq.{take-take, take-suc-set, length-take-le, get_or-take}
use borrow.Author.Tests.{ne_eqb, le-leb, lt-leb, ltb-true, ltb-false}
use mathlib.Core.Option.{Option}
use Rattle.plan.specs.Constraint.{Constraint}
use Rattle.cells.specs.Value.{Wide}
use Rattle.plan.specs.Row.{ControlFlow, Row, step, arm}
use Rattle.plan.specs.Layout.{Below, arms, steps, nothing, below, may_stand, nested}
use Rattle.rows.specs.View.{nth, block_of, step_made}
use Rattle.layout.specs.Scan.{sort_at, table_shaped, shaped}
use Rattle.layout.specs.View.{cuts}
use Rattle.rows.specs.Kinds.{block_number, block_kind}
use Rattle.rows.proofs.Numbers.{block_numbered}
use Rattle.view.specs.BlockRows.{level_is}
use Rattle.reader.specs.Level.{below_at, stands, below_code, code, stored}
use Rattle.reader.specs.declared.levels.Below.TheVariants.{Steps, Arms, Nothing}

-- A ROW'S WORDS

-- what is said of a kind is said of the number that it was read from
stands_by_kind : (code n : ℕ) → stands code (block_number (block_kind n)) ≡ stands code n
unfolding stands
stands_by_kind code n = rw (block_numbered n) (grind arith)

below_by_kind : (n : ℕ) → below_code (block_number (block_kind n)) ≡ below_code n
unfolding below_code
below_by_kind n = rw (block_numbered n) (grind arith)

may_law : (code : ℕ) (ws : List ℕ) → may_stand (below_at code) (block_of ws) ≡ stands code (nth ws 1)
unfolding block_of below_at stands
may_law code ws = by_kind (ltb (nth ws 1) 4) refl where
  by_kind : (b : Bool) → ltb (nth ws 1) 4 ≡ b → may_stand (below_at code) (block_of ws) ≡ stands code (nth ws 1)
  by_kind true e = rw (e, lt-leb 4 (nth ws 1) (ltb-true (nth ws 1) 4 e)) (by_code (eqb code 1) (eqb code 2) _ _ _) where
    by_code : (c d : Bool) (l : ℕ) (f : ControlFlow) (bs : List ℕ) → may_stand (cond c arms (cond d nothing steps)) (step l f bs) ≡ cond c false (cond d false true)
    by_code true d l f bs = refl
    by_code false true l f bs = refl
    by_code false false l f bs = refl
  by_kind false e = rw (e, le-leb 4 (nth ws 1) (ltb-false (nth ws 1) 4 e)) (by_code (eqb code 1) (eqb code 2) _ _ _) where
    by_code : (c d : Bool) (l : ℕ) (f : Constraint) (bs : List (Option ℕ)) → may_stand (cond c arms (cond d nothing steps)) (arm l f bs) ≡ cond c true (cond d false false)
    by_code true d l f bs = refl
    by_code false true l f bs = refl
    by_code false false l f bs = refl

step_below : (k : ℕ) → k < 4 → (l a : ℕ) (b : Wide) (bs : List ℕ) → below (step l (step_made k a b) bs) ≡ below_at (below_code k)
unfolding step_made below below_at below_code
step_below zero h l a b bs = refl
step_below (suc zero) h l a b bs = refl
step_below (suc (suc zero)) h l a b bs = refl
step_below (suc (suc (suc zero))) h l a b bs = refl
step_below (suc (suc (suc (suc k)))) h l a b bs = absurd (omega arith)

arm_below : (k : ℕ) → 4 ≤ k → (l : ℕ) (c : Constraint) (bs : List (Option ℕ)) → below (arm l c bs) ≡ below_at (below_code k)
unfolding below below_at below_code
arm_below k h l c bs = rw (ne_eqb k 0 (λ q. omega arith), ne_eqb k 3 (λ q. omega arith))

below_law : (ws : List ℕ) → below (block_of ws) ≡ below_at (below_code (nth ws 1))
unfolding block_of
below_law ws = by_kind (ltb (nth ws 1) 4) refl where
  by_kind : (b : Bool) → ltb (nth ws 1) 4 ≡ b → below (block_of ws) ≡ below_at (below_code (nth ws 1))
  by_kind true e = rw e (step_below (nth ws 1) (ltb-true (nth ws 1) 4 e) _ _ _ _)
  by_kind false e = rw e (arm_below (nth ws 1) (ltb-false (nth ws 1) 4 e) _ _ _)

-- what is stored is what is read
pub stands_stored : (n k : ℕ) → stands (code (stored n)) k ≡ stands n k
unfolding stands
stands_stored n k = by_number (eqb n 1) (eqb n 2) where
  by_number : (b d : Bool) → stands (code (cond b Arms (cond d Nothing Steps))) k ≡ cond b (leb 4 k) (cond d false (ltb k 4))
  by_number true d = refl
  by_number false true = refl
  by_number false false = refl

-- LEVELS

take_map : {A B : Type 0} (f : A → B) (n : ℕ) (l : List A) → take n (map f l) ≡ map f (take n l)
take_map f zero l = refl
take_map f (suc n) [] = refl
take_map {B = B} f (suc n) (x ∷ l) = ap (λ (m : List B). f x ∷ m) (take_map f n l)

map_snoc : {A B : Type 0} (f : A → B) (l : List A) (x : A) → map f (l ++ (x ∷ [])) ≡ map f l ++ (f x ∷ [])
map_snoc f [] x = refl
map_snoc {B = B} f (y ∷ l) x = ap (λ (m : List B). f y ∷ m) (map_snoc f l x)

any_default : (l : List ℕ) (i a b : ℕ) → i < length l → get_or l i a ≡ get_or l i b
any_default [] i a b h = absurd (omega arith)
any_default (x ∷ l) zero a b h = refl
any_default (x ∷ l) (suc i) a b h = any_default l i a b (omega arith)

-- a row of a level and a kind, over the codes of the levels that are open
module _ (stack : List ℕ) (depth : ℕ) (ws : List ℕ) (rs : List Row) (lv k : ℕ) (is_level : lv ≡ nth ws 0) (is_kind : k ≡ block_number (block_kind (nth ws 1))) (room : depth ≤ length stack) where
  open_levels : length (map below_at (take depth stack)) ≡ depth
  open_levels = length-map (take depth stack) below_at ∙ length-take-le depth stack room

  at_level : lv < depth → get_or (map below_at (take depth stack)) lv nothing ≡ below_at (get_or stack lv 0)
  unfolding below_at
  at_level h = get_or-map below_at (take depth stack) lv 2 ∙ ap below_at (get_or-take depth stack lv 2 h ∙ any_default stack lv 2 0 (omega arith))

  next_levels : lv < depth → lv + 1 < length stack → take (suc lv) (map below_at (take depth stack)) ++ (below (block_of ws) ∷ []) ≡ map below_at (take (lv + 2) (set stack (lv + 1) (below_code k)))
  next_levels h g =
      let z : lv + 2 ≡ suc (lv + 1) = omega arith in
      let y : suc lv ≡ lv + 1 = omega arith in
      let x : lv + 1 ≤ depth = omega arith in
      rw (z, take-suc-set stack (lv + 1) (below_code k) g, map_snoc, take_map, y, take-take (lv + 1) depth stack x, below_law ws, ← below_by_kind (nth ws 1), ← is_kind)

  -- such a row may not stand there
  pub nested_not : (ltb lv depth && stands (get_or stack lv 0) k) ≡ false → nested (map below_at (take depth stack)) (block_of ws ∷ rs) ≡ false
  unfolding nested
  nested_not f = by_depth (ltb lv depth) refl where
    by_depth : (b : Bool) → ltb lv depth ≡ b → nested (map below_at (take depth stack)) (block_of ws ∷ rs) ≡ false
    by_depth false e = rw (level_is ws, ← is_level, open_levels, e)
    by_depth true e = rw (level_is ws, ← is_level, open_levels, e, at_level (ltb-true lv depth e), may_law (get_or stack lv 0) ws, ← stands_by_kind (get_or stack lv 0) (nth ws 1), ← is_kind, rw e at f)

  -- it may, and what may stand below it is kept
  pub nested_next : (ltb lv depth && stands (get_or stack lv 0) k) ≡ true → lv + 1 < length stack
      → nested (map below_at (take depth stack)) (block_of ws ∷ rs) ≡ nested (map below_at (take (lv + 2) (set stack (lv + 1) (below_code k)))) rs
  unfolding nested
  nested_next f g = by_depth (ltb lv depth) refl where
    by_depth : (b : Bool) → ltb lv depth ≡ b → nested (map below_at (take depth stack)) (block_of ws ∷ rs) ≡ nested (map below_at (take (lv + 2) (set stack (lv + 1) (below_code k)))) rs
    by_depth false e = cc (rw e at f)
    by_depth true e = let h = ltb-true lv depth e in
        rw (level_is ws, ← is_level, open_levels, e, at_level h, may_law (get_or stack lv 0) ws, ← stands_by_kind (get_or stack lv 0) (nth ws 1), ← is_kind, rw e at f, next_levels h g)

-- TABLES

pub shaped_not : (i : ℕ) (t : List (List ℕ)) (ts : List (List (List ℕ))) → table_shaped (sort_at i) t ≡ false → shaped i (t ∷ ts) ≡ false
unfolding shaped
shaped_not i t ts e = rw e

pub shaped_next : (i : ℕ) (t : List (List ℕ)) (ts : List (List (List ℕ))) → table_shaped (sort_at i) t ≡ true → shaped i (t ∷ ts) ≡ shaped (i + 1) ts
unfolding shaped
shaped_next i t ts e = rw e

pub shaped_none : (words rows tables : List ℕ) (i n m : ℕ) → m ≡ 0 → shaped i (cuts (cuts words rows 0 n) tables i m) ≡ true
unfolding shaped cuts
shaped_none words rows tables i n m e = rw e

pub nested_none : (above : List Below) (words rows : List ℕ) (r m : ℕ) → m ≡ 0 → nested above (map block_of (cuts words rows r m)) ≡ true
unfolding nested cuts
nested_none above words rows r m e = rw e

pub stack_start : (above : List ℕ) → 0 < length above → map below_at (take 1 (set above 0 0)) ≡ steps ∷ []
unfolding below_at
stack_start [] h = absurd (omega arith)
stack_start (x ∷ above) h = refl
