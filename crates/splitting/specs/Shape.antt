-- Rows that pass refusals 3 and 9: each arm stands below a match, and the row after a match is an arm of it.
use Rattle.std.specs.Prelude.{ℕ, zero, suc, ◌<◌, ◌≤◌, ◌≡◌, refl, true, cond, not, ◌||◌, List, [], ◌∷◌, ◌++◌, length, get_or, take, ltb}
use Rattle.std.proofs.Common.{ap, arith}
use Rattle.std.proofs.Math.Option.{Option}
use borrow.Author.Tests.{le-leb, lt-leb, lt-ltb, le-ltb, ltb-true, eqb-true, eq-eqb}
use Rattle.plan.specs.Constraint.{Constraint}
use Rattle.plan.specs.Row.{Match, Equal, Loop, Return, Row, step, arm, level}
use Rattle.plan.specs.Layout.{Below, arms, steps, nothing, below, may_stand, nested}
use Rattle.plan.specs.Refusal.{is_match, has_below, matches_armed}
use Rattle.codegen.specs.Block.{arm_count}
use Rattle.codegen.specs.TakeOff.{Above, arms_above, arms_of_row}
use Rattle.splitting.specs.Cases.{and_left, and_right, and_both, by_leb, false_true}
use Rattle.splitting.specs.Owners.{arm_next, arms_placed_row, arms_placed}

-- what may stand at each level after a row of level n that has b below it
abbrev after_row : ℕ → Below → List Below → List Below
after_row n b above = take (suc n) above ++ (b ∷ [])

after_row_length : (n : ℕ) (b : Below) (above : List Below) → n < length above → length (after_row n b above) ≡ suc (suc n)
after_row_length n b [] h = absurd (omega arith)
after_row_length zero b (a ∷ above) h = refl
after_row_length (suc n) b (a ∷ above) h = ap suc (after_row_length n b above (omega arith))

after_row_upto : (n l : ℕ) (b : Below) (above : List Below) → n < length above → l ≤ n → get_or (after_row n b above) l nothing ≡ get_or above l nothing
after_row_upto n l b [] h g = absurd (omega arith)
after_row_upto zero zero b (a ∷ above) h g = refl
after_row_upto zero (suc l) b (a ∷ above) h g = absurd (omega arith)
after_row_upto (suc n) zero b (a ∷ above) h g = refl
after_row_upto (suc n) (suc l) b (a ∷ above) h g = after_row_upto n l b above (omega arith) (omega arith)

after_row_at : (n : ℕ) (b : Below) (above : List Below) → n < length above → get_or (after_row n b above) (suc n) nothing ≡ b
after_row_at n b [] h = absurd (omega arith)
after_row_at zero b (a ∷ above) h = refl
after_row_at (suc n) b (a ∷ above) h = after_row_at n b above (omega arith)

after_row_past : (n l : ℕ) (b : Below) (above : List Below) → n < length above → suc n < l → get_or (after_row n b above) l nothing ≡ nothing
after_row_past n l b [] h g = absurd (omega arith)
after_row_past n zero b (a ∷ above) h g = absurd (omega arith)
after_row_past zero (suc zero) b (a ∷ above) h g = absurd (omega arith)
after_row_past zero (suc (suc l)) b (a ∷ above) h g = refl
after_row_past (suc n) (suc l) b (a ∷ above) h g = after_row_past n l b above (omega arith) (omega arith)

-- where arms may stand, the match that they belong to has some
abbrev HasArm : Below → ℕ → Type 0
HasArm arms n = 1 ≤ n
HasArm steps n = Unit
HasArm nothing n = Unit

unfoldable Known : List Below → List Above → Type 0
Known above earlier = (l : ℕ) → HasArm (get_or above l nothing) (arms_above l earlier)

-- a row that is nested, and the rows after it
module _ (above : List Below) (r : Row) (rs : List Row) (h : nested above (r ∷ rs) ≡ true) where
  row_level : level r < length above
  unfolding nested
  row_level = ltb-true (level r) (length above) (and_left (ltb (level r) (length above)) _ h)

  row_stands : may_stand (get_or above (level r) nothing) r ≡ true
  unfolding nested
  row_stands = and_left (may_stand (get_or above (level r) nothing) r) _ (and_right (ltb (level r) (length above)) _ h)

  rest_nested : nested (after_row (level r) (below r) above) rs ≡ true
  unfolding nested
  rest_nested = and_right (may_stand (get_or above (level r) nothing) r) _ (and_right (ltb (level r) (length above)) _ h)

-- an arm stands where arms may
arm_stands : (b : Below) (n l : ℕ) (c : Constraint) (bs : List (Option ℕ)) → HasArm b n → may_stand b (arm l c bs) ≡ true → 1 ≤ n
arm_stands arms n l c bs h s = h
arm_stands steps n l c bs h s = false_true s
arm_stands nothing n l c bs h s = false_true s

-- the row after a match of level l is an arm of it; `above` has what may stand after the match
next_arm : (l : ℕ) (above : List Below) (rs : List Row) → length above ≡ suc (suc l) → get_or above (suc l) nothing ≡ arms → nested above rs ≡ true → has_below l rs ≡ true → arm_next l rs ≡ true
unfolding arm_next level
next_arm l above [] e a n h = false_true h
next_arm l above (step m c bs ∷ rs) e a n h = false_true (rw (level_next m (row_level above (step m c bs) rs n) h, a) at (row_stands above (step m c bs) rs n))
  where
    level_next : (m : ℕ) → m < length above → ltb l m ≡ true → m ≡ suc l
    level_next m u v = omega (arith, e, u, ltb-true l m v)
next_arm l above (arm m c bs ∷ rs) e a n h = eq-eqb m (suc l) (omega (arith, e, row_level above (arm m c bs) rs n, ltb-true l m h))

-- a match whose next row is an arm of it has an arm
counts_arm : (l : ℕ) (rs : List Row) → arm_next l rs ≡ true → 1 ≤ arm_count l rs
unfolding arm_next arm_count level
counts_arm l [] h = false_true h
counts_arm l (step m c bs ∷ rs) h = false_true h
counts_arm l (arm m c bs ∷ rs) h = rw (lt-leb m l (omega (arith, eqb-true m (suc l) h)), h) (omega arith)

-- what refusal 9 asks of a row
abbrev HasArms : Row → List Row → Type 0
HasArms r rs = not (is_match r) || has_below (level r) rs ≡ true

match_next : (above : List Below) (l q : ℕ) (bs : List ℕ) (rs : List Row) → nested above (step l (Match q) bs ∷ rs) ≡ true → HasArms (step l (Match q) bs) rs → arm_next l rs ≡ true
unfolding below level
match_next above l q bs rs h m =
    let u : l < length above = row_level above (step l (Match q) bs) rs h in
    next_arm l (after_row l arms above) rs (after_row_length l arms above u) (after_row_at l arms above u) (rest_nested above (step l (Match q) bs) rs h) m

row_arms : (above : List Below) (r : Row) (rs : List Row) → nested above (r ∷ rs) ≡ true → HasArms r rs → HasArm (below r) (arms_of_row r rs)
unfolding below
row_arms above (step l (Match q) bs) rs h m = counts_arm l rs (match_next above l q bs rs h m)
row_arms above (step l (Equal a b) bs) rs h m = tt
row_arms above (step l (Loop x) bs) rs h m = tt
row_arms above (step l (Return x p) bs) rs h m = tt
row_arms above (arm l c bs) rs h m = tt

row_placed : (above : List Below) (earlier : List Above) (r : Row) (rs : List Row) → Known above earlier → nested above (r ∷ rs) ≡ true → HasArms r rs → arms_placed_row earlier r rs ≡ true
unfolding arms_placed_row Known level
row_placed above earlier (step l (Match q) bs) rs k h m = match_next above l q bs rs h m
row_placed above earlier (step l (Equal a b) bs) rs k h m = refl
row_placed above earlier (step l (Loop x) bs) rs k h m = refl
row_placed above earlier (step l (Return x p) bs) rs k h m = refl
row_placed above earlier (arm l c bs) rs k h m = le-leb 1 (arms_above l earlier) (arm_stands (get_or above l nothing) (arms_above l earlier) l c bs (k l) (row_stands above (arm l c bs) rs h))

-- what may stand past a row of level n with b below it and m arms
known_after : (above : List Below) (earlier : List Above) (n m : ℕ) (b : Below) → n < length above → HasArm b m → Known above earlier → Known (after_row n b above) (record { level = n; arms = m } ∷ earlier)
unfolding Known arms_above
known_after above earlier n m b h g k l =
    by_leb (λ t. HasArm (get_or (after_row n b above) l nothing) (cond (ltb n l) m (arms_above l earlier))) l n
    (λ u. rw (after_row_upto n l b above h u, le-ltb n l u) (k l))
    (λ u. rw (lt-ltb n l u) (by_leb (λ t. HasArm (get_or (after_row n b above) l nothing) m) l (suc n)
    (λ v. let e : l ≡ suc n = omega arith in rw (e, after_row_at n b above h) g)
    (λ v. rw (after_row_past n l b above h v) tt)))

rows_placed : (above : List Below) (earlier : List Above) (rs : List Row) → Known above earlier → nested above rs ≡ true → matches_armed rs ≡ true → arms_placed earlier rs ≡ true
unfolding arms_placed matches_armed
rows_placed above earlier [] k h m = refl
rows_placed above earlier (r ∷ rs) k h m =
    let a : HasArms r rs = and_left (not (is_match r) || has_below (level r) rs) (matches_armed rs) m in
    and_both (row_placed above earlier r rs k h a)
    (rows_placed (after_row (level r) (below r) above) (record { level = level r; arms = arms_of_row r rs } ∷ earlier) rs
    (known_after above earlier (level r) (arms_of_row r rs) (below r) (row_level above r rs h) (row_arms above r rs h a) k)
    (rest_nested above r rs h) (and_right (not (is_match r) || has_below (level r) rs) (matches_armed rs) m))

known_none : Known (steps ∷ []) []
unfolding Known
known_none zero = tt
known_none (suc l) = tt

pub nested_placed : (rs : List Row) → nested (steps ∷ []) rs ≡ true → matches_armed rs ≡ true → arms_placed [] rs ≡ true
nested_placed rs h m = rows_placed (steps ∷ []) [] rs known_none h m
