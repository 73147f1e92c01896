-- The scan reads the tables that the definition cuts: lines ended by LF, tables ended by an empty line. Assumes nothing.
use Prim.Native.Nat.{ℕ, ◌+◌, ◌≤◌, ◌<◌}
use mathlib.Core.Path.{subst, ◌≡◌, refl, sym, ap, ◌∙◌}
use mathlib.Core.Bool.{Bool, true, false, cond}
use mathlib.Core.List.{List, [], ◌∷◌, ◌++◌, append_assoc}
use mathlib.Core.Option.{Option, some, none}
use native.Mathlib.Omega.{arith}
use lib.Dec.{eqb}
use lib.ListN.{length, length-append}
use lib.Seq.{slice, drop-append_seam, take-append_seam}
use borrow.Author.Tests.{eqb-true}
use Rattle.text.specs.Split.{null, push, split, ended, same}
use Rattle.plan.specs.Layout.{◌⊛◌}
use Rattle.tokens.proofs.Laws.{parts_some}
use Rattle.rows.specs.Row.{row_words}
use Rattle.layout.specs.Scan.{Tables, sort_at, names, add, close, last, scan}
use Rattle.layout.proofs.Laws.{first_long}
use Rattle.layout.proofs.Cuts.{slice_take}

-- PARTS THAT ARE ENDED

-- a part before the others
unfoldable pub prefix : {A : Type 0} → List A → Option (List (List A)) → Option (List (List A))
prefix p none = none
prefix p (some ps) = some (p ∷ ps)

-- x before the first part, if there is one
unfoldable pub onto : {A : Type 0} → A → Option (List (List A)) → Option (List (List A))
onto x none = none
onto x (some []) = none
onto x (some (p ∷ ps)) = some ((x ∷ p) ∷ ps)

module _ {A : Type 0} where
  ended_cons : (p q : List A) (ps : List (List A)) → ended (p ∷ q ∷ ps) ≡ prefix p (ended (q ∷ ps))
  unfolding ended prefix
  ended_cons p q ps = by_rest (ended (q ∷ ps)) refl where
    by_rest : (o : Option (List (List A))) → ended (q ∷ ps) ≡ o → ended (p ∷ q ∷ ps) ≡ prefix p o
    by_rest none e = rw e
    by_rest (some rs) e = rw e

  -- the separator ends an empty part
  ended_empty : (ps : List (List A)) → 0 < length ps → ended ([] ∷ ps) ≡ prefix [] (ended ps)
  ended_empty [] h = absurd (omega arith)
  ended_empty (q ∷ ps) h = ended_cons [] q ps

  ended_push : (x : A) (ps : List (List A)) → 0 < length ps → ended (push x ps) ≡ onto x (ended ps)
  unfolding ended onto prefix
  ended_push x [] h = absurd (omega arith)
  ended_push x (p ∷ []) h = by_null (null p) where
    by_null : (b : Bool) → none ≡ onto x (cond b (some []) none)
    by_null true = refl
    by_null false = refl
  ended_push x (p ∷ q ∷ ps) h = ended_cons (x ∷ p) q ps ∙ by_rest (ended (q ∷ ps)) ∙ sym (ap (onto x) (ended_cons p q ps)) where
    by_rest : (o : Option (List (List A))) → prefix (x ∷ p) o ≡ onto x (prefix p o)
    by_rest none = refl
    by_rest (some rs) = refl

  pub cut_here : (sep : A → Bool) (x : A) (xs : List A) → sep x ≡ true → ended (split sep (x ∷ xs)) ≡ prefix [] (ended (split sep xs))
  unfolding split
  cut_here sep x xs e = rw e (ended_empty (split sep xs) (parts_some sep xs))

  pub cut_on : (sep : A → Bool) (x : A) (xs : List A) → sep x ≡ false → ended (split sep (x ∷ xs)) ≡ onto x (ended (split sep xs))
  unfolding split
  cut_on sep x xs e = rw e (ended_push x (split sep xs) (parts_some sep xs))

-- THE TABLES, LINE BY LINE

-- the bytes of lines, with their LFs
unfoldable pub bytes : List (List ℕ) → ℕ
bytes [] = 0
bytes (l ∷ ls) = length l + 1 + bytes ls

unfoldable pub rows_read : ℕ → ℕ → List (List ℕ) → Option (List (List ℕ))
rows_read sort from [] = some []
rows_read sort from (l ∷ ls) = some (λ r rs. r ∷ rs) ⊛ row_words sort from l ⊛ rows_read sort (from + length l + 1) ls

unfoldable pub table_read : ℕ → ℕ → List (List ℕ) → Option (List (List ℕ))
table_read sort from [] = none
table_read sort from (l ∷ ls) = cond (same l (names sort)) (rows_read sort (from + length l + 1) ls) none

unfoldable pub tables_read : ℕ → ℕ → List (List (List ℕ)) → Option Tables
tables_read i from [] = cond (eqb (sort_at i) 7) (some []) none
tables_read i from (t ∷ ts) = some (λ t ts. t ∷ ts) ⊛ table_read (sort_at i) from t ⊛ tables_read (i + 1) (from + bytes t + 1) ts

-- the tables from inside of one
unfoldable pub inside_read : ℕ → ℕ → List (List (List ℕ)) → Option Tables
inside_read i from [] = none
inside_read i from (t ∷ ts) = some (λ t ts. t ∷ ts) ⊛ rows_read (sort_at i) from t ⊛ tables_read (i + 1) (from + bytes t + 1) ts

unfoldable pub of_groups : Bool → ℕ → ℕ → Option (List (List (List ℕ))) → Option Tables
of_groups inside i from none = none
of_groups false i from (some ts) = tables_read i from ts
of_groups true i from (some ts) = inside_read i from ts

unfoldable pub of_lines : Bool → ℕ → ℕ → Option (List (List ℕ)) → Option Tables
of_lines inside i from none = none
of_lines inside i from (some ls) = of_groups inside i from (ended (split null ls))

add_none : (w : Option (List ℕ)) → add w none ≡ none
unfolding add
add_none none = refl
add_none (some w) = refl

cond_none : (b : Bool) → ◌≡◌ {A = Option Tables} (cond b none none) none
cond_none true = refl
cond_none false = refl

not_names : (sort : ℕ) → same [] (names sort) ≡ false
not_names sort = by_test (same [] (names sort)) refl where
  by_test : (b : Bool) → same [] (names sort) ≡ b → same [] (names sort) ≡ false
  by_test false e = e
  by_test true e = let h : 3 ≤ length (the_empty) = first_long [] sort e in absurd (omega arith) where
    the_empty : List ℕ
    the_empty = []

-- inside a table: an empty line, and a row
inside_empty : (i from : ℕ) (g : Option (List (List (List ℕ)))) → close (of_groups false (i + 1) (from + 0 + 1) g) ≡ of_groups true i from (prefix [] g)
unfolding close of_groups prefix inside_read rows_read bytes ◌⊛◌
inside_empty i from none = refl
inside_empty i from (some ts) = by_tables (tables_read (i + 1) (from + 0 + 1) ts) where
  by_tables : (o : Option Tables) → close o ≡ some (λ t ts. t ∷ ts) ⊛ some [] ⊛ o
  by_tables none = refl
  by_tables (some ts) = refl

inside_row : (i from : ℕ) (l : List ℕ) (g : Option (List (List (List ℕ)))) → add (row_words (sort_at i) from l) (of_groups true i (from + length l + 1) g) ≡ of_groups true i from (onto l g)
unfolding of_groups onto inside_read rows_read bytes ◌⊛◌ add
inside_row i from l none = add_none (row_words (sort_at i) from l)
inside_row i from l (some []) = add_none (row_words (sort_at i) from l)
inside_row i from l (some (t ∷ ts)) =
    let z : from + (length l + 1 + bytes t) + 1 ≡ from + length l + 1 + bytes t + 1 = omega arith in
    rw z (by_row (row_words (sort_at i) from l) (rows_read (sort_at i) (from + length l + 1) t) (tables_read (i + 1) (from + length l + 1 + bytes t + 1) ts)) where
      by_row : (w : Option (List ℕ)) (r : Option (List (List ℕ))) (o : Option Tables)
          → add w (some (λ t ts. t ∷ ts) ⊛ r ⊛ o) ≡ some (λ t ts. t ∷ ts) ⊛ (some (λ r rs. r ∷ rs) ⊛ w ⊛ r) ⊛ o
      by_row none r o = refl
      by_row (some w) none o = refl
      by_row (some w) (some r) none = refl
      by_row (some w) (some r) (some o) = refl

-- a names line
names_row : (i from : ℕ) (l : List ℕ) (g : Option (List (List (List ℕ))))
    → cond (same l (names (sort_at i))) (of_groups true i (from + length l + 1) g) none ≡ of_groups false i from (onto l g)
unfolding of_groups onto inside_read tables_read table_read bytes ◌⊛◌
names_row i from l none = cond_none (same l (names (sort_at i)))
names_row i from l (some []) = cond_none (same l (names (sort_at i)))
names_row i from l (some (t ∷ ts)) =
    let z : from + (length l + 1 + bytes t) + 1 ≡ from + length l + 1 + bytes t + 1 = omega arith in
    rw z (by_test (same l (names (sort_at i))) (rows_read (sort_at i) (from + length l + 1) t) (tables_read (i + 1) (from + length l + 1 + bytes t + 1) ts)) where
      by_test : (b : Bool) (r : Option (List (List ℕ))) (o : Option Tables) → cond b (some (λ t ts. t ∷ ts) ⊛ r ⊛ o) none ≡ some (λ t ts. t ∷ ts) ⊛ cond b r none ⊛ o
      by_test true r o = refl
      by_test false r o = refl

names_empty : (i from : ℕ) (g : Option (List (List (List ℕ)))) → of_groups false i from (prefix [] g) ≡ none
unfolding of_groups prefix tables_read table_read ◌⊛◌
names_empty i from none = refl
names_empty i from (some ts) = refl

-- the last line is what follows the last LF
scan_end : (i from : ℕ) (inside : Bool) (l : List ℕ) → last i inside l ≡ of_lines inside i from (ended (l ∷ []))
unfolding last of_lines of_groups ended split inside_read tables_read
scan_end i from true [] = refl
scan_end i from false [] = refl
scan_end i from inside (c ∷ l) = refl

-- a line before the others
scan_step : (i from : ℕ) (inside : Bool) (l : List ℕ) (o : Option (List (List ℕ)))
    → cond inside (cond (null l) (close (of_lines false (i + 1) (from + length l + 1) o)) (add (row_words (sort_at i) from l) (of_lines true i (from + length l + 1) o)))
    (cond (same l (names (sort_at i))) (of_lines true i (from + length l + 1) o) none) ≡ of_lines inside i from (prefix l o)
unfolding of_lines prefix close
scan_step i from true [] none = refl
scan_step i from true (c ∷ l) none = add_none (row_words (sort_at i) from (c ∷ l))
scan_step i from false l none = cond_none (same l (names (sort_at i)))
scan_step i from true [] (some ls) = inside_empty i from (ended (split null ls)) ∙ ap (of_groups true i from) (sym (cut_here null [] ls refl))
scan_step i from true (c ∷ l) (some ls) = inside_row i from (c ∷ l) (ended (split null ls)) ∙ ap (of_groups true i from) (sym (cut_on null (c ∷ l) ls refl))
scan_step i from false [] (some ls) = rw (not_names (sort_at i)) (sym (names_empty i from (ended (split null ls))) ∙ ap (of_groups false i from) (sym (cut_here null [] ls refl)))
scan_step i from false (c ∷ l) (some ls) = names_row i from (c ∷ l) (ended (split null ls)) ∙ ap (of_groups false i from) (sym (cut_on null (c ∷ l) ls refl))

pub scan_law : (ls : List (List ℕ)) (i from : ℕ) (inside : Bool) → scan i inside from ls ≡ of_lines inside i from (ended ls)
unfolding scan of_lines ended
scan_law [] i from inside = refl
scan_law (l ∷ []) i from inside = scan_end i from inside l
scan_law (l ∷ m ∷ ls) i from inside =
    rw (scan_law (m ∷ ls) (i + 1) (from + length l + 1) false, scan_law (m ∷ ls) i (from + length l + 1) true, ended_cons l m ls) (scan_step i from inside l (ended (m ∷ ls)))

-- WHERE THE LINES STAND

-- the lines stand in a text from a place on
unfoldable pub Stands : List ℕ → ℕ → List (List ℕ) → Type 0
Stands s from [] = Unit
Stands s from (l ∷ ls) = (slice from (from + length l) s ≡ l) × Stands s (from + length l + 1) ls

-- the lines of tables stand there, each table with its empty line
unfoldable pub TablesStand : List ℕ → ℕ → List (List (List ℕ)) → Type 0
TablesStand s from [] = Unit
TablesStand s from (t ∷ ts) = Stands s from t × TablesStand s (from + bytes t + 1) ts

unfoldable GroupsStand : List ℕ → ℕ → Option (List (List (List ℕ))) → Type 0
GroupsStand s from none = Unit
GroupsStand s from (some ts) = TablesStand s from ts

stand_empty : (s : List ℕ) (from : ℕ) (g : Option (List (List (List ℕ)))) → GroupsStand s (from + 0 + 1) g → GroupsStand s from (prefix [] g)
unfolding GroupsStand TablesStand Stands prefix bytes
stand_empty s from none h = tt
stand_empty s from (some ts) h = (tt, h)

stand_line : (s : List ℕ) (from : ℕ) (l : List ℕ) (g : Option (List (List (List ℕ)))) → slice from (from + length l) s ≡ l → GroupsStand s (from + length l + 1) g → GroupsStand s from (onto l g)
unfolding GroupsStand TablesStand Stands onto bytes
stand_line s from l none e h = tt
stand_line s from l (some []) e h = tt
stand_line s from l (some (t ∷ ts)) e h =
    let z : from + (length l + 1 + bytes t) + 1 ≡ from + length l + 1 + bytes t + 1 = omega arith in
    ((e, h.0), rw z h.1)

groups_stand : (s : List ℕ) (ls : List (List ℕ)) (from : ℕ) → Stands s from ls → GroupsStand s from (ended (split null ls))
unfolding Stands GroupsStand ended split TablesStand
groups_stand s [] from h = tt
groups_stand s ([] ∷ ls) from h = rw (cut_here null [] ls refl) (stand_empty s from (ended (split null ls)) (groups_stand s ls (from + 0 + 1) h.1))
groups_stand s ((c ∷ l) ∷ ls) from h = rw (cut_on null (c ∷ l) ls refl) (stand_line s from (c ∷ l) (ended (split null ls)) h.0 (groups_stand s ls (from + length (c ∷ l) + 1) h.1))

-- lines, each with its LF
unfoldable unlines : List (List ℕ) → List ℕ
unlines [] = []
unlines (l ∷ ls) = l ++ (10 ∷ unlines ls)

unfoldable LinesOf : List ℕ → Option (List (List ℕ)) → Type 0
LinesOf s none = Unit
LinesOf s (some ls) = unlines ls ≡ s

lines_empty : (s : List ℕ) (o : Option (List (List ℕ))) → LinesOf s o → LinesOf (10 ∷ s) (prefix [] o)
unfolding LinesOf prefix unlines
lines_empty s none h = tt
lines_empty s (some ls) h = rw h

lines_on : (c : ℕ) (s : List ℕ) (o : Option (List (List ℕ))) → LinesOf s o → LinesOf (c ∷ s) (onto c o)
unfolding LinesOf onto unlines
lines_on c s none h = tt
lines_on c s (some []) h = tt
lines_on c s (some (l ∷ ls)) h = ap (λ (t : List ℕ). c ∷ t) h

by_byte : (c : ℕ) (s : List ℕ) (b : Bool) → eqb 10 c ≡ b → LinesOf s (ended (split (eqb 10) s)) → LinesOf (c ∷ s) (ended (split (eqb 10) (c ∷ s)))
by_byte c s true e h = rw (cut_here (eqb 10) c s e, ← eqb-true 10 c e) (lines_empty s (ended (split (eqb 10) s)) h)
by_byte c s false e h = rw (cut_on (eqb 10) c s e) (lines_on c s (ended (split (eqb 10) s)) h)

lines_of : (s : List ℕ) → LinesOf s (ended (split (eqb 10) s))
unfolding LinesOf unlines ended split
lines_of [] = refl
lines_of (c ∷ s) = by_byte c s (eqb 10 c) refl (lines_of s)

stands_from : (p : List ℕ) (ls : List (List ℕ)) → Stands (p ++ unlines ls) (length p) ls
unfolding Stands unlines
stands_from p [] = tt
stands_from p (l ∷ ls) =
    let here : slice (length p) (length p + length l) (p ++ (l ++ (10 ∷ unlines ls))) ≡ l =
    slice_take (length p) (length l) (p ++ (l ++ (10 ∷ unlines ls))) ∙ rw (drop-append_seam, take-append_seam) in
    let q = p ++ (l ++ (10 ∷ [])) in
    let long : length q ≡ length p + length l + 1 = simp length-append (omega arith) in
    let text : q ++ unlines ls ≡ p ++ (l ++ (10 ∷ unlines ls)) = simp append_assoc in
    (here, subst (λ (x : List ℕ). Stands x (length p + length l + 1) ls) text (subst (λ (n : ℕ). Stands (q ++ unlines ls) n ls) long (stands_from q ls)))

pub tables_stand : (s : List ℕ) (ls : List (List ℕ)) (ts : List (List (List ℕ))) → ended (split (eqb 10) s) ≡ some ls → ended (split null ls) ≡ some ts → TablesStand s 0 ts
unfolding LinesOf GroupsStand
tables_stand s ls ts e f =
    let whole : unlines ls ≡ s = rw e at (lines_of s) in
    rw f at (groups_stand s ls 0 (rw (← whole) (stands_from [] ls)))
