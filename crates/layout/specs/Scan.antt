-- A plan line by line, into the words of its tables' rows. Assumes nothing: these are definitions.
use Rattle.std.specs.Prelude.{Some, None, ℕ, ◌+◌, ◌-◌, ◌*◌, ◌%◌, ◌≤◌, ◌≡◌, Bool, true, false, cond, not, ◌&&◌, ◌||◌, List, [], ◌∷◌, ◌++◌, map, eqb, ltb, length, take}
use Rattle.std.proofs.Math.Option.{Option, some, none}
use Rattle.text.specs.Codes.{codes}
use Rattle.text.specs.Split.{null, split, same}
use Rattle.plan.specs.Layout.{only, nested, steps}
use Rattle.rows.specs.Row.{row_words}
use Rattle.rows.specs.View.{block_of}
use Rattle.layout.specs.declared.Filled.{Filled}
use Rattle.std.specs.declared.option.Option as rust

-- the sort of table i: 0 options, 1 files, 2 syms, 3 positions, 4 types, 5 variants, 6 terms, then again and again 7 the term
-- to generate, 8 its bindings, 9 its block
unfoldable pub sort_at : ℕ → ℕ
sort_at i = cond (ltb i 7) i (7 + (i - 7) % 3)

unfoldable pub names : ℕ → List ℕ
names sort =
    cond (eqb sort 0) (codes "nopragmas log split threshold")
    (cond (eqb sort 1) (codes "file")
    (cond (eqb sort 2) (codes "sym")
    (cond (eqb sort 3) (codes "pos")
    (cond (eqb sort 4) (codes "kind name extern nodebug pos list")
    (cond (eqb sort 5) (codes "type name shape list")
    (cond (eqb sort 6) (codes "name pos ret multi partial ctor xtor infallible list")
    (cond (eqb sort 7) (codes "term")
    (cond (eqb sort 8) (codes "kind a b list") (codes "level kind a b list")))))))))

-- the tables, each the words of its rows
abbrev pub Tables : Type 0
Tables = List (List (List ℕ))

unfoldable pub add : Option (List ℕ) → Option Tables → Option Tables
add none p = none
add (some r) none = none
add (some r) (some []) = none
add (some r) (some (t ∷ ts)) = some ((r ∷ t) ∷ ts)

unfoldable pub close : Option Tables → Option Tables
close none = none
close (some ts) = some ([] ∷ ts)

-- what follows the last LF: nothing, where a term may begin
unfoldable pub last : ℕ → Bool → List ℕ → Option Tables
last i inside l = cond (null l && (not inside && eqb (sort_at i) 7)) (some []) none

-- the lines from a place on: those of table i, with its names line if it is not inside, then the tables after it
unfoldable pub scan : ℕ → Bool → ℕ → List (List ℕ) → Option Tables
scan i inside from [] = none
scan i inside from (l ∷ ls) =
    let next = from + length l + 1 in
    let row = add (row_words (sort_at i) from l) (scan i true next ls) in
    let empty = close (scan (i + 1) false next ls) in
    let first = cond (same l (names (sort_at i))) (scan i true next ls) none in
    cond (null ls) (last i inside l) (cond inside (cond (null l) empty row) first)

-- one row of options and one term to generate; the levels of a block nested
unfoldable pub table_shaped : ℕ → List (List ℕ) → Bool
table_shaped sort t = cond (eqb sort 0 || eqb sort 7) (eqb (length t) 1) (cond (eqb sort 9) (nested (steps ∷ []) (map block_of t)) true)

unfoldable pub shaped : ℕ → Tables → Bool
shaped i [] = true
shaped i (t ∷ ts) = table_shaped (sort_at i) t && shaped (i + 1) ts

-- the tables of a plan
unfoldable pub laid_tables : List ℕ → Option Tables
laid_tables s = only (shaped 0) (scan 0 false 0 (split (eqb 10) s))

abbrev pub join : {A : Type 0} → List (List A) → List A
join [] = []
join (r ∷ rs) = r ++ join rs

-- where each list ends in their join, from k on
abbrev pub ends : {A : Type 0} → ℕ → List (List A) → List ℕ
ends k [] = []
ends k (r ∷ rs) = (k + length r) ∷ ends (k + length r) rs

-- the tables' words are in o, the ends of their rows in x, and of the tables in m, each after what stood there before
pub record Done (words : List ℕ) (k : ℕ) (rows : List ℕ) (n : ℕ) (tables : List ℕ) (j : ℕ) (ts : Tables) (k' n' j' : ℕ) (o x m : List ℕ) : Type 0 where
  pub word_end : k' ≡ k + length (join (join ts))
  pub has_words : take k' o ≡ take k words ++ join (join ts)
  pub row_end : n' ≡ n + length (join ts)
  pub has_rows : take (n' + 1) x ≡ take (n + 1) rows ++ ends k (join ts)
  pub table_end : j' ≡ j + length ts
  pub has_tables : take (j' + 1) m ≡ take (j + 1) tables ++ ends n ts

unfoldable pub Fill : List ℕ → ℕ → List ℕ → ℕ → List ℕ → ℕ → Option Tables → rust.Option Filled → List ℕ → List ℕ → List ℕ → Type 0
Fill words k rows n tables j none None o x m = Unit
Fill words k rows n tables j none (Some f) o x m = ⊥
Fill words k rows n tables j (some ts) None o x m = ⊥
Fill words k rows n tables j (some ts) (Some f) o x m = Done words k rows n tables j ts f.words f.rows f.tables o x m

-- no more words than bytes, few rows and tables, and none begun
abbrev pub Whole : ℕ → rust.Option Filled → Type 0
Whole len None = Unit
Whole len (Some f) = (f.words ≤ len) × (2 * f.rows ≤ len) × (4 * f.tables ≤ len) × (sort_at f.tables ≡ 7)
