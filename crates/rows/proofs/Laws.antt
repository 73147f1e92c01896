-- Laws of the rows' words. Assumes nothing.
use Prim.Native.Nat.{ℕ, suc, ◌+◌, ◌≤◌, ◌<◌, ◌/◌}
use native.Mathlib.Omega.{arith}
use native.Mathlib.Numerals.{add-one}
use mathlib.Core.Path.{◌≡◌, refl, ap}
use mathlib.Core.Bool.{true, false}
use mathlib.Core.List.{List, [], ◌∷◌, append-nil, append_assoc}
use mathlib.Core.Option.{Option, some, none}
use lib.Dec.{eqb}
use lib.ListN.{length, drop, get_or, drop_of_length-le}
use lib.Seq.{drop-cons}
use mathlib.Core.Logic.{◌≢◌}
use borrow.Author.Tests.{eq-eqb, ne_eqb}
use Rattle.text.specs.Split.{split, same}
use Rattle.tokens.specs.Token.{place}
use Rattle.plan.specs.Layout.{row}
use Rattle.plan.specs.Layout.{at}
use Rattle.cells.specs.Words.{◌⧺◌, word}
use Rattle.cells.specs.Value.{cell}
use Rattle.cells.specs.Cell.{cell_number}
use Rattle.cells.specs.declared.values.Cell.{Cell}
use Rattle.rows.specs.Cells.{cells}
use Rattle.rows.specs.View.{fields_in}

-- a row of n values, by the count of the columns
module _ (n : ℕ) (read : List (List ℕ) → Option (List ℕ)) (line : List ℕ) where
  pub row_has : length (split (eqb 32) line) ≡ n → row n read line ≡ read (split (eqb 32) line)
  unfolding row
  row_has e = rw (eq-eqb (length (split (eqb 32) line)) n e)

  pub row_lacks : length (split (eqb 32) line) ≢ n → row n read line ≡ none
  unfolding row
  row_lacks e = rw (ne_eqb (length (split (eqb 32) line)) n e)

-- values one after the other

pub before_none : (w : Option (List ℕ)) → some [] ⧺ w ≡ w
unfolding ◌⧺◌
before_none none = refl
before_none (some v) = refl

pub after_none : (w : Option (List ℕ)) → w ⧺ some [] ≡ w
unfolding ◌⧺◌
after_none none = refl
after_none (some v) = ap some (append-nil v)

pub joined : (a b d : Option (List ℕ)) → (a ⧺ b) ⧺ d ≡ a ⧺ (b ⧺ d)
unfolding ◌⧺◌
joined none b d = refl
joined (some u) none d = refl
joined (some u) (some v) none = refl
joined (some u) (some v) (some w) = ap some (append_assoc u v w)

pub cells_more : (cs : List Cell) (vs : List (List ℕ)) (k i : ℕ) (c : Cell) → k < length cs
    → cells (drop k cs) vs i ≡ word (cell (cell_number (get_or cs k c)) (at vs i)) ⧺ cells (drop (k + 1) cs) vs (i + 1)
unfolding cells
cells_more cs vs k i c h = rw (drop-cons cs k c h) (simp add-one)

pub cells_end : (cs : List Cell) (vs : List (List ℕ)) (k i : ℕ) → length cs ≤ k → cells (drop k cs) vs i ≡ some []
unfolding cells
cells_end cs vs k i h = rw (drop_of_length-le cs h)

-- the place of a text among names, name by name

pub place_none : (t : List ℕ) → place [] t ≡ 0
unfolding place
place_none t = refl

pub place_here : (t n : List ℕ) (ns : List (List ℕ)) → same t n ≡ true → place (n ∷ ns) t ≡ 0
unfolding place
place_here t n ns h = rw h

pub place_past : (t n : List ℕ) (ns : List (List ℕ)) (k : ℕ) → same t n ≡ false → place ns t ≡ k → place (n ∷ ns) t ≡ suc k
unfolding place
place_past t n ns k h e = rw h (ap suc e)

-- a named field has two words
pub fields_length : (ws : List ℕ) → length (fields_in ws) ≡ length ws / 2
unfolding fields_in
fields_length [] = refl
fields_length (n ∷ []) = refl
fields_length (n ∷ t ∷ ws) = omega (arith, fields_length ws)
