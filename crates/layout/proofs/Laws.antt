-- Laws of the scan. Assumes nothing.
use Prim.Native.Nat.{ℕ, suc, ◌+◌, ◌-◌, ◌≤◌, ◌<◌}
use mathlib.Core.Path.{◌≡◌, refl, sym, ap, ◌∙◌}
use mathlib.Core.Bool.{Bool, true, false, cond, ◌&&◌}
use mathlib.Core.List.{List, [], ◌∷◌, append-nil, append_assoc}
use mathlib.Core.Option.{Option, some, none}
use native.Mathlib.Omega.{arith}
use native.Mathlib.Numerals.{add-one}
use lib.Dec.{eqb}
use borrow.Author.Tests.{eq-eqb, ne_eqb}
use lib.ListN.{length, take, drop, set, length-append, length-drop, length-take}
use lib.Seq.{take-suc-set, append_snoc}
use Rattle.text.specs.Split.{null, split, same}
use Rattle.tokens.specs.Token.{until}
use Rattle.tokens.proofs.Laws.{parts_some, split_more, split_last}
use Rattle.cells.specs.Words.{Holds, Wrote}
use denote.Enum.Bare.{sameb}
use Rattle.rows.specs.contracts.Table.{the_type}
use Rattle.rows.specs.declared.Table.{Table}
use Rattle.rows.specs.declared.Table.TheVariants.{Options, File, Sym, Pos, Types, Variants, Terms, Generated, Bindings, Block}
use Rattle.rows.specs.Table.{table_number}
use Rattle.rows.specs.Row.{row_words, header, Within}
use Rattle.rows.proofs.Size.{sized_words}
use Rattle.layout.specs.Scan.{Tables, sort_at, names, add, close, last, scan, Fill}
use Rattle.layout.specs.Filling.{Written}
use Rattle.layout.specs.declared.Filled.{Filled}
use Rattle.std.specs.declared.option.Option as rust
use Rattle.std.specs.Prelude.{Some, None}

module _ (old new : List ℕ) (k hi : ℕ) (room : k + hi ≤ length old) where
  row_absent : (lo : ℕ) (w : Option (List ℕ)) (r : rust.Option ℕ) → Within lo hi w → Holds old (Some k) w r new → r ≡ None → w ≡ none
  unfolding Within Holds
  row_absent lo none r s h e = refl
  row_absent lo (some ws) r s h e = let z : ◌≡◌ {A = ℕ} 0 1 = cc (h (omega arith)).0 in absurd (omega arith)

  row_present : (lo m : ℕ) (w : Option (List ℕ)) (r : rust.Option ℕ) → Within lo hi w → Holds old (Some k) w r new → r ≡ Some m → Written old k w m new × (m ≤ k + hi)
  unfolding Within Holds Written
  row_present lo m none r s h e = let z : ◌≡◌ {A = ℕ} 0 1 = cc in absurd (omega arith)
  row_present lo m (some ws) r s h e =
      let g = h (omega arith) in
      let q : m ≡ k + length ws = cc g.0 in
      ((q, rw q g.1), omega arith)

module _ (old new : List ℕ) (k sort from : ℕ) (line : List ℕ) (r : rust.Option ℕ) (some_byte : 0 < length line) (room : k + length line + 1 ≤ length old) (wrote : Wrote old (Some k) (row_words sort from line) r new) where
  pub row_none : r ≡ None → row_words sort from line ≡ none
  row_none e = row_absent old new k (length line + 1) (omega arith) (header sort) _ r (sized_words sort from line some_byte).holds wrote.holds e

  pub row_some : (w : ℕ) → r ≡ Some w → Written old k (row_words sort from line) w new × (w ≤ k + (length line + 1))
  row_some w e = row_present old new k (length line + 1) (omega arith) (header sort) w _ r (sized_words sort from line some_byte).holds wrote.holds e

null_some : {A : Type 0} (xs : List A) → 0 < length xs → null xs ≡ false
null_some [] h = absurd (omega arith)
null_some (x ∷ xs) h = refl

-- the lines from a place on, by the line up to the LF at e
module _ (s : List ℕ) (at e j : ℕ) (here : e ≡ at + until 10 (drop at s)) where
  pub scan_last : (b : Bool) → e ≡ length s → scan j b at (split (eqb 10) (drop at s)) ≡ last j b (take (e - at) (drop at s))
  unfolding scan
  scan_last b h = rw (split_last 10 s at e here h)

  module _ (h : e < length s) where
    pub line_length : length (take (e - at) (drop at s)) ≡ e - at
    line_length = rw (length-take, length-drop) (omega arith)

    next_line : at + length (take (e - at) (drop at s)) + 1 ≡ e + 1
    next_line = rw line_length (omega arith)

    pub scan_empty : e ≡ at → scan j true at (split (eqb 10) (drop at s)) ≡ close (scan (j + 1) false (e + 1) (split (eqb 10) (drop (e + 1) s)))
    unfolding scan
    scan_empty g =
        let z : e - at ≡ 0 = omega arith in
        let n : null (take (e - at) (drop at s)) ≡ true = rw z in
        rw (split_more 10 s at e here h, null_some _ (parts_some (eqb 10) (drop (e + 1) s)), n, next_line)

    pub scan_row : (e ≡ at → ⊥) → scan j true at (split (eqb 10) (drop at s)) ≡ add (row_words (sort_at j) at (take (e - at) (drop at s))) (scan j true (e + 1) (split (eqb 10) (drop (e + 1) s)))
    unfolding scan
    scan_row g =
        let l : 0 < length (take (e - at) (drop at s)) = rw line_length (omega arith) in
        rw (split_more 10 s at e here h, null_some _ (parts_some (eqb 10) (drop (e + 1) s)), null_some _ l, next_line)

    pub scan_first : same (take (e - at) (drop at s)) (names (sort_at j)) ≡ true → scan j false at (split (eqb 10) (drop at s)) ≡ scan j true (e + 1) (split (eqb 10) (drop (e + 1) s))
    unfolding scan
    scan_first g = rw (split_more 10 s at e here h, null_some _ (parts_some (eqb 10) (drop (e + 1) s)), g, next_line)

    pub scan_other : same (take (e - at) (drop at s)) (names (sort_at j)) ≡ false → scan j false at (split (eqb 10) (drop at s)) ≡ none
    unfolding scan
    scan_other g = rw (split_more 10 s at e here h, null_some _ (parts_some (eqb 10) (drop (e + 1) s)), g)

-- inside a table there is one
abbrev pub Inside : Option Tables → Type 0
Inside none = Unit
Inside (some []) = ⊥
Inside (some (t ∷ ts)) = Unit

inside_add : (w : Option (List ℕ)) (p : Option Tables) → Inside p → Inside (add w p)
unfolding add
inside_add none p h = tt
inside_add (some r) none h = tt
inside_add (some r) (some []) h = tt
inside_add (some r) (some (t ∷ ts)) h = tt

inside_close : (p : Option Tables) → Inside (close p)
unfolding close
inside_close none = tt
inside_close (some ts) = tt

pub scan_inside : (ls : List (List ℕ)) (i at : ℕ) → Inside (scan i true at ls)
unfolding scan last
scan_inside [] i at = tt
scan_inside (l ∷ ls) i at =
    by_test (null ls) (null l) (close (scan (i + 1) false (at + length l + 1) ls)) (add (row_words (sort_at i) at l) (scan i true (at + length l + 1) ls))
    (inside_close (scan (i + 1) false (at + length l + 1) ls)) (inside_add (row_words (sort_at i) at l) (scan i true (at + length l + 1) ls) (scan_inside ls i (at + length l + 1))) where
      by_last : (b : Bool) → Inside (cond (b && false) (some []) none)
      by_last true = tt
      by_last false = tt

      by_test : (b c : Bool) (p q : Option Tables) → Inside p → Inside q → Inside (cond b (cond (null l && false) (some []) none) (cond c p q))
      by_test true c p q h g = by_last (null l)
      by_test false true p q h g = h
      by_test false false p q h g = g

pub fill_none : (out : List ℕ) (k : ℕ) (index : List ℕ) (n : ℕ) (marks : List ℕ) (j : ℕ) → Fill out k index n marks j (some []) (Some (record { words = k; rows = n; tables = j })) out index marks
unfolding Fill
fill_none out k index n marks j = record {
  word_end = omega arith;
  has_words = sym (append-nil _);
  row_end = omega arith;
  has_rows = sym (append-nil _);
  table_end = omega arith;
  has_tables = sym (append-nil _);
}

pub fill_close : (out : List ℕ) (k : ℕ) (index : List ℕ) (n : ℕ) (marks : List ℕ) (j : ℕ) (p : Option Tables) (r : rust.Option Filled) (o x m : List ℕ) → j + 1 < length marks
    → Fill out k index n (set marks (j + 1) n) (j + 1) p r o x m → Fill out k index n marks j (close p) r o x m
unfolding Fill close
fill_close out k index n marks j none None o x m h f = f
fill_close out k index n marks j none (Some f') o x m h f = f
fill_close out k index n marks j (some ts) None o x m h f = f
fill_close out k index n marks j (some ts) (Some f') o x m h f =
    let z : n + 0 ≡ n = omega arith in
    record {
      word_end = f.word_end;
      has_words = f.has_words;
      row_end = f.row_end;
      has_rows = f.has_rows;
      table_end = omega (arith, f.table_end);
      has_tables = f.has_tables ∙ rw (z, add-one (j + 1), take-suc-set, append_snoc);
    }

pub fill_add : (out out' : List ℕ) (k w : ℕ) (index : List ℕ) (n : ℕ) (marks : List ℕ) (j : ℕ) (b : Option (List ℕ)) (p : Option Tables) (r : rust.Option Filled) (o x m : List ℕ)
    → Inside p → Written out k b w out' → n + 1 < length index
    → Fill out' w (set index (n + 1) w) (n + 1) marks j p r o x m → Fill out k index n marks j (add b p) r o x m
unfolding Fill add Written
fill_add out out' k w index n marks j none p r o x m i q h f = absurd q
fill_add out out' k w index n marks j (some ws) none None o x m i q h f = f
fill_add out out' k w index n marks j (some ws) none (Some f') o x m i q h f = f
fill_add out out' k w index n marks j (some ws) (some []) r o x m i q h f = absurd i
fill_add out out' k w index n marks j (some ws) (some (t ∷ ts)) None o x m i q h f = f
fill_add out out' k w index n marks j (some ws) (some (t ∷ ts)) (Some f') o x m i (q, v) h f =
    let z : n + suc (length t) ≡ n + 1 + length t = omega arith in
    record {
      word_end = simp length-append (omega (arith, f.word_end));
      has_words = f.has_words ∙ rw (v, append_assoc);
      row_end = omega (arith, f.row_end);
      has_rows = f.has_rows ∙ rw (← q, add-one (n + 1), take-suc-set, append_snoc);
      table_end = omega (arith, f.table_end);
      has_tables = f.has_tables ∙ rw z;
    }

-- what follows the last LF
last_not : (b : Bool) → ◌≡◌ {A = Option Tables} (cond (b && false) (some []) none) none
last_not true = refl
last_not false = refl

-- the text's end at e
module _ (s : List ℕ) (at e j : ℕ) (here : e ≡ at + until 10 (drop at s)) (h : e ≡ length s) where
  pub end_text : (b : Bool) → (e ≡ at → ⊥) → scan j b at (split (eqb 10) (drop at s)) ≡ none
  unfolding last
  end_text b g =
      let l : 0 < length (take (e - at) (drop at s)) = rw (length-take, length-drop) (omega arith) in
      scan_last s at e j here b h ∙ rw (null_some _ l)

  pub end_inside : scan j true at (split (eqb 10) (drop at s)) ≡ none
  unfolding last
  end_inside = scan_last s at e j here true h ∙ last_not (null (take (e - at) (drop at s)))

  pub end_kind : (b : Bool) → b ≡ false → (sort_at j ≡ 7 → ⊥) → scan j b at (split (eqb 10) (drop at s)) ≡ none
  unfolding last
  end_kind b p g = scan_last s at e j here b h ∙ rw (ne_eqb _ _ g, p) (last_not (null (take (e - at) (drop at s))))

  pub end_here : e ≡ at → sort_at j ≡ 7 → scan j false at (split (eqb 10) (drop at s)) ≡ some []
  unfolding last
  end_here g p =
      let z : e - at ≡ 0 = omega arith in
      scan_last s at e j here false h ∙ rw (eq-eqb _ _ p, z)

-- a names line has three bytes
names_long : (sort : ℕ) → 3 ≤ length (names sort)
unfolding names
names_long sort =
    pick (eqb sort 0) _ _ (omega arith) (pick (eqb sort 1) _ _ (omega arith) (pick (eqb sort 2) _ _ (omega arith) (pick (eqb sort 3) _ _ (omega arith)
    (pick (eqb sort 4) _ _ (omega arith) (pick (eqb sort 5) _ _ (omega arith) (pick (eqb sort 6) _ _ (omega arith) (pick (eqb sort 7) _ _ (omega arith)
    (pick (eqb sort 8) _ _ (omega arith) (omega arith))))))))) where
      pick : (b : Bool) (s t : List ℕ) → 3 ≤ length s → 3 ≤ length t → 3 ≤ length (cond b s t)
      pick true s t h g = h
      pick false s t h g = g

same_length : (s t : List ℕ) → same s t ≡ true → length s ≡ length t
unfolding same
same_length [] [] h = refl
same_length [] (d ∷ t) h = let z : ◌≡◌ {A = ℕ} 0 1 = cc in absurd (omega arith)
same_length (c ∷ s) [] h = let z : ◌≡◌ {A = ℕ} 0 1 = cc in absurd (omega arith)
same_length (c ∷ s) (d ∷ t) h = by_test (eqb c d) h (λ g. same_length s t g) where
  by_test : (b : Bool) → (b && same s t) ≡ true → (same s t ≡ true → length s ≡ length t) → suc (length s) ≡ suc (length t)
  by_test true h more = ap suc (more h)
  by_test false h more = let z : ◌≡◌ {A = ℕ} 0 1 = cc in absurd (omega arith)

pub first_long : (l : List ℕ) (sort : ℕ) → same l (names sort) ≡ true → 3 ≤ length l
first_long l sort h = omega (arith, same_length l (names sort) h, names_long sort)

-- the tables of generated terms, by their sort
pub is_generated : (t : Table) → sameb the_type t Generated ≡ eqb (table_number t) 7
is_generated Options = refl
is_generated File = refl
is_generated Sym = refl
is_generated Pos = refl
is_generated Types = refl
is_generated Variants = refl
is_generated Terms = refl
is_generated Generated = refl
is_generated Bindings = refl
is_generated Block = refl
