-- Laws of the buffers as they are filled. Assumes nothing.
use Rattle.std.specs.Prelude.{None, ℕ, ◌+◌, ◌<◌, Bool, true, false, List, [], eqb, length, drop}
use Rattle.std.proofs.Common.{arith, eqb-true}
use Rattle.std.proofs.lemmas.Bool.{eqb-false}
use Rattle.std.proofs.Math.Seq.{drop-length}
use Rattle.std.specs.Bool.{then_some}
use Rattle.tokens.specs.Token.{until}
use Rattle.std.proofs.Math.Path.{◌≡◌, refl}
use Rattle.std.proofs.Math.Option.{Option, some, none}
use Rattle.text.specs.Split.{split}
use Rattle.layout.specs.Scan.{Tables, sort_at, add, close, scan, Fill}
use Rattle.layout.specs.Filling.{PutRow, Ended, Leads, rest}
use Rattle.layout.specs.declared.Buffers.{Buffers}
use Rattle.layout.proofs.Laws.{Inside, fill_none, fill_close, fill_add, end_kind, end_here}

-- only where there are no tables is nothing filled
filled_none : (k n j : ℕ) (words rows tables : List ℕ) (p : Option Tables) (o x m : List ℕ) → Fill words k rows n tables j p None o x m → p ≡ none
unfolding Fill
filled_none k n j words rows tables none o x m f = refl
filled_none k n j words rows tables (some ts) o x m f = absurd f

pub nothing_filled : (k n j : ℕ) (words rows tables : List ℕ) (p : Option Tables) (o x m : List ℕ) → p ≡ none → Fill words k rows n tables j p None o x m
unfolding Fill
nothing_filled k n j words rows tables p o x m e = rw e tt

pub leads_none : (b : Buffers) (p : Option Tables) (b' : Buffers) (p' : Option Tables) → Leads b p b' p' → p' ≡ none → p ≡ none
leads_none b p b' p' l e = filled_none _ _ _ _ _ _ p [] [] [] (l None [] [] [] (nothing_filled _ _ _ _ _ _ p' [] [] [] e))

pub end_leads : (b b' : Buffers) → Ended b b' → b.filled.tables + 1 < length b.tables.now → (s : List ℕ) (next : ℕ)
    → Leads b (close (scan (b.filled.tables + 1) false next (split (eqb 10) (drop next s)))) b' (rest s next b')
end_leads b b' e h s next r o x m t = fill_close _ _ _ _ _ _ _ r o x m h (rw (e.words, e.word_end, e.rows, e.row_end, e.has_table, e.table_end) at t)

pub put_leads : (b b' : Buffers) (row : Option (List ℕ)) (bytes : ℕ) → PutRow b b' row bytes → b.filled.rows + 1 < length b.rows.now → (p : Option Tables) → Inside p
    → Leads b (add row p) b' p
put_leads b b' row bytes q h p i r o x m t = fill_add _ _ _ _ _ _ _ _ row p r o x m i q.words h (rw (q.has_row, q.row_end, q.has_tables, q.table_end) at t)

-- at the text's end: all is read where a term may begin
pub filled_at_end : (s : List ℕ) (at : ℕ) (b : Buffers) → at ≡ length s → Fill b.words.now b.filled.words b.rows.now b.filled.rows b.tables.now b.filled.tables (rest s at b)
    (then_some (eqb (sort_at b.filled.tables) 7) b.filled) b.words.now b.rows.now b.tables.now
unfolding until
filled_at_end s at b e = by_test (eqb (sort_at b.filled.tables) 7) refl where
  here : at ≡ at + until 10 (drop at s)
  here = let z : drop at s ≡ [] = rw e (drop-length s) in rw z (omega arith)

  by_test : (t : Bool) → eqb (sort_at b.filled.tables) 7 ≡ t → Fill b.words.now b.filled.words b.rows.now b.filled.rows b.tables.now b.filled.tables (rest s at b) (then_some t b.filled) b.words.now b.rows.now b.tables.now
  by_test true q = rw (end_here s at at b.filled.tables here e refl (eqb-true _ _ q)) (fill_none _ _ _ _ _ _)
  by_test false q = nothing_filled _ _ _ _ _ _ _ _ _ _ (end_kind s at at b.filled.tables here e false refl (eqb-false _ _ q))
