-- Laws of the rows and tables that the buffers hold. Assumes nothing.
use Prim.Native.Nat.{ℕ, zero, suc, ◌+◌, ◌-◌, ◌≤◌, ◌<◌, min}
use mathlib.Core.Path.{◌≡◌, refl, sym, ap, ◌∙◌}
use mathlib.Core.Logic.{inl, inr}
use mathlib.Core.Bool.{Bool, true, false}
use mathlib.Core.List.{List, [], ◌∷◌}
use lib.Dec.{ltb}
use borrow.Author.Tests.{ltb-true, ltb-false}
use native.Mathlib.Omega.{arith}
use lib.ListN.{length, take, drop, get_or, length-take, drop_of_length-le, get_or-eq_default}
use lib.Seq.{slice, take_all, take-nil}
use Rattle.std.specs.Prelude.{Option, Some, None}
use Rattle.std.specs.Option.{unwrap_or}
use Rattle.std.proofs.Common.{Bor}
use Rattle.std.specs.Slice.{IsGetRangeResult}
use Rattle.layout.specs.View.{cut, cuts}
use Rattle.view.specs.Tables.{table_rows, tables_from}

-- past the end of an index
pub past : (index : List ℕ) (i : ℕ) → length index ≤ i → 0 ≡ get_or index i 0
past index i h = sym (get_or-eq_default index 0 h)

module _ (words rows : List ℕ) (r : ℕ) where
  -- no row
  pub cut_past : length rows ≤ r → cut words rows r ≡ []
  unfolding cut
  cut_past h = rw (← past rows r h, ← past rows (r + 1) (omega arith))

module _ {A : Type 0} (xs : List A) (index : List ℕ) where
  pub cuts_length : (i n : ℕ) → length (cuts xs index i n) ≡ n
  unfolding cuts
  cuts_length i zero = refl
  cuts_length i (suc n) = ap suc (cuts_length (i + 1) n)

  pub cuts_at : (i n k : ℕ) → k < n → get_or (cuts xs index i n) k [] ≡ cut xs index (i + k)
  unfolding cuts
  cuts_at i zero k h = absurd (omega arith)
  cuts_at i (suc n) zero h = let z : i + zero ≡ i = omega arith in rw z
  cuts_at i (suc n) (suc k) h = let z : i + suc k ≡ i + 1 + k = omega arith in rw z (cuts_at (i + 1) n k (omega arith))

  -- a list of rows, by its first row
  pub cuts_next : (i m : ℕ) → i < m → cuts xs index i (m - i) ≡ cut xs index i ∷ cuts xs index (i + 1) (m - (i + 1))
  unfolding cuts
  cuts_next i m h = let z : m - i ≡ suc (m - (i + 1)) = omega arith in rw z refl

  pub cuts_none : (i m : ℕ) → m ≤ i → cuts xs index i (m - i) ≡ []
  unfolding cuts
  cuts_none i m h = let z : m - i ≡ 0 = omega arith in rw z refl

module _ (words rows tables : List ℕ) where
  pub table_length : (t : ℕ) → length (table_rows words rows tables t) ≡ get_or tables (t + 1) 0 - get_or tables t 0
  unfolding table_rows
  table_length t = cuts_length words rows (get_or tables t 0) (get_or tables (t + 1) 0 - get_or tables t 0)

  pub table_at : (t i : ℕ) → i < length (table_rows words rows tables t) → cut words rows (get_or tables t 0 + i) ≡ get_or (table_rows words rows tables t) i []
  unfolding table_rows
  table_at t i h = sym (cuts_at words rows (get_or tables t 0) (get_or tables (t + 1) 0 - get_or tables t 0) i (omega (arith, table_length t)))

  pub table_past : (t i : ℕ) → length (table_rows words rows tables t) ≤ i → cut words rows (length rows) ≡ get_or (table_rows words rows tables t) i []
  table_past t i h = cut_past words rows (length rows) (omega arith) ∙ sym (get_or-eq_default (table_rows words rows tables t) [] h)

  pub tables_at : (t n k : ℕ) → k < n → get_or (tables_from words rows tables t n) k [] ≡ table_rows words rows tables (t + k)
  unfolding tables_from
  tables_at t zero k h = absurd (omega arith)
  tables_at t (suc n) zero h = let z : t + zero ≡ t = omega arith in rw z
  tables_at t (suc n) (suc k) h = let z : t + suc k ≡ t + 1 + k = omega arith in rw z (tables_at (t + 1) n k (omega arith))

  pub tables_length : (t n : ℕ) → length (tables_from words rows tables t n) ≡ n
  unfolding tables_from
  tables_length t zero = refl
  tables_length t (suc n) = ap suc (tables_length (t + 1) n)

-- PARTS

-- the words after the first of a row, also where it has fewer
pub drop_min : (n : ℕ) (l : List ℕ) → drop (min n (length l)) l ≡ drop n l
drop_min n l = by_test (ltb n (length l)) refl where
  by_test : (t : Bool) → ltb n (length l) ≡ t → drop (min n (length l)) l ≡ drop n l
  by_test true h = let g = ltb-true n (length l) h in let z : min n (length l) ≡ n = omega arith in rw z
  by_test false h =
      let g = ltb-false n (length l) h in
      let z : min n (length l) ≡ length l = omega arith in
      rw z (drop_of_length-le l (omega arith) ∙ sym (drop_of_length-le l g))

take_min : (b : ℕ) (l : List ℕ) → take (min b (length l)) l ≡ take b l
take_min b l = by_test (ltb b (length l)) refl where
  by_test : (t : Bool) → ltb b (length l) ≡ t → take (min b (length l)) l ≡ take b l
  by_test true h = let g = ltb-true b (length l) h in let z : min b (length l) ≡ b = omega arith in rw z
  by_test false h =
      let g = ltb-false b (length l) h in
      let z : min b (length l) ≡ length l = omega arith in
      rw z (take_all (length l) l (omega arith) ∙ sym (take_all b l g))

-- a part of a slice
part_slice : (a b : ℕ) (l : List ℕ) → a ≤ b → take (b - a) (drop a l) ≡ slice a b l
part_slice zero b l h = let z : b - 0 ≡ b = omega arith in rw z
part_slice (suc a) zero l h = absurd (omega arith)
part_slice (suc a) (suc b) [] h = take-nil (suc b - suc a)
part_slice (suc a) (suc b) (x ∷ l) h = let z : suc b - suc a ≡ b - a = omega arith in rw z (part_slice a b l (omega arith))

-- a part whose end may lie past the slice's, or before its start
module _ (l : List ℕ) (a b from to : ℕ) (p : from ≡ a) (q : to ≡ min b (length l)) where
  same_slice : slice from to l ≡ slice a b l
  same_slice = rw (p, q, take_min b l) refl

  part_is : from ≤ to → take (to - from) (drop from l) ≡ slice a b l
  part_is h = part_slice from to l h ∙ same_slice

  part_none : to < from → [] ≡ slice a b l
  part_none h =
      let s : length (take to l) ≤ from = rw length-take (omega arith) in
      sym (drop_of_length-le (take to l) s) ∙ same_slice

  pub part_found : (r : Option (Bor (List ℕ))) (d : Bor (List ℕ)) → d.now ≡ [] → IsGetRangeResult l from to r → (unwrap_or r d).now ≡ slice a b l
  part_found None d e (inl h, g) = e ∙ part_none h
  part_found None d e (inr h, g) = absurd (omega arith)
  part_found (Some x) d e (h, g) = h.2 ∙ part_is h.0
