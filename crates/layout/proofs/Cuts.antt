-- An index of ends cuts a join into its lists; so the buffers hold the tables. Assumes nothing.
use Prim.Native.Nat.{ℕ, zero, suc, ◌+◌, ◌≤◌, ◌<◌}
use mathlib.Core.Path.{◌≡◌, refl, sym, ap, ◌∙◌}
use mathlib.Core.List.{List, [], ◌∷◌, ◌++◌}
use native.Mathlib.Omega.{arith}
use native.Mathlib.Nat.{add-zero}
use lib.ListN.{length, take, drop, get_or, length-append}
use lib.Seq.{slice, take-take, take-append_seam, take-add, take-length, drop-append_seam, drop-drop, get_or-take, get_or-drop}
use Rattle.layout.specs.Scan.{Tables, join, ends, Done}
use Rattle.layout.specs.View.{cut, cuts, tables_of, Indexed}

module _ {A : Type 0} where
  nil : (m : ℕ) → ◌≡◌ {A = List A} (take m []) []
  nil zero = refl
  nil (suc m) = refl

  pub slice_take : (a n : ℕ) (l : List A) → slice a (a + n) l ≡ take n (drop a l)
  slice_take zero n l = let z : zero + n ≡ n = omega arith in rw z
  slice_take (suc a) n [] = let z : suc a + n ≡ suc (a + n) = omega arith in rw z (sym (nil n))
  slice_take (suc a) n (x ∷ l) = let z : suc a + n ≡ suc (a + n) = omega arith in rw z (slice_take a n l)

  first_part : (r j x : List A) → take (length r + length j) x ≡ r ++ j → take (length r) x ≡ r
  first_part r j x h = sym (take-take (length r) (length r + length j) x (omega arith)) ∙ ap (take (length r)) h ∙ take-append_seam r j

  other_part : (r j x : List A) → take (length r + length j) x ≡ r ++ j → take (length j) (drop (length r) x) ≡ j
  other_part r j x h =
      sym (drop-append_seam r (take (length j) (drop (length r) x)))
      ∙ ap (drop (length r)) (ap (λ (l : List A). l ++ take (length j) (drop (length r) x)) (sym (first_part r j x h)) ∙ sym (take-add (length r) (length j) x) ∙ h)
      ∙ drop-append_seam r j

  -- an index from i on that holds where the lists from a on start
  abbrev Starts : List ℕ → ℕ → ℕ → List (List A) → Type 0
  Starts index i a [] = get_or index i 0 ≡ a
  Starts index i a (r ∷ rs) = (get_or index i 0 ≡ a) × Starts index (i + 1) (a + length r) rs

  starts_here : (index : List ℕ) (i a : ℕ) (rs : List (List A)) → Starts index i a rs → get_or index i 0 ≡ a
  starts_here index i a [] h = h
  starts_here index i a (r ∷ rs) h = h.0

  cut_join : (xs : List A) (index : List ℕ) (i a : ℕ) (rs : List (List A)) → Starts index i a rs → take (length (join rs)) (drop a xs) ≡ join rs
      → cuts xs index i (length rs) ≡ rs
  unfolding cuts cut
  cut_join xs index i a [] s w = refl
  cut_join xs index i a (r ∷ rs) s w =
      let w' : take (length r + length (join rs)) (drop a xs) ≡ r ++ join rs = rw (← length-append r (join rs)) w in
      let d : drop (length r) (drop a xs) ≡ drop (a + length r) xs = drop-drop (length r) a xs in
      let f : slice (get_or index i 0) (get_or index (i + 1) 0) xs ≡ r = rw (s.0, starts_here index (i + 1) (a + length r) rs s.1, slice_take a (length r) xs) (first_part r (join rs) _ w') in
      rw (f, cut_join xs index (i + 1) (a + length r) rs s.1 (rw (← d) (other_part r (join rs) _ w')))

  starts_ordered : (index : List ℕ) (i a : ℕ) (rs : List (List A)) → Starts index i a rs → (t : ℕ) → t < length rs
      → (get_or index (i + t) 0 ≤ get_or index (i + t + 1) 0) × (get_or index (i + t + 1) 0 ≤ a + length (join rs))
  starts_ordered index i a [] s t h = absurd (omega arith)
  starts_ordered index i a (r ∷ rs) s zero h =
      let z : i + zero ≡ i = omega arith in
      let g = starts_here index (i + 1) (a + length r) rs s.1 in
      rw (z, s.0, g, length-append) (omega arith, omega arith)
  starts_ordered index i a (r ∷ rs) s (suc t) h =
      let z : i + suc t ≡ i + 1 + t = omega arith in
      let g = starts_ordered index (i + 1) (a + length r) rs s.1 t (omega arith) in
      rw (z, length-append) (g.0, omega (arith, g.1))

at_place : (index : List ℕ) (i a n : ℕ) (l : List ℕ) → take (1 + n) (drop i index) ≡ a ∷ l → get_or index i 0 ≡ a
at_place index i a n l h =
    ap (λ (k : ℕ). get_or index k 0) (sym (add-zero i)) ∙ sym (get_or-drop i index 0 0) ∙ sym (get_or-take (1 + n) (drop i index) 0 0 (omega arith)) ∙ ap (λ (l : List ℕ). get_or l 0 0) h

module _ {A : Type 0} where
  starts_of : (index : List ℕ) (i a : ℕ) (rs : List (List A)) → take (1 + length rs) (drop i index) ≡ a ∷ ends a rs → Starts index i a rs
  starts_of index i a [] h = at_place index i a 0 [] h
  starts_of index i a (r ∷ rs) h =
      let n = 1 + length rs in
      let e : 1 + suc (length rs) ≡ 1 + n = omega arith in
      let h' : take (1 + n) (drop i index) ≡ a ∷ ends a (r ∷ rs) = rw (← e) h in (
        at_place index i a n _ h',
        starts_of index (i + 1) (a + length r) rs (ap (take n) (sym (drop-drop 1 i index)) ∙ sym (slice_take 1 n (drop i index)) ∙ ap (drop 1) h'),
      )

-- buffers filled from their fronts
pub tables_are : {out₀ index₀ marks₀ : List ℕ} {ts : Tables} {k n j : ℕ} {o x m : List ℕ}
    → Done out₀ 0 index₀ 0 marks₀ 0 ts k n j o x m → take 1 index₀ ≡ 0 ∷ [] → take 1 marks₀ ≡ 0 ∷ [] → tables_of o x m n j ≡ ts
unfolding tables_of
tables_are {ts = ts} {k = k} {n = n} {j = j} {o = o} {x = x} {m = m} d p q =
    let kw : k ≡ length (join (join ts)) = omega (arith, d.word_end) in
    let nr : n ≡ length (join ts) = omega (arith, d.row_end) in
    let jt : j ≡ length ts = omega (arith, d.table_end) in
    let n1 : 1 + length (join ts) ≡ n + 1 = omega arith in
    let j1 : 1 + length ts ≡ j + 1 = omega arith in
    let rows : cuts o x 0 n ≡ join ts = rw nr (cut_join o x 0 0 (join ts) (starts_of x 0 0 (join ts) (rw n1 (d.has_rows ∙ rw p))) (rw (← kw) d.has_words)) in
    rw (rows, jt) (cut_join (join ts) m 0 0 ts (starts_of m 0 0 ts (rw j1 (d.has_tables ∙ rw q))) (take-length (join ts)))

pub indexed : {out₀ index₀ marks₀ : List ℕ} {ts : Tables} {k n j : ℕ} {o x m : List ℕ}
    → Done out₀ 0 index₀ 0 marks₀ 0 ts k n j o x m → take 1 marks₀ ≡ 0 ∷ [] → Indexed m n j
indexed {ts = ts} {n = n} {j = j} {m = m} d q =
    let nr : n ≡ length (join ts) = omega (arith, d.row_end) in
    let jt : j ≡ length ts = omega (arith, d.table_end) in
    let j1 : 1 + length ts ≡ j + 1 = omega arith in
    let st = starts_of m 0 0 ts (rw j1 (d.has_tables ∙ rw q)) in
    record { ordered = λ t h. ordered_at t (starts_ordered m 0 0 ts st t (omega arith)).0; inside = λ t h. inside_at t nr (starts_ordered m 0 0 ts st t (omega arith)).1 } where
      ordered_at : (t : ℕ) → get_or m (0 + t) 0 ≤ get_or m (0 + t + 1) 0 → get_or m t 0 ≤ get_or m (t + 1) 0
      ordered_at t h = let z : 0 + t ≡ t = omega arith in rw z at h

      inside_at : (t : ℕ) → n ≡ length (join ts) → get_or m (0 + t + 1) 0 ≤ 0 + length (join ts) → get_or m (t + 1) 0 ≤ n
      inside_at t e h = let z : 0 + t ≡ t = omega arith in rw (e, ← z) (omega (arith, h))
