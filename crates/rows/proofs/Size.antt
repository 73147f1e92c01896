-- How many words a row has: no fewer than its header, no more than its line has bytes with its LF. Assumes nothing.
use Prim.Native.Nat.{ℕ, zero, suc, ◌+◌, ◌-◌, ◌≤◌, ◌<◌}
use mathlib.Core.Path.{◌≡◌, refl}
use mathlib.Core.Bool.{Bool, true, false, cond}
use mathlib.Core.List.{List, [], ◌∷◌}
use mathlib.Core.Option.{Option, some, none}
use native.Mathlib.Omega.{arith}
use lib.Dec.{eqb}
use lib.ListN.{length, get_or, drop, length-append}
use borrow.Author.Tests.{eqb-true, eqb-false}
use Rattle.text.specs.Split.{push, split, same}
use Rattle.plan.specs.Layout.{◌⊛◌, number, is, unused, bit, only, number_to, function_kind, field, pattern_binding, row, at}
use Rattle.tokens.proofs.Laws.{parts_some}
use Rattle.cells.specs.Words.{◌⧺◌, word}
use Rattle.cells.specs.Value.{threshold, cell, Wide, wide_words, integer, wide}
use Rattle.cells.proofs.lists.Laws.{field_two, field_other}
use Rattle.cells.specs.Items.{pattern_word, field_words, item, items, list_words}
use Rattle.rows.specs.Row.{options_words, type_words, variant_words, term_words, generated_words, binding_words, block_words, text_words, row_words, header, Within, Sized}

-- the bytes of parts
unfoldable total : List (List ℕ) → ℕ
total [] = 0
total (p ∷ ps) = length p + total ps

split_total : (b : ℕ) (s : List ℕ) → total (split (eqb b) s) + length (split (eqb b) s) ≡ length s + 1
unfolding split total
split_total b [] = omega arith
split_total b (c ∷ s) = by_test (eqb b c) (split (eqb b) s) (parts_some (eqb b) s) (split_total b s) where
  by_test : (t : Bool) (ps : List (List ℕ)) → 0 < length ps → total ps + length ps ≡ length s + 1
      → total (cond t ([] ∷ ps) (push c ps)) + length (cond t ([] ∷ ps) (push c ps)) ≡ suc (length s) + 1
  by_test true ps h e = omega arith
  by_test false [] h e = absurd (omega arith)
  by_test false (p ∷ ps) h e = omega arith

total_from : (vs : List (List ℕ)) (i : ℕ) → total (drop i vs) ≡ length (at vs i) + total (drop (suc i) vs)
unfolding total
total_from [] zero = refl
total_from [] (suc i) = refl
total_from (v ∷ vs) zero = refl
total_from (v ∷ vs) (suc i) = total_from vs i

-- words after words
within_then : (a b c d : ℕ) (v w : Option (List ℕ)) → Within a b v → Within c d w → Within (a + c) (b + d) (v ⧺ w)
unfolding Within ◌⧺◌
within_then a b c d none w h g = tt
within_then a b c d (some v) none h g = tt
within_then a b c d (some v) (some w) h g = simp length-append (omega arith, omega arith)

infixr 25 ◌⊞◌
◌⊞◌ : {a b c d : ℕ} {v w : Option (List ℕ)} → Sized a b v → Sized c d w → Sized (a + c) (b + d) (v ⧺ w)
h ⊞ g = record { holds = within_then _ _ _ _ _ _ h.holds g.holds }

within_more : (a b c d : ℕ) (w : Option (List ℕ)) → c ≤ a → b ≤ d → Within a b w → Within c d w
unfolding Within
within_more a b c d none h g s = tt
within_more a b c d (some w) h g s = (omega arith, omega arith)

pub sized_within : {a b : ℕ} {w : Option (List ℕ)} (c d : ℕ) → c ≤ a → b ≤ d → Sized a b w → Sized c d w
sized_within c d h g s = record { holds = within_more _ _ c d _ h g s.holds }

no_words : {lo hi : ℕ} → Sized lo hi none
unfolding Within
no_words = record { holds = tt }

words : (lo hi : ℕ) (ws : List ℕ) → lo ≤ length ws → length ws ≤ hi → Sized lo hi (some ws)
unfolding Within
words lo hi ws h g = record { holds = (h, g) }

sized_nil : (hi : ℕ) → Sized 0 hi (some [])
sized_nil hi = words 0 hi [] (omega arith) (omega arith)

-- ONE VALUE

both_none : {A : Type 0} (b : Bool) (x y : Option A) → x ≡ none → y ≡ none → cond b x y ≡ none
both_none true x y p q = p
both_none false x y p q = q

-- an empty text is no value
cell_empty : (sort : ℕ) → cell sort [] ≡ none
unfolding cell unused number number_to only bit function_kind threshold ◌⊛◌ same
cell_empty sort = both_none (eqb sort 0) _ _ refl (both_none (eqb sort 1) _ _ refl (both_none (eqb sort 2) _ _ refl (both_none (eqb sort 3) _ _ refl (both_none (eqb sort 4) _ _ refl refl))))

sized_cell : (sort : ℕ) (v : List ℕ) → Sized 1 (length v) (word (cell sort v))
unfolding word
sized_cell sort [] = rw (cell_empty sort) no_words
sized_cell sort (c ∷ v) = by_cell (cell sort (c ∷ v)) where
  by_cell : (o : Option ℕ) → Sized 1 (suc (length v)) (word o)
  by_cell none = no_words
  by_cell (some n) = words 1 (suc (length v)) (n ∷ []) (omega arith) (omega arith)

sized_kind : (o : Option ℕ) → Sized 1 1 (word o)
unfolding word
sized_kind none = no_words
sized_kind (some n) = words 1 1 (n ∷ []) (omega arith) (omega arith)

wide_empty : (sort : ℕ) → wide sort [] ≡ none
unfolding wide integer ◌⊛◌
wide_empty sort = both_none (eqb sort 6) _ _ refl (rw (cell_empty sort))

sized_wide : (sort : ℕ) (v : List ℕ) → Sized 4 (length v + 3) (some wide_words ⊛ wide sort v)
unfolding ◌⊛◌
sized_wide sort [] = rw (wide_empty sort) no_words
sized_wide sort (c ∷ v) = by_wide (wide sort (c ∷ v)) where
  by_wide : (o : Option Wide) → Sized 4 (suc (length v) + 3) (some wide_words ⊛ o)
  by_wide none = no_words
  by_wide (some q) = words 4 (suc (length v) + 3) (wide_words q) (omega arith) (omega arith)

-- LISTS

sized_number : (v : List ℕ) → Sized 1 (length v) (word (number v))
unfolding cell
sized_number v = sized_cell 1 v

sized_field : (p : List ℕ) → Sized 0 (length p) (some field_words ⊛ field p)
sized_field p = by_count (eqb (length (split (eqb 58) p)) 2) refl where
  by_count : (t : Bool) → eqb (length (split (eqb 58) p)) 2 ≡ t → Sized 0 (length p) (some field_words ⊛ field p)
  by_count true e =
      let ps = split (eqb 58) p in
      let h : length ps ≡ 2 = eqb-true (length ps) 2 e in
      let f : word (number (get_or ps 0 [])) ⧺ word (number (get_or ps 1 [])) ≡ some field_words ⊛ field p = field_two p 1 (omega arith) refl in
      let l : length (get_or ps 0 []) + length (get_or ps 1 []) ≤ length p = omega (arith, split_total 58 p, total_from ps 0, total_from ps 1) in
      rw (← f) (sized_within 0 (length p) (omega arith) l
      (sized_number (get_or ps 0 []) ⊞ sized_number (get_or ps 1 [])))
  by_count false e = rw (field_other p (length (split (eqb 58) p) - 1) (omega (arith, parts_some (eqb 58) p)) (λ q. eqb-false (length (split (eqb 58) p)) 2 e (omega (arith, parts_some (eqb 58) p)))) no_words

sized_pattern : (p : List ℕ) → Sized 0 (length p) (word (some pattern_word ⊛ pattern_binding p))
unfolding word ◌⊛◌ pattern_binding number same
sized_pattern [] = no_words
sized_pattern (c ∷ p) = by_pattern (pattern_binding (c ∷ p)) where
  by_pattern : (o : Option (Option ℕ)) → Sized 0 (suc (length p)) (word (some pattern_word ⊛ o))
  by_pattern none = no_words
  by_pattern (some x) = words 0 (suc (length p)) (pattern_word x ∷ []) (omega arith) (omega arith)

sized_cond : (b : Bool) (lo hi : ℕ) (v w : Option (List ℕ)) → Sized lo hi v → Sized lo hi w → Sized lo hi (cond b v w)
sized_cond true lo hi v w h g = h
sized_cond false lo hi v w h g = g

sized_item : (sort : ℕ) (p : List ℕ) → Sized 0 (length p) (item sort p)
unfolding item
sized_item sort p =
    sized_cond (eqb sort 1) 0 (length p) _ _ (sized_within 0 (length p) (omega arith) (omega arith) (sized_number p))
    (sized_cond (eqb sort 2) 0 (length p) _ _ (sized_field p)
    (sized_cond (eqb sort 3) 0 (length p) _ _ (sized_pattern p) no_words))

sized_items : (sort : ℕ) (ps : List (List ℕ)) → Sized 0 (total ps) (items sort ps)
unfolding items total
sized_items sort [] = sized_nil 0
sized_items sort (p ∷ ps) = sized_item sort p ⊞ sized_items sort ps

sized_list : (sort : ℕ) (v : List ℕ) → Sized 0 (length v) (list_words sort v)
unfolding list_words
sized_list sort v =
    sized_cond (is "-" v) 0 (length v) _ _ (sized_nil (length v))
    (sized_within 0 (length v) (omega arith) (omega (arith, split_total 44 v, parts_some (eqb 44) v)) (sized_items sort (split (eqb 44) v)))

-- ROWS

sized_row : (n lo : ℕ) (read : List (List ℕ) → Option (List ℕ)) (line : List ℕ) → ((vs : List (List ℕ)) → Sized lo (total vs + n) (read vs)) → Sized lo (length line + 1) (row n read line)
unfolding row
sized_row n lo read line h = by_count (eqb (length (split (eqb 32) line)) n) refl where
  by_count : (t : Bool) → eqb (length (split (eqb 32) line)) n ≡ t → Sized lo (length line + 1) (cond t (read (split (eqb 32) line)) none)
  by_count true e = sized_within lo (length line + 1) (omega arith) (omega (arith, split_total 32 line, eqb-true (length (split (eqb 32) line)) n e)) (h (split (eqb 32) line))
  by_count false e = no_words

sized_options : (line : List ℕ) → Sized 4 (length line + 1) (options_words line)
unfolding options_words
sized_options line = sized_row 4 4 _ line (λ vs. sized_within 4 (total vs + 4) (omega arith) (omega (arith, total_from vs 0, total_from vs 1, total_from vs 2, total_from vs 3)) (sized_cell _ (at vs 0) ⊞ sized_cell _ (at vs 1) ⊞ sized_cell _ (at vs 2) ⊞ sized_cell _ (at vs 3)))

sized_type : (line : List ℕ) → Sized 5 (length line + 1) (type_words line)
unfolding type_words
sized_type line = sized_row 6 5 _ line (λ vs. sized_within 5 (total vs + 6) (omega arith) (omega (arith, total_from vs 0, total_from vs 1, total_from vs 2, total_from vs 3, total_from vs 4, total_from vs 5)) (sized_kind _ ⊞ sized_cell _ (at vs 1) ⊞ sized_cell _ (at vs 2) ⊞ sized_cell _ (at vs 3) ⊞ sized_cell _ (at vs 4) ⊞ sized_list _ (at vs 5)))

sized_variant : (line : List ℕ) → Sized 3 (length line + 1) (variant_words line)
unfolding variant_words
sized_variant line = sized_row 4 3 _ line (λ vs. sized_within 3 (total vs + 4) (omega arith) (omega (arith, total_from vs 0, total_from vs 1, total_from vs 2, total_from vs 3)) (sized_cell _ (at vs 0) ⊞ sized_cell _ (at vs 1) ⊞ sized_kind _ ⊞ sized_list _ (at vs 3)))

sized_term : (line : List ℕ) → Sized 8 (length line + 1) (term_words line)
unfolding term_words
sized_term line = sized_row 9 8 _ line (λ vs. sized_within 8 (total vs + 9) (omega arith) (omega (arith, total_from vs 0, total_from vs 1, total_from vs 2, total_from vs 3, total_from vs 4, total_from vs 5, total_from vs 6, total_from vs 7, total_from vs 8)) (sized_cell _ (at vs 0) ⊞ sized_cell _ (at vs 1) ⊞ sized_cell _ (at vs 2) ⊞ sized_cell _ (at vs 3) ⊞ sized_cell _ (at vs 4) ⊞ sized_cell _ (at vs 5) ⊞ sized_cell _ (at vs 6) ⊞ sized_cell _ (at vs 7) ⊞ sized_list _ (at vs 8)))

sized_generated : (line : List ℕ) → Sized 1 (length line + 1) (generated_words line)
unfolding generated_words
sized_generated line = sized_row 1 1 _ line (λ vs. sized_within 1 (total vs + 1) (omega arith) (omega (arith, total_from vs 0)) (sized_cell _ (at vs 0)))

sized_binding : (line : List ℕ) → Sized 6 (length line + 1) (binding_words line)
unfolding binding_words
sized_binding line = sized_row 4 6 _ line (λ vs. sized_within 6 (total vs + 4) (omega arith) (omega (arith, total_from vs 0, total_from vs 1, total_from vs 2, total_from vs 3)) (sized_kind _ ⊞ sized_cell _ (at vs 1) ⊞ sized_wide _ (at vs 2) ⊞ sized_list _ (at vs 3)))

sized_block : (line : List ℕ) → Sized 7 (length line + 1) (block_words line)
unfolding block_words
sized_block line = sized_row 5 7 _ line (λ vs. sized_within 7 (total vs + 5) (omega arith) (omega (arith, total_from vs 0, total_from vs 1, total_from vs 2, total_from vs 3, total_from vs 4)) (sized_cell _ (at vs 0) ⊞ sized_kind _ ⊞ sized_cell _ (at vs 2) ⊞ sized_wide _ (at vs 3) ⊞ sized_list _ (at vs 4)))

sized_text : (from : ℕ) (line : List ℕ) → 0 < length line → Sized 2 (length line + 1) (text_words from line)
sized_text from line h = words 2 (length line + 1) (from ∷ (from + length line) ∷ []) (omega arith) (omega arith)

-- a row of a table
pub sized_words : (table from : ℕ) (line : List ℕ) → 0 < length line → Sized (header table) (length line + 1) (row_words table from line)
unfolding row_words header
sized_words table from line h =
    choose (eqb table 0) (sized_options line) (choose (eqb table 4) (sized_type line) (choose (eqb table 5) (sized_variant line) (choose (eqb table 6) (sized_term line)
    (choose (eqb table 7) (sized_generated line) (choose (eqb table 8) (sized_binding line) (choose (eqb table 9) (sized_block line) (sized_text from line h))))))) where
      choose : {a b hi : ℕ} {v w : Option (List ℕ)} (t : Bool) → Sized a hi v → Sized b hi w → Sized (cond t a b) hi (cond t v w)
      choose true h g = h
      choose false h g = g
