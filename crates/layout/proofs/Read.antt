-- The tables of words stand for the plan of the definition. Assumes nothing.
use Prim.Native.Nat.{ℕ, zero, suc, ◌+◌, ◌-◌, ◌%◌, ◌≤◌, ◌<◌}
use Prim.Native.String.{String}
use mathlib.Core.Path.{◌≡◌, refl, ap, ◌∙◌}
use mathlib.Core.Bool.{Bool, true, false, cond, ◌&&◌, ◌||◌}
use mathlib.Core.List.{List, [], ◌∷◌, ◌++◌, map}
use mathlib.Core.Option.{Option, some, none}
use native.Mathlib.Omega.{arith}
use lib.Dec.{eqb, ltb}
use lib.ListN.{length, get_or, drop}
use borrow.Author.Tests.{ne_eqb, lt-ltb, le-ltb}
use Rattle.text.specs.Codes.{codes}
use Rattle.text.specs.Split.{null, split, ended, same}
use Rattle.literal.specs.BuiltinType.{all}
use Rattle.plan.specs.Plan.{Options, Generated, Environment, Plan}
use Rattle.plan.specs.Binding.{BindingRow}
use Rattle.plan.specs.Row.{Row}
use Rattle.plan.specs.Layout.{◌⊛◌, each, one, only, then, number, row, at, options_row, text_row, type_row, variant_row, term_row, binding_row, block_row, nested, steps, table, generated_term, generated_terms, builtins, environment, plan_of, read}
use Rattle.cells.specs.Words.{word}
use Rattle.cells.specs.Value.{cell}
use Rattle.rows.specs.Row.{generated_words, text_words, row_words}
use Rattle.rows.specs.View.{nth, options_of, type_of, variant_of, term_of, binding_of, block_of}
use Rattle.rows.proofs.Decode.{row_law, options_law, type_law, variant_law, term_law}
use Rattle.rows.proofs.DecodeBlock.{binding_law, block_law}
use Rattle.layout.specs.Scan.{Tables, sort_at, names, table_shaped, shaped, laid_tables}
use Rattle.layout.specs.View.{text_of, generated_of, environment_of, plan_of_tables}
use Rattle.layout.proofs.Groups.{bytes, rows_read, table_read, tables_read, of_groups, of_lines, scan_law, Stands, TablesStand, tables_stand}

pub apply_none : {A B : Type 0} (f : Option (A → B)) → f ⊛ none ≡ none
unfolding ◌⊛◌
apply_none none = refl
apply_none (some f) = refl

-- ONE TABLE

-- each row by itself, wherever it stands
rows_each : {A : Type 0} (sort : ℕ) (d : List ℕ → A) (f : List ℕ → Option A) → ((from : ℕ) (l : List ℕ) → some d ⊛ row_words sort from l ≡ f l)
    → (ls : List (List ℕ)) (from : ℕ) → some (map d) ⊛ rows_read sort from ls ≡ each f ls
unfolding rows_read each ◌⊛◌
rows_each sort d f h [] from = refl
rows_each {A = A} sort d f h (l ∷ ls) from = by_row (row_words sort from l) (rows_read sort (from + length l + 1) ls) ∙ rw (h from l, rows_each sort d f h ls (from + length l + 1)) where
  by_row : (w : Option (List ℕ)) (r : Option (List (List ℕ))) → some (map d) ⊛ (some (λ r rs. r ∷ rs) ⊛ w ⊛ r) ≡ some (λ y ys. y ∷ ys) ⊛ (some d ⊛ w) ⊛ (some (map d) ⊛ r)
  by_row none r = refl
  by_row (some w) none = refl
  by_row (some w) (some r) = refl

table_each : {A : Type 0} (sort : ℕ) (n : String) (d : List ℕ → A) (f : List ℕ → Option A) → names sort ≡ codes n
    → ((from : ℕ) (l : List ℕ) → some d ⊛ row_words sort from l ≡ f l) → (t : List (List ℕ)) (from : ℕ) → some (map d) ⊛ table_read sort from t ≡ table n f t
unfolding table_read table ◌⊛◌
table_each sort n d f e h [] from = refl
table_each sort n d f e h (l ∷ ls) from = rw e (by_test (same l (codes n))) where
  by_test : (b : Bool) → some (map d) ⊛ cond b (rows_read sort (from + length l + 1) ls) none ≡ cond b (each f ls) none
  by_test true = rows_each sort d f h ls (from + length l + 1)
  by_test false = refl

-- texts, where they stand
texts_each : (s : List ℕ) (sort : ℕ) → ((from : ℕ) (l : List ℕ) → row_words sort from l ≡ text_words from l) → (ls : List (List ℕ)) (from : ℕ) → Stands s from ls
    → some (map (text_of s)) ⊛ rows_read sort from ls ≡ each text_row ls
unfolding rows_read each ◌⊛◌ Stands text_of
texts_each s sort h [] from st = refl
texts_each s sort h (l ∷ ls) from st = rw (h from l) (by_row (rows_read sort (from + length l + 1) ls) (each text_row ls) (texts_each s sort h ls (from + length l + 1) st.1)) where
  by_row : (r o : Option (List (List ℕ))) → some (map (text_of s)) ⊛ r ≡ o → some (map (text_of s)) ⊛ (some (λ rs. (from ∷ (from + length l) ∷ []) ∷ rs) ⊛ r) ≡ some (λ ys. l ∷ ys) ⊛ o
  by_row none o e = rw (← e)
  by_row (some r) o e = rw (← e, st.0)

texts_table : (s : List ℕ) (sort : ℕ) (n : String) → names sort ≡ codes n → ((from : ℕ) (l : List ℕ) → row_words sort from l ≡ text_words from l)
    → (t : List (List ℕ)) (from : ℕ) → Stands s from t → some (map (text_of s)) ⊛ table_read sort from t ≡ table n text_row t
unfolding table_read table ◌⊛◌ Stands
texts_table s sort n e h [] from st = refl
texts_table s sort n e h (l ∷ ls) from st = rw e (by_test (same l (codes n))) where
  by_test : (b : Bool) → some (map (text_of s)) ⊛ cond b (rows_read sort (from + length l + 1) ls) none ≡ cond b (each text_row ls) none
  by_test true = texts_each s sort h ls (from + length l + 1) st.1
  by_test false = refl

-- GENERATED TERMS

generated_law : (l : List ℕ) → some (λ ws. nth ws 0) ⊛ generated_words l ≡ row 1 (λ vs. number (at vs 0)) l
unfolding generated_words cell word ◌⊛◌
generated_law l = row_law 1 _ _ (λ ws. nth ws 0) (λ vs. by_number (number (at vs 0))) l where
  by_number : (o : Option ℕ) → some (λ ws. nth ws 0) ⊛ word o ≡ o
  by_number none = refl
  by_number (some n) = refl

names_term : names 7 ≡ codes "term"
unfolding names
names_term = refl

names_bindings : names 8 ≡ codes "kind a b list"
unfolding names
names_bindings = refl

names_block : names 9 ≡ codes "level kind a b list"
unfolding names
names_block = refl

generated_at : (from : ℕ) (l : List ℕ) → some (λ ws. nth ws 0) ⊛ row_words 7 from l ≡ row 1 (λ vs. number (at vs 0)) l
unfolding row_words
generated_at from l = generated_law l

binding_at : (from : ℕ) (l : List ℕ) → some binding_of ⊛ row_words 8 from l ≡ binding_row l
unfolding row_words
binding_at from l = binding_law l

block_at : (from : ℕ) (l : List ℕ) → some block_of ⊛ row_words 9 from l ≡ block_row l
unfolding row_words
block_at from l = block_law l

-- the sorts of the tables of a generated term
module _ (i : ℕ) (h : 7 ≤ i) (g : (i - 7) % 3 ≡ 0) where
  sort_term : sort_at i ≡ 7
  unfolding sort_at
  sort_term = rw (le-ltb i 7 h) (omega arith)

  sort_bindings : sort_at (i + 1) ≡ 8
  unfolding sort_at
  sort_bindings = let z : 7 ≤ i + 1 = omega arith in rw (le-ltb (i + 1) 7 z) (omega arith)

  sort_block : sort_at (i + 1 + 1) ≡ 9
  unfolding sort_at
  sort_block = let z : 7 ≤ i + 1 + 1 = omega arith in rw (le-ltb (i + 1 + 1) 7 z) (omega arith)

  sort_next : (i + 1 + 1 + 1 - 7) % 3 ≡ 0
  sort_next = omega arith

-- a table before the others
only_cons : (i : ℕ) (o : Option (List (List ℕ))) (w : Option Tables)
    → only (shaped i) (some (λ t ts. t ∷ ts) ⊛ o ⊛ w) ≡ some (λ t ts. t ∷ ts) ⊛ only (table_shaped (sort_at i)) o ⊛ only (shaped (i + 1)) w
unfolding only shaped ◌⊛◌
only_cons i none w = refl
only_cons i (some t) none = by_test (table_shaped (sort_at i) t) where
  by_test : (b : Bool) → none ≡ some (λ t ts. t ∷ ts) ⊛ cond b (some t) none ⊛ none
  by_test true = refl
  by_test false = refl
only_cons i (some t) (some ts) = by_tests (table_shaped (sort_at i) t) (shaped (i + 1) ts) where
  by_tests : (b c : Bool) → cond (b && c) (some (t ∷ ts)) none ≡ some (λ t ts. t ∷ ts) ⊛ cond b (some t) none ⊛ cond c (some ts) none
  by_tests true true = refl
  by_tests true false = refl
  by_tests false c = refl

-- a table that has one row
one_law : {A : Type 0} (sort : ℕ) (f : List ℕ → A) (o : Option (List (List ℕ))) → (eqb sort 0 || eqb sort 7) ≡ true
    → one (some (map f) ⊛ o) ≡ some (λ t. f (get_or t 0 [])) ⊛ only (table_shaped sort) o
unfolding only table_shaped ◌⊛◌
one_law sort f none e = refl
one_law sort f (some []) e = rw e
one_law sort f (some (x ∷ [])) e = rw e
one_law sort f (some (x ∷ y ∷ t)) e = rw (e, ne_eqb (suc (suc (length t))) 1 (λ q. omega arith))

-- a table of any rows
any_law : (sort : ℕ) (o : Option (List (List ℕ))) → (eqb sort 0 || eqb sort 7) ≡ false → eqb sort 9 ≡ false → only (table_shaped sort) o ≡ o
unfolding only table_shaped
any_law sort none e f = refl
any_law sort (some t) e f = rw (e, f)

-- a block
nested_law : (o : Option (List (List ℕ))) → only (nested (steps ∷ [])) (some (map block_of) ⊛ o) ≡ some (map block_of) ⊛ only (table_shaped 9) o
unfolding only table_shaped ◌⊛◌
nested_law none = refl
nested_law (some t) = by_test (nested (steps ∷ []) (map block_of t)) where
  by_test : (b : Bool) → cond b (some (map block_of t)) none ≡ some (map block_of) ⊛ cond b (some t) none
  by_test true = refl
  by_test false = refl

abbrev term_made : ℕ → List BindingRow → List Row → Generated
term_made n bs rs = record { term = n; bindings = bs; rows = rs }

group_cells : (t b r : Option (List (List ℕ))) (w : Option Tables)
    → some generated_of ⊛ (some (λ t ts. t ∷ ts) ⊛ t ⊛ (some (λ t ts. t ∷ ts) ⊛ b ⊛ (some (λ t ts. t ∷ ts) ⊛ r ⊛ w)))
    ≡ some (λ g gs. g ∷ gs) ⊛ (some term_made ⊛ (some (λ t. nth (get_or t 0 []) 0) ⊛ t) ⊛ (some (map binding_of) ⊛ b) ⊛ (some (map block_of) ⊛ r)) ⊛ (some generated_of ⊛ w)
unfolding generated_of ◌⊛◌
group_cells none b r w = refl
group_cells (some t) none r w = refl
group_cells (some t) (some b) none w = refl
group_cells (some t) (some b) (some r) none = refl
group_cells (some t) (some b) (some r) (some w) = refl

group_law : (i : ℕ) → sort_at i ≡ 7 → sort_at (i + 1) ≡ 8 → sort_at (i + 1 + 1) ≡ 9 → (t b r : Option (List (List ℕ))) (w : Option Tables)
    → some generated_of ⊛ only (shaped i) (some (λ t ts. t ∷ ts) ⊛ t ⊛ (some (λ t ts. t ∷ ts) ⊛ b ⊛ (some (λ t ts. t ∷ ts) ⊛ r ⊛ w)))
    ≡ some (λ g gs. g ∷ gs) ⊛ (some term_made ⊛ one (some (map (λ ws. nth ws 0)) ⊛ t) ⊛ (some (map binding_of) ⊛ b) ⊛ only (nested (steps ∷ [])) (some (map block_of) ⊛ r)) ⊛ (some generated_of ⊛ only (shaped (i + 1 + 1 + 1)) w)
group_law i e f g t b r w =
    let l : only (shaped i) (some (λ t ts. t ∷ ts) ⊛ t ⊛ (some (λ t ts. t ∷ ts) ⊛ b ⊛ (some (λ t ts. t ∷ ts) ⊛ r ⊛ w)))
    ≡ some (λ t ts. t ∷ ts) ⊛ only (table_shaped 7) t ⊛ (some (λ t ts. t ∷ ts) ⊛ b ⊛ (some (λ t ts. t ∷ ts) ⊛ only (table_shaped 9) r ⊛ only (shaped (i + 1 + 1 + 1)) w)) =
    only_cons i t _ ∙ rw (only_cons (i + 1) b (some (λ t ts. t ∷ ts) ⊛ r ⊛ w), only_cons (i + 1 + 1) r w, e, f, g, any_law 8 b refl refl) in
    ap (λ (x : Option Tables). some generated_of ⊛ x) l
    ∙ group_cells (only (table_shaped 7) t) b (only (table_shaped 9) r) (only (shaped (i + 1 + 1 + 1)) w)
    ∙ rw (one_law 7 (λ ws. nth ws 0) t refl, nested_law r)

generated_step : (t b r : List (List ℕ)) (ts : List (List (List ℕ))) (i from : ℕ) → 7 ≤ i → (i - 7) % 3 ≡ 0
    → some generated_of ⊛ only (shaped (i + 1 + 1 + 1)) (tables_read (i + 1 + 1 + 1) (from + bytes t + 1 + bytes b + 1 + bytes r + 1) ts) ≡ generated_terms ts
    → some generated_of ⊛ only (shaped i) (tables_read i from (t ∷ b ∷ r ∷ ts)) ≡ generated_terms (t ∷ b ∷ r ∷ ts)
unfolding tables_read generated_terms generated_term
generated_step t b r ts i from h g more =
    let e = sort_term i h g in
    let f = sort_bindings i h g in
    let d = sort_block i h g in
    let ot = table_read 7 from t in
    let ob = table_read 8 (from + bytes t + 1) b in
    let oc = table_read 9 (from + bytes t + 1 + bytes b + 1) r in
    let w = tables_read (i + 1 + 1 + 1) (from + bytes t + 1 + bytes b + 1 + bytes r + 1) ts in
    let ht : some (map (λ ws. nth ws 0)) ⊛ ot ≡ table "term" (row 1 (λ vs. number (at vs 0))) t = table_each 7 "term" (λ ws. nth ws 0) (row 1 (λ vs. number (at vs 0))) names_term (λ from l. generated_at from l) t from in
    let hb : some (map binding_of) ⊛ ob ≡ table "kind a b list" binding_row b = table_each 8 "kind a b list" binding_of binding_row names_bindings (λ from l. binding_at from l) b (from + bytes t + 1) in
    let hc : some (map block_of) ⊛ oc ≡ table "level kind a b list" block_row r = table_each 9 "level kind a b list" block_of block_row names_block (λ from l. block_at from l) r (from + bytes t + 1 + bytes b + 1) in
    let l : some (λ t ts. t ∷ ts) ⊛ table_read (sort_at i) from t ⊛ (some (λ t ts. t ∷ ts) ⊛ table_read (sort_at (i + 1)) (from + bytes t + 1) b ⊛ (some (λ t ts. t ∷ ts) ⊛ table_read (sort_at (i + 1 + 1)) (from + bytes t + 1 + bytes b + 1) r ⊛ w))
    ≡ some (λ t ts. t ∷ ts) ⊛ ot ⊛ (some (λ t ts. t ∷ ts) ⊛ ob ⊛ (some (λ t ts. t ∷ ts) ⊛ oc ⊛ w)) = rw (e, f, d) in
    ap (λ (x : Option Tables). some generated_of ⊛ only (shaped i) x) l ∙ group_law i e f d ot ob oc w ∙ rw (ht, hb, hc, more)

generated_read : (ts : List (List (List ℕ))) (i from : ℕ) → 7 ≤ i → (i - 7) % 3 ≡ 0 → some generated_of ⊛ only (shaped i) (tables_read i from ts) ≡ generated_terms ts
unfolding tables_read generated_terms only shaped generated_of ◌⊛◌
generated_read [] i from h g = rw (sort_term i h g)
generated_read (t ∷ []) i from h g = rw (sort_bindings i h g, apply_none (some (λ t ts. t ∷ ts) ⊛ table_read (sort_at i) from t))
generated_read (t ∷ b ∷ []) i from h g =
    rw (sort_block i h g, apply_none (some (λ t ts. t ∷ ts) ⊛ table_read (sort_at (i + 1)) (from + bytes t + 1) b), apply_none (some (λ t ts. t ∷ ts) ⊛ table_read (sort_at i) from t))
generated_read (t ∷ b ∷ r ∷ ts) i from h g =
    generated_step t b r ts i from h g (generated_read ts (i + 1 + 1 + 1) (from + bytes t + 1 + bytes b + 1 + bytes r + 1) (omega arith) (sort_next i h g))

-- A WHOLE PLAN

plan_cells : (s : List ℕ) (o0 o1 o2 o3 o4 o5 o6 : Option (List (List ℕ))) (w : Option Tables)
    → some (plan_of_tables s) ⊛ (some (λ t ts. t ∷ ts) ⊛ o0 ⊛ (some (λ t ts. t ∷ ts) ⊛ o1 ⊛ (some (λ t ts. t ∷ ts) ⊛ o2 ⊛ (some (λ t ts. t ∷ ts) ⊛ o3 ⊛ (some (λ t ts. t ∷ ts) ⊛ o4 ⊛ (some (λ t ts. t ∷ ts) ⊛ o5 ⊛ (some (λ t ts. t ∷ ts) ⊛ o6 ⊛ w)))))))
    ≡ some (λ o e gs. record { options = o; env = e; generated = gs }) ⊛ (some (λ t. options_of (get_or t 0 [])) ⊛ o0)
    ⊛ (some (λ f s p ty v m. record { files = f; syms = s; poss = p; types = builtins all ++ ty; variants = v; terms = m }) ⊛ (some (map (text_of s)) ⊛ o1) ⊛ (some (map (text_of s)) ⊛ o2) ⊛ (some (map (text_of s)) ⊛ o3) ⊛ (some (map type_of) ⊛ o4) ⊛ (some (map variant_of) ⊛ o5) ⊛ (some (map term_of) ⊛ o6)) ⊛ (some generated_of ⊛ w)
unfolding plan_of_tables environment_of ◌⊛◌
plan_cells s none o1 o2 o3 o4 o5 o6 w = refl
plan_cells s (some o0) none o2 o3 o4 o5 o6 w = refl
plan_cells s (some o0) (some o1) none o3 o4 o5 o6 w = refl
plan_cells s (some o0) (some o1) (some o2) none o4 o5 o6 w = refl
plan_cells s (some o0) (some o1) (some o2) (some o3) none o5 o6 w = refl
plan_cells s (some o0) (some o1) (some o2) (some o3) (some o4) none o6 w = refl
plan_cells s (some o0) (some o1) (some o2) (some o3) (some o4) (some o5) none w = refl
plan_cells s (some o0) (some o1) (some o2) (some o3) (some o4) (some o5) (some o6) none = refl
plan_cells s (some o0) (some o1) (some o2) (some o3) (some o4) (some o5) (some o6) (some w) = refl

skip_law : (i : ℕ) (o : Option (List (List ℕ))) (w : Option Tables) → (eqb (sort_at i) 0 || eqb (sort_at i) 7) ≡ false → eqb (sort_at i) 9 ≡ false
    → only (shaped i) (some (λ t ts. t ∷ ts) ⊛ o ⊛ w) ≡ some (λ t ts. t ∷ ts) ⊛ o ⊛ only (shaped (i + 1)) w
skip_law i o w e f = only_cons i o w ∙ rw (any_law (sort_at i) o e f)

shaped_cells : (o0 o1 o2 o3 o4 o5 o6 : Option (List (List ℕ))) (w : Option Tables)
    → only (shaped 0) (some (λ t ts. t ∷ ts) ⊛ o0 ⊛ (some (λ t ts. t ∷ ts) ⊛ o1 ⊛ (some (λ t ts. t ∷ ts) ⊛ o2 ⊛ (some (λ t ts. t ∷ ts) ⊛ o3 ⊛ (some (λ t ts. t ∷ ts) ⊛ o4 ⊛ (some (λ t ts. t ∷ ts) ⊛ o5 ⊛ (some (λ t ts. t ∷ ts) ⊛ o6 ⊛ w))))))) ≡ (some (λ t ts. t ∷ ts) ⊛ only (table_shaped 0) o0 ⊛ (some (λ t ts. t ∷ ts) ⊛ o1 ⊛ (some (λ t ts. t ∷ ts) ⊛ o2 ⊛ (some (λ t ts. t ∷ ts) ⊛ o3 ⊛ (some (λ t ts. t ∷ ts) ⊛ o4 ⊛ (some (λ t ts. t ∷ ts) ⊛ o5 ⊛ (some (λ t ts. t ∷ ts) ⊛ o6 ⊛ (only (shaped 7) w))))))))
unfolding sort_at
shaped_cells o0 o1 o2 o3 o4 o5 o6 w = only_cons 0 o0 (some (λ t ts. t ∷ ts) ⊛ o1 ⊛ (some (λ t ts. t ∷ ts) ⊛ o2 ⊛ (some (λ t ts. t ∷ ts) ⊛ o3 ⊛ (some (λ t ts. t ∷ ts) ⊛ o4 ⊛ (some (λ t ts. t ∷ ts) ⊛ o5 ⊛ (some (λ t ts. t ∷ ts) ⊛ o6 ⊛ w)))))) ∙ ap (λ (x : Option Tables). some (λ t ts. t ∷ ts) ⊛ only (table_shaped 0) o0 ⊛ x) (skip_law 1 o1 (some (λ t ts. t ∷ ts) ⊛ o2 ⊛ (some (λ t ts. t ∷ ts) ⊛ o3 ⊛ (some (λ t ts. t ∷ ts) ⊛ o4 ⊛ (some (λ t ts. t ∷ ts) ⊛ o5 ⊛ (some (λ t ts. t ∷ ts) ⊛ o6 ⊛ w))))) refl refl ∙ ap (λ (x : Option Tables). some (λ t ts. t ∷ ts) ⊛ o1 ⊛ x) (skip_law 2 o2 (some (λ t ts. t ∷ ts) ⊛ o3 ⊛ (some (λ t ts. t ∷ ts) ⊛ o4 ⊛ (some (λ t ts. t ∷ ts) ⊛ o5 ⊛ (some (λ t ts. t ∷ ts) ⊛ o6 ⊛ w)))) refl refl ∙ ap (λ (x : Option Tables). some (λ t ts. t ∷ ts) ⊛ o2 ⊛ x) (skip_law 3 o3 (some (λ t ts. t ∷ ts) ⊛ o4 ⊛ (some (λ t ts. t ∷ ts) ⊛ o5 ⊛ (some (λ t ts. t ∷ ts) ⊛ o6 ⊛ w))) refl refl ∙ ap (λ (x : Option Tables). some (λ t ts. t ∷ ts) ⊛ o3 ⊛ x) (skip_law 4 o4 (some (λ t ts. t ∷ ts) ⊛ o5 ⊛ (some (λ t ts. t ∷ ts) ⊛ o6 ⊛ w)) refl refl ∙ ap (λ (x : Option Tables). some (λ t ts. t ∷ ts) ⊛ o4 ⊛ x) (skip_law 5 o5 (some (λ t ts. t ∷ ts) ⊛ o6 ⊛ w) refl refl ∙ ap (λ (x : Option Tables). some (λ t ts. t ∷ ts) ⊛ o5 ⊛ x) (skip_law 6 o6 w refl refl))))))

-- fewer than seven tables
tables_short : (ts : List (List (List ℕ))) (i from : ℕ) → i + length ts < 7 → tables_read i from ts ≡ none
unfolding tables_read sort_at
tables_short [] i from h = rw (lt-ltb i 7 (omega arith), ne_eqb i 7 (λ q. omega arith))
tables_short (t ∷ ts) i from h = rw (tables_short ts (i + 1) (from + bytes t + 1) (omega arith)) (apply_none (some (λ t ts. t ∷ ts) ⊛ table_read (cond (ltb i 7) i (7 + (i - 7) % 3)) from t))

past : (ts : List (List (List ℕ))) (i : ℕ) → length ts ≤ i → get_or ts i [] ≡ []
past [] i h = refl
past (t ∷ ts) zero h = absurd (omega arith)
past (t ∷ ts) (suc i) h = past ts i (omega arith)

abbrev plan_made : Options → Environment → List Generated → Plan
plan_made o e gs = record { options = o; env = e; generated = gs }

no_plan : (o : Option Options) (g : Option (List Generated)) → some plan_made ⊛ o ⊛ none ⊛ g ≡ none
unfolding ◌⊛◌
no_plan none g = refl
no_plan (some o) g = refl

plan_short : (ts : List (List (List ℕ))) → length ts < 7 → plan_of ts ≡ none
unfolding plan_of environment table
plan_short ts h = rw (past ts 6 (omega arith), apply_none) (no_plan (one (table "nopragmas log split threshold" options_row (get_or ts 0 []))) (generated_terms (drop 7 ts)))

short : (s : List ℕ) (ts : List (List (List ℕ))) → length ts < 7 → some (plan_of_tables s) ⊛ only (shaped 0) (tables_read 0 0 ts) ≡ plan_of ts
unfolding only ◌⊛◌
short s ts h = rw (tables_short ts 0 0 (omega arith), plan_short ts h)

names_0 : names 0 ≡ codes "nopragmas log split threshold"
unfolding names
names_0 = refl

names_1 : names 1 ≡ codes "file"
unfolding names
names_1 = refl

names_2 : names 2 ≡ codes "sym"
unfolding names
names_2 = refl

names_3 : names 3 ≡ codes "pos"
unfolding names
names_3 = refl

names_4 : names 4 ≡ codes "kind name extern nodebug pos list"
unfolding names
names_4 = refl

names_5 : names 5 ≡ codes "type name shape list"
unfolding names
names_5 = refl

names_6 : names 6 ≡ codes "name pos ret multi partial ctor xtor infallible list"
unfolding names
names_6 = refl

options_at : (from : ℕ) (l : List ℕ) → some options_of ⊛ row_words 0 from l ≡ options_row l
unfolding row_words
options_at from l = options_law l

type_at : (from : ℕ) (l : List ℕ) → some type_of ⊛ row_words 4 from l ≡ type_row l
unfolding row_words
type_at from l = type_law l

variant_at : (from : ℕ) (l : List ℕ) → some variant_of ⊛ row_words 5 from l ≡ variant_row l
unfolding row_words
variant_at from l = variant_law l

term_at : (from : ℕ) (l : List ℕ) → some term_of ⊛ row_words 6 from l ≡ term_row l
unfolding row_words
term_at from l = term_law l

text_at_1 : (from : ℕ) (l : List ℕ) → row_words 1 from l ≡ text_words from l
unfolding row_words
text_at_1 from l = refl

text_at_2 : (from : ℕ) (l : List ℕ) → row_words 2 from l ≡ text_words from l
unfolding row_words
text_at_2 from l = refl

text_at_3 : (from : ℕ) (l : List ℕ) → row_words 3 from l ≡ text_words from l
unfolding row_words
text_at_3 from l = refl

plan_read : (s : List ℕ) (ts : List (List (List ℕ))) → TablesStand s 0 ts → some (plan_of_tables s) ⊛ only (shaped 0) (tables_read 0 0 ts) ≡ plan_of ts
unfolding TablesStand tables_read sort_at plan_of environment
plan_read s [] st = short s [] (omega arith)
plan_read s (a ∷ []) st = short s (a ∷ []) (omega arith)
plan_read s (a ∷ b ∷ []) st = short s (a ∷ b ∷ []) (omega arith)
plan_read s (a ∷ b ∷ c ∷ []) st = short s (a ∷ b ∷ c ∷ []) (omega arith)
plan_read s (a ∷ b ∷ c ∷ d ∷ []) st = short s (a ∷ b ∷ c ∷ d ∷ []) (omega arith)
plan_read s (a ∷ b ∷ c ∷ d ∷ e ∷ []) st = short s (a ∷ b ∷ c ∷ d ∷ e ∷ []) (omega arith)
plan_read s (a ∷ b ∷ c ∷ d ∷ e ∷ f ∷ []) st = short s (a ∷ b ∷ c ∷ d ∷ e ∷ f ∷ []) (omega arith)
plan_read s (a ∷ b ∷ c ∷ d ∷ e ∷ f ∷ g ∷ ts) st =
    let o0 = table_read 0 0 a in
    let o1 = table_read 1 (0 + bytes a + 1) b in
    let o2 = table_read 2 ((0 + bytes a + 1) + bytes b + 1) c in
    let o3 = table_read 3 (((0 + bytes a + 1) + bytes b + 1) + bytes c + 1) d in
    let o4 = table_read 4 ((((0 + bytes a + 1) + bytes b + 1) + bytes c + 1) + bytes d + 1) e in
    let o5 = table_read 5 (((((0 + bytes a + 1) + bytes b + 1) + bytes c + 1) + bytes d + 1) + bytes e + 1) f in
    let o6 = table_read 6 ((((((0 + bytes a + 1) + bytes b + 1) + bytes c + 1) + bytes d + 1) + bytes e + 1) + bytes f + 1) g in
    let w = tables_read 7 (((((((0 + bytes a + 1) + bytes b + 1) + bytes c + 1) + bytes d + 1) + bytes e + 1) + bytes f + 1) + bytes g + 1) ts in
    let h0 : some (map options_of) ⊛ o0 ≡ table "nopragmas log split threshold" options_row a = table_each 0 "nopragmas log split threshold" options_of options_row names_0 options_at a 0 in
    let h1 : some (map (text_of s)) ⊛ o1 ≡ table "file" text_row b = texts_table s 1 "file" names_1 text_at_1 b (0 + bytes a + 1) st.1.0 in
    let h2 : some (map (text_of s)) ⊛ o2 ≡ table "sym" text_row c = texts_table s 2 "sym" names_2 text_at_2 c ((0 + bytes a + 1) + bytes b + 1) st.1.1.0 in
    let h3 : some (map (text_of s)) ⊛ o3 ≡ table "pos" text_row d = texts_table s 3 "pos" names_3 text_at_3 d (((0 + bytes a + 1) + bytes b + 1) + bytes c + 1) st.1.1.1.0 in
    let h4 : some (map type_of) ⊛ o4 ≡ table "kind name extern nodebug pos list" type_row e = table_each 4 "kind name extern nodebug pos list" type_of type_row names_4 type_at e ((((0 + bytes a + 1) + bytes b + 1) + bytes c + 1) + bytes d + 1) in
    let h5 : some (map variant_of) ⊛ o5 ≡ table "type name shape list" variant_row f = table_each 5 "type name shape list" variant_of variant_row names_5 variant_at f (((((0 + bytes a + 1) + bytes b + 1) + bytes c + 1) + bytes d + 1) + bytes e + 1) in
    let h6 : some (map term_of) ⊛ o6 ≡ table "name pos ret multi partial ctor xtor infallible list" term_row g = table_each 6 "name pos ret multi partial ctor xtor infallible list" term_of term_row names_6 term_at g ((((((0 + bytes a + 1) + bytes b + 1) + bytes c + 1) + bytes d + 1) + bytes e + 1) + bytes f + 1) in
    ap (λ (x : Option Tables). some (plan_of_tables s) ⊛ x) (shaped_cells o0 o1 o2 o3 o4 o5 o6 w)
    ∙ plan_cells s (only (table_shaped 0) o0) o1 o2 o3 o4 o5 o6 (only (shaped 7) w)
    ∙ rw (← one_law 0 options_of o0 refl, h0, h1, h2, h3, h4, h5, h6, generated_read ts 7 (((((((0 + bytes a + 1) + bytes b + 1) + bytes c + 1) + bytes d + 1) + bytes e + 1) + bytes f + 1) + bytes g + 1) (omega arith) refl)

-- the tables of words, as far as they are laid out, are the plan of the definition
pub read_law : (s : List ℕ) → some (plan_of_tables s) ⊛ laid_tables s ≡ read s
unfolding laid_tables read of_lines of_groups only ◌⊛◌
read_law s = rw (scan_law (split (eqb 10) s) 0 0 false) (by_lines (ended (split (eqb 10) s)) refl) where
  by_groups : (ls : List (List ℕ)) → ended (split (eqb 10) s) ≡ some ls → (o : Option (List (List (List ℕ)))) → ended (split null ls) ≡ o
      → some (plan_of_tables s) ⊛ only (shaped 0) (of_groups false 0 0 o) ≡ then o plan_of
  by_groups ls e none f = refl
  by_groups ls e (some ts) f = plan_read s ts (tables_stand s ls ts e f)

  by_lines : (o : Option (List (List ℕ))) → ended (split (eqb 10) s) ≡ o
      → some (plan_of_tables s) ⊛ only (shaped 0) (of_lines false 0 0 o) ≡ then o (λ lines. then (ended (split null lines)) plan_of)
  by_lines none e = refl
  by_lines (some ls) e = by_groups ls e (ended (split null ls)) refl
