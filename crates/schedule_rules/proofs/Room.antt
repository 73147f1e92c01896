-- How long the sheet of an accepted plan can be, by the plan's length alone: each block row is a line of five values, so it takes five bytes
-- or more, and a plan has at most 65,536. Assumes nothing.
use Rattle.std.specs.Prelude.{ℕ, zero, suc, ◌+◌, ◌*◌, ◌≤◌, ◌≡◌, refl, Bool, true, false, cond, List, [], ◌∷◌, eqb, leb, ltb, length, drop}
use Prim.Native.String.{String}
use Rattle.std.proofs.Math.Option.{Option, some, none}
use Rattle.std.proofs.Common.{arith, eqb-true, leb-true, ltb-true}
use Rattle.text.specs.Split.{null, push, split, ended}
use Rattle.plan.specs.Plan.{Environment, Generated, Plan}
use Rattle.plan.specs.Binding.{BindingRow}
use Rattle.plan.specs.Row.{Row}
use Rattle.plan.specs.Layout.{each, only, is, row, block_row, table, generated_term, generated_terms, plan_of, read, nested, steps}
use Rattle.plan.specs.Refusal.{every, fits_length, Outcome, refused, accepted, outcome, at_most, environment_most, generated_most, within_most, type_refers, variant_refers, term_refers, constructor_exists, generated_refers, all_exist}
use Rattle.splitting.specs.Cases.{and_left, and_right}
use Rattle.splitting.specs.Accepted.{Holds, apply_holds, then_holds, cond_holds, apply_any, accepted_read}
use Rattle.schedule_rules.specs.Passes.{Passes, accepted_passes}
use Rattle.schedule_rules.specs.Sheet.{sheet}
use Rattle.schedule_rules.proofs.SheetLaws.{all_rows, Within, sheet_most}

-- PARTS

-- the bytes of lines, each with the end of its line
abbrev bytes_of : List (List ℕ) → ℕ
bytes_of [] = 0
bytes_of (l ∷ ls) = suc (length l) + bytes_of ls

abbrev tables_bytes : List (List (List ℕ)) → ℕ
tables_bytes [] = 0
tables_bytes (t ∷ ts) = bytes_of t + tables_bytes ts

push_bytes : (x : ℕ) (ps : List (List ℕ)) (n : ℕ) → bytes_of ps ≡ suc n → bytes_of (push x ps) ≡ suc (suc n)
push_bytes x [] n h = absurd (omega arith)
push_bytes x (p ∷ ps) n h = omega arith

split_bytes : (sep : ℕ → Bool) (s : List ℕ) → bytes_of (split sep s) ≡ suc (length s)
unfolding split
split_bytes sep [] = refl
split_bytes sep (x ∷ xs) = by_test (sep x) (split_bytes sep xs) where
  by_test : (b : Bool) → bytes_of (split sep xs) ≡ suc (length xs) → bytes_of (cond b ([] ∷ split sep xs) (push x (split sep xs))) ≡ suc (suc (length xs))
  by_test true h = omega arith
  by_test false h = push_bytes x (split sep xs) (length xs) h

-- a line of n values has at least n - 1 bytes
push_length : (x : ℕ) (ps : List (List ℕ)) (n : ℕ) → length ps ≤ suc n → length (push x ps) ≤ suc (suc n)
push_length x [] n h = omega arith
push_length x (p ∷ ps) n h = omega arith

parts_most : (sep : ℕ → Bool) (s : List ℕ) → length (split sep s) ≤ suc (length s)
unfolding split
parts_most sep [] = omega arith
parts_most sep (x ∷ xs) = by_test (sep x) (parts_most sep xs) where
  by_test : (b : Bool) → length (split sep xs) ≤ suc (length xs) → length (cond b ([] ∷ split sep xs) (push x (split sep xs))) ≤ suc (suc (length xs))
  by_test true h = omega arith
  by_test false h = push_length x (split sep xs) (length xs) h

push_tables : (l : List ℕ) (ts : List (List (List ℕ))) (n : ℕ) → tables_bytes ts ≤ n → tables_bytes (push l ts) ≤ suc (length l) + n
push_tables l [] n h = omega arith
push_tables l (t ∷ ts) n h = omega arith

split_tables : (ls : List (List ℕ)) → tables_bytes (split null ls) ≤ bytes_of ls
unfolding split
split_tables [] = omega arith
split_tables (l ∷ ls) = by_test (null l) (split_tables ls) where
  by_test : (b : Bool) → tables_bytes (split null ls) ≤ bytes_of ls → tables_bytes (cond b ([] ∷ split null ls) (push l (split null ls))) ≤ suc (length l) + bytes_of ls
  by_test true h = omega arith
  by_test false h = push_tables l (split null ls) (bytes_of ls) h

-- the last part is left out
ended_less : {A : Type 0} (size : List (List A) → ℕ) (one : List A → ℕ) → ((p : List A) (ps : List (List A)) → size (p ∷ ps) ≡ one p + size ps) → size [] ≡ 0 → (ps : List (List A)) → Holds (λ qs. size qs ≤ size ps) (ended ps)
unfolding ended Holds
ended_less size one c n [] = tt
ended_less size one c n (p ∷ []) = cond_holds (λ qs. size qs ≤ size (p ∷ [])) (null p) (some []) (omega arith)
ended_less {A = A} size one c n (p ∷ q ∷ ps) = by_rest (ended (q ∷ ps)) refl (ended_less size one c n (q ∷ ps))
  where
    by_rest : (o : Option (List (List A))) → ended (q ∷ ps) ≡ o → Holds (λ qs. size qs ≤ size (q ∷ ps)) (ended (q ∷ ps)) → Holds (λ qs. size qs ≤ size (p ∷ q ∷ ps)) (ended (p ∷ q ∷ ps))
    by_rest none e k = rw e tt
    by_rest (some x) e k = let l : size x ≤ size (q ∷ ps) = rw e at k in rw e (omega (arith, c p x, c p (q ∷ ps)))

-- ROWS

row_bytes : (l : List ℕ) → Holds (λ r. 5 ≤ suc (length l)) (block_row l)
unfolding block_row row Holds
row_bytes l = by_count (eqb (length (split (eqb 32) l)) 5) refl _
  where
    by_count : {A : Type 0} (b : Bool) → eqb (length (split (eqb 32) l)) 5 ≡ b → (o : Option A) → Holds (λ r. 5 ≤ suc (length l)) (cond b o none)
    by_count true h none = tt
    by_count true h (some x) = omega (arith, eqb-true (length (split (eqb 32) l)) 5 h, parts_most (eqb 32) l)
    by_count false h o = tt

rows_bytes : (ls : List (List ℕ)) → Holds (λ rs. 5 * length rs ≤ bytes_of ls) (each block_row ls)
unfolding each Holds
rows_bytes [] = omega arith
rows_bytes (l ∷ ls) =
    apply_holds (λ rs. 5 * length rs ≤ bytes_of ls) (λ rs. 5 * length rs ≤ bytes_of (l ∷ ls)) _ _
    (apply_holds (λ r. 5 ≤ suc (length l)) (λ f. (rs : List Row) → 5 * length rs ≤ bytes_of ls → 5 * length (f rs) ≤ bytes_of (l ∷ ls)) (some _) _ (λ r h rs k. omega arith) (row_bytes l))
    (rows_bytes ls)

table_bytes : (names : String) (t : List (List ℕ)) → Holds (λ rs. 5 * length rs ≤ bytes_of t) (table names block_row t)
unfolding table Holds
table_bytes names [] = tt
table_bytes names (l ∷ ls) = cond_holds (λ rs. 5 * length rs ≤ bytes_of (l ∷ ls)) (is names l) (each block_row ls) (weaker (each block_row ls) (rows_bytes ls))
  where
    weaker : (o : Option (List Row)) → Holds (λ rs. 5 * length rs ≤ bytes_of ls) o → Holds (λ rs. 5 * length rs ≤ bytes_of (l ∷ ls)) o
    weaker none h = tt
    weaker (some rs) h = omega arith

only_bytes : {A : Type 0} (P : A → Type 0) (test : A → Bool) (o : Option A) → Holds P o → Holds P (only test o)
unfolding only Holds
only_bytes P test none h = tt
only_bytes P test (some x) h = cond_holds P (test x) (some x) h

term_bytes : (t b r : List (List ℕ)) → Holds (λ g. 5 * length g.rows ≤ bytes_of r) (generated_term t b r)
unfolding generated_term Holds
term_bytes t b r =
    apply_holds (λ rs. 5 * length rs ≤ bytes_of r) (λ g. 5 * length g.rows ≤ bytes_of r) _ _
    (apply_any (λ f. (rs : List Row) → 5 * length rs ≤ bytes_of r → 5 * length (f rs).rows ≤ bytes_of r) _ _
    (apply_any (λ f. (bs : List BindingRow) (rs : List Row) → 5 * length rs ≤ bytes_of r → 5 * length (f bs rs).rows ≤ bytes_of r) (some _) _ (λ n bs rs h. h)))
    (only_bytes (λ rs. 5 * length rs ≤ bytes_of r) (nested (steps ∷ [])) _ (table_bytes "level kind a b list" r))

terms_bytes : (ts : List (List (List ℕ))) → Holds (λ gs. 5 * all_rows gs ≤ tables_bytes ts) (generated_terms ts)
unfolding generated_terms all_rows Holds
terms_bytes [] = omega arith
terms_bytes (t ∷ []) = tt
terms_bytes (t ∷ b ∷ []) = tt
terms_bytes (t ∷ b ∷ r ∷ ts) =
    apply_holds (λ gs. 5 * all_rows gs ≤ tables_bytes ts) (λ gs. 5 * all_rows gs ≤ tables_bytes (t ∷ b ∷ r ∷ ts)) _ _
    (apply_holds (λ g. 5 * length g.rows ≤ bytes_of r) (λ f. (gs : List Generated) → 5 * all_rows gs ≤ tables_bytes ts → 5 * all_rows (f gs) ≤ tables_bytes (t ∷ b ∷ r ∷ ts)) (some _) _ (λ g h gs k. omega arith) (term_bytes t b r))
    (terms_bytes ts)

drop_bytes : (n : ℕ) (ts : List (List (List ℕ))) → tables_bytes (drop n ts) ≤ tables_bytes ts
drop_bytes zero ts = omega arith
drop_bytes (suc n) [] = omega arith
drop_bytes (suc n) (t ∷ ts) = omega (arith, drop_bytes n ts)

plan_bytes : (ts : List (List (List ℕ))) → Holds (λ p. 5 * all_rows p.generated ≤ tables_bytes ts) (plan_of ts)
unfolding plan_of Holds
plan_bytes ts =
    apply_holds (λ gs. 5 * all_rows gs ≤ tables_bytes (drop 7 ts)) (λ p. 5 * all_rows p.generated ≤ tables_bytes ts) _ _
    (apply_any (λ f. (gs : List Generated) → 5 * all_rows gs ≤ tables_bytes (drop 7 ts) → 5 * all_rows (f gs).generated ≤ tables_bytes ts) _ _
    (apply_any (λ f. (e : Environment) (gs : List Generated) → 5 * all_rows gs ≤ tables_bytes (drop 7 ts) → 5 * all_rows (f e gs).generated ≤ tables_bytes ts) (some _) _ (λ o e gs h. omega (arith, drop_bytes 7 ts))))
    (terms_bytes (drop 7 ts))

-- the block rows of a plan take five bytes each
abbrev Few : ℕ → Plan → Type 0
Few n p = 5 * all_rows p.generated ≤ n

few_more : (m n : ℕ) (o : Option Plan) → Holds (Few m) o → m ≤ n → Holds (Few n) o
unfolding Holds
few_more m n none h k = tt
few_more m n (some p) h k = omega arith

rows_in_bytes : (s : List ℕ) → Holds (Few (suc (length s))) (read s)
unfolding read
rows_in_bytes s =
    then_holds (λ ls. bytes_of ls ≤ bytes_of (split (eqb 10) s)) (Few (suc (length s))) _ _ (ended_less bytes_of (λ l. suc (length l)) (λ l ls. refl) refl (split (eqb 10) s))
    (λ ls h. then_holds (λ ts. tables_bytes ts ≤ tables_bytes (split null ls)) (Few (suc (length s))) _ _ (ended_less tables_bytes bytes_of (λ t ts. refl) refl (split null ls))
    (λ ts k. few_more (tables_bytes ts) (suc (length s)) (plan_of ts) (plan_bytes ts) (omega (arith, split_tables ls, split_bytes (eqb 10) s))))

rows_most : (s : List ℕ) (p : Plan) → outcome s ≡ accepted p → 5 * all_rows p.generated ≤ suc (length s)
unfolding Holds
rows_most s p e = rw (accepted_read s p e) at (rows_in_bytes s)

-- THE SHEET

length_most : (s : List ℕ) (p : Plan) → outcome s ≡ accepted p → length s ≤ 65536
unfolding outcome fits_length
length_most s p e = by_test (leb (length s) 65536) refl _ e
  where
    by_test : (b : Bool) → leb (length s) 65536 ≡ b → (x : Outcome) → cond b x (refused 1) ≡ accepted p → length s ≤ 65536
    by_test true h x q = leb-true (length s) 65536 h
    by_test false h x q = absurd (let z : ◌≡◌ {A = ℕ} 0 1 = cc in omega arith)

within_terms : (e : Environment) (gs : List Generated) → length e.terms ≤ 512 → every generated_most gs ≡ true → every (generated_refers e) gs ≡ true → Within gs
unfolding every generated_most generated_refers
within_terms e [] t a b = tt
within_terms e (g ∷ gs) t a b =
    let most : generated_most g ≡ true = and_left (generated_most g) _ a in
    let there : ltb g.term (length e.terms) ≡ true = and_left (ltb g.term (length e.terms)) _ (and_left (constructor_exists e g.term) _ (and_left (generated_refers e g) _ b)) in (
      omega (arith, ltb-true g.term (length e.terms) there),
      leb-true (length g.rows) 2048 (and_left (at_most 2048 g.rows) _ (and_right (at_most 1024 g.bindings) _ most)),
      within_terms e gs t (and_right (generated_most g) _ a) (and_right (generated_refers e g) _ b),
    )

passes_within : (p : Plan) → Passes p → Within p.generated
unfolding within_most environment_most all_exist
passes_within p x =
    let e : Environment = p.env in
    let most : environment_most e ≡ true = and_left (environment_most e) _ x.most in
    let terms : at_most 512 e.terms ≡ true = and_left (at_most 512 e.terms) _ (and_right (at_most 1024 e.variants) _ (and_right (at_most 256 e.types) _ (and_right (at_most 2048 e.poss) _ (and_right (at_most 2048 e.syms) _ (and_right (at_most 64 e.files) _ most))))) in
    within_terms e p.generated (leb-true (length e.terms) 512 terms) (and_right (at_most 64 p.generated) _ (and_right (environment_most e) _ x.most))
    (and_right (every (term_refers e) e.terms) _ (and_right (every (variant_refers e) e.variants) _ (and_right (every (type_refers e) e.types) _ x.exist)))

-- a buffer of so many bytes holds the sheet of each accepted plan
pub sheet_room : (s : List ℕ) (p : Plan) → outcome s ≡ accepted p → length (sheet p) ≤ 288369
sheet_room s p e = omega (arith, sheet_most p (passes_within p (accepted_passes s p e)), rows_most s p e, length_most s p e)
