-- What an accepted plan is like: its own texts have no line feed, since lines are cut at line feeds, and its rows are laid out.
use Rattle.std.specs.Prelude.{ℕ, zero, suc, ◌≤◌, ◌≡◌, refl, Bool, true, false, cond, not, ◌&&◌, List, [], ◌∷◌, get_or, drop, eqb}
use Prim.Native.String.{String}
use Rattle.std.proofs.Common.{sym, ap, ◌∙◌, arith, ne_eqb}
use Rattle.std.proofs.Math.Option.{Option, some, none}
use Rattle.std.proofs.lemmas.Bool.{eqb-false}
use Rattle.text.specs.Split.{null, push, split, ended}
use Rattle.plan.specs.Plan.{TypeData, Variant, Term, Environment, Generated, Plan}
use Rattle.plan.specs.Binding.{BindingRow}
use Rattle.plan.specs.Row.{Row}
use Rattle.plan.specs.Layout.{◌⊛◌, each, only, then, is, text_row, steps, nested, table, generated_term, generated_terms, environment, plan_of, read}
use Rattle.plan.specs.Refusal.{every, matches_armed, matches_have_arms, within_most, all_exist, lengths_fit, sources_lower, returns_fit, loops_iterate, bytes_allowed, fits_length, Outcome, refused, accepted, judged, laid_out, outcome}
use Rattle.codegen.specs.Piece.{plain}
use Rattle.splitting.specs.Cases.{and_left, and_right, and_both}
use Rattle.splitting.specs.Plains.{plains, Clean}
use Rattle.splitting.specs.TermsLaw.{all_arms_placed}
use Rattle.splitting.specs.Shape.{nested_placed}

-- what is read, if anything is, has the property P
unfoldable pub Holds : {A : Type 0} → (A → Type 0) → Option A → Type 0
Holds P none = Unit
Holds P (some x) = P x

pub some_holds : {A : Type 0} (P : A → Type 0) (x : A) → P x → Holds P (some x)
unfolding Holds
some_holds P x h = h

pub apply_holds : {A B : Type 0} (Q : A → Type 0) (P : B → Type 0) (f : Option (A → B)) (x : Option A) → Holds (λ g. (a : A) → Q a → P (g a)) f → Holds Q x → Holds P (f ⊛ x)
unfolding Holds ◌⊛◌
apply_holds Q P none x h k = tt
apply_holds Q P (some f) none h k = tt
apply_holds Q P (some f) (some a) h k = h a k

pub then_holds : {A B : Type 0} (Q : A → Type 0) (P : B → Type 0) (o : Option A) (f : A → Option B) → Holds Q o → ((a : A) → Q a → Holds P (f a)) → Holds P (then o f)
unfolding Holds
then_holds Q P none f h k = tt
then_holds Q P (some a) f h k = k a h

pub cond_holds : {A : Type 0} (P : A → Type 0) (b : Bool) (x : Option A) → Holds P x → Holds P (cond b x none)
unfolding Holds
cond_holds P true x h = h
cond_holds P false x h = tt

-- nothing is asked of what x reads
pub apply_any : {A B : Type 0} (P : B → Type 0) (f : Option (A → B)) (x : Option A) → Holds (λ g. (a : A) → P (g a)) f → Holds P (f ⊛ x)
unfolding Holds ◌⊛◌
apply_any P none x h = tt
apply_any P (some f) none h = tt
apply_any P (some f) (some a) h = h a

only_holds : {A : Type 0} (test : A → Bool) (o : Option A) → Holds (λ x. test x ≡ true) (only test o)
unfolding only Holds
only_holds test none = tt
only_holds test (some x) = go (test x) refl
  where
    go : (b : Bool) → test x ≡ b → Holds (λ y. test y ≡ true) (cond b (some x) none)
    go true h = h
    go false h = tt

-- LINES

push_plain : (c : ℕ) (ps : List (List ℕ)) → not (eqb c 10) ≡ true → plains ps ≡ true → plains (push c ps) ≡ true
push_plain c [] h k = and_both (and_both h refl) refl
push_plain c (p ∷ ps) h k = and_both (and_both h (and_left (plain p) (plains ps) k)) (and_right (plain p) (plains ps) k)

lines_plain : (s : List ℕ) → plains (split (eqb 10) s) ≡ true
unfolding split
lines_plain [] = refl
lines_plain (c ∷ s) = go (eqb 10 c) refl (lines_plain s)
  where
    go : (b : Bool) → eqb 10 c ≡ b → plains (split (eqb 10) s) ≡ true → plains (cond b ([] ∷ split (eqb 10) s) (push c (split (eqb 10) s))) ≡ true
    go true e h = h
    go false e h = push_plain c (split (eqb 10) s) (ap not (ne_eqb c 10 (λ q. eqb-false 10 c e (sym q)))) h

-- the lines of every table are plain
abbrev tables_plain : List (List (List ℕ)) → Bool
tables_plain [] = true
tables_plain (t ∷ ts) = plains t && tables_plain ts

push_tables : (l : List ℕ) (ts : List (List (List ℕ))) → plain l ≡ true → tables_plain ts ≡ true → tables_plain (push l ts) ≡ true
push_tables l [] h k = and_both (and_both h refl) refl
push_tables l (t ∷ ts) h k = and_both (and_both h (and_left (plains t) (tables_plain ts) k)) (and_right (plains t) (tables_plain ts) k)

split_tables : (ls : List (List ℕ)) → plains ls ≡ true → tables_plain (split null ls) ≡ true
unfolding split
split_tables [] h = refl
split_tables (l ∷ ls) h = go (null l) (split_tables ls (and_right (plain l) (plains ls) h))
  where
    go : (b : Bool) → tables_plain (split null ls) ≡ true → tables_plain (cond b ([] ∷ split null ls) (push l (split null ls))) ≡ true
    go true k = k
    go false k = push_tables l (split null ls) (and_left (plain l) (plains ls) h) k

-- the last part is left out
pub ended_holds : {A : Type 0} (P : List (List A) → Bool) (test : List A → Bool) → ((p : List A) (ps : List (List A)) → P (p ∷ ps) ≡ test p && P ps) → P [] ≡ true → (ps : List (List A)) → P ps ≡ true → Holds (λ qs. P qs ≡ true) (ended ps)
unfolding ended Holds
ended_holds P test c n [] h = tt
ended_holds P test c n (p ∷ []) h = cond_holds (λ qs. P qs ≡ true) (null p) (some []) n
ended_holds {A = A} P test c n (p ∷ q ∷ ps) h = go (ended (q ∷ ps)) refl (ended_holds P test c n (q ∷ ps) (and_right (test p) (P (q ∷ ps)) (sym (c p (q ∷ ps)) ∙ h)))
  where
    go : (o : Option (List (List A))) → ended (q ∷ ps) ≡ o → Holds (λ qs. P qs ≡ true) (ended (q ∷ ps)) → Holds (λ qs. P qs ≡ true) (ended (p ∷ q ∷ ps))
    go none e k = rw e tt
    go (some x) e k = rw e (c p x ∙ and_both (and_left (test p) (P (q ∷ ps)) (sym (c p (q ∷ ps)) ∙ h)) (rw e at k))

-- TABLES

each_text : (ls : List (List ℕ)) → each text_row ls ≡ some ls
unfolding each ◌⊛◌
each_text [] = refl
each_text (l ∷ ls) = rw (each_text ls)

texts_plain : (names : String) (t : List (List ℕ)) → plains t ≡ true → Holds (λ xs. plains xs ≡ true) (table names text_row t)
unfolding table Holds
texts_plain names [] h = tt
texts_plain names (l ∷ ls) h = cond_holds (λ xs. plains xs ≡ true) (is names l) (each text_row ls) (rw (each_text ls) (and_right (plain l) (plains ls) h))

table_plain : (ts : List (List (List ℕ))) (n : ℕ) → tables_plain ts ≡ true → plains (get_or ts n []) ≡ true
table_plain [] n h = refl
table_plain (t ∷ ts) zero h = and_left (plains t) (tables_plain ts) h
table_plain (t ∷ ts) (suc n) h = table_plain ts n (and_right (plains t) (tables_plain ts) h)

environment_clean : (ts : List (List (List ℕ))) → tables_plain ts ≡ true → Holds Clean (environment ts)
unfolding environment Holds
environment_clean ts h =
    let text : (names : String) (n : ℕ) → Holds (λ xs. plains xs ≡ true) (table names text_row (get_or ts n [])) = λ names n. texts_plain names (get_or ts n []) (table_plain ts n h) in
    apply_any Clean _ _ (apply_any (λ g. (m : List Term) → Clean (g m)) _ _ (apply_any (λ g. (v : List Variant) (m : List Term) → Clean (g v m)) _ _
    (apply_holds (λ xs. plains xs ≡ true) (λ g. (y : List TypeData) (v : List Variant) (m : List Term) → Clean (g y v m)) _ _
    (apply_holds (λ xs. plains xs ≡ true) (λ g. (p : List (List ℕ)) → plains p ≡ true → (y : List TypeData) (v : List Variant) (m : List Term) → Clean (g p y v m)) _ _
    (apply_holds (λ xs. plains xs ≡ true) (λ g. (s : List (List ℕ)) → plains s ≡ true → (p : List (List ℕ)) → plains p ≡ true → (y : List TypeData) (v : List Variant) (m : List Term) → Clean (g s p y v m)) (some _) _
    (λ f hf s hs p hp y v m. record { files = hf; syms = hs; poss = hp })
    (text "file" 1)) (text "sym" 2)) (text "pos" 3))))

-- rows that are laid out
abbrev Nested : Generated → Bool
Nested g = nested (steps ∷ []) g.rows

generated_nested : (t b r : List (List ℕ)) → Holds (λ g. Nested g ≡ true) (generated_term t b r)
unfolding generated_term Holds
generated_nested t b r =
    apply_holds (λ rs. nested (steps ∷ []) rs ≡ true) (λ g. Nested g ≡ true) _ _
    (apply_any (λ f. (rs : List Row) → nested (steps ∷ []) rs ≡ true → Nested (f rs) ≡ true) _ _
    (apply_any (λ f. (bs : List BindingRow) (rs : List Row) → nested (steps ∷ []) rs ≡ true → Nested (f bs rs) ≡ true) (some _) _ (λ n bs rs h. h)))
    (only_holds (nested (steps ∷ [])) _)

all_nested : (ts : List (List (List ℕ))) → Holds (λ gs. every Nested gs ≡ true) (generated_terms ts)
unfolding generated_terms every Holds
all_nested [] = refl
all_nested (t ∷ []) = tt
all_nested (t ∷ b ∷ []) = tt
all_nested (t ∷ b ∷ r ∷ ts) =
    apply_holds (λ gs. every Nested gs ≡ true) (λ gs. every Nested gs ≡ true) _ _
    (apply_holds (λ g. Nested g ≡ true) (λ f. (gs : List Generated) → every Nested gs ≡ true → every Nested (f gs) ≡ true) (some _) _ (λ g h gs k. and_both h k) (generated_nested t b r))
    (all_nested ts)

-- THE PLAN

pub record LaidOut (p : Plan) : Type 0 where
  pub clean : Clean p.env
  pub nests : every Nested p.generated ≡ true

plan_laid_out : (ts : List (List (List ℕ))) → tables_plain ts ≡ true → Holds LaidOut (plan_of ts)
unfolding plan_of Holds
plan_laid_out ts h =
    apply_holds (λ gs. every Nested gs ≡ true) LaidOut _ _
    (apply_holds Clean (λ f. (gs : List Generated) → every Nested gs ≡ true → LaidOut (f gs)) _ _
    (apply_any (λ f. (e : Environment) → Clean e → (gs : List Generated) → every Nested gs ≡ true → LaidOut (f e gs)) (some _) _ (λ o e c gs n. record { clean = c; nests = n }))
    (environment_clean ts h))
    (all_nested (drop 7 ts))

read_laid_out : (s : List ℕ) → Holds LaidOut (read s)
unfolding read
read_laid_out s =
    then_holds (λ ls. plains ls ≡ true) LaidOut _ _ (ended_holds plains plain (λ l ls. refl) refl (split (eqb 10) s) (lines_plain s))
    (λ ls h. then_holds (λ ts. tables_plain ts ≡ true) LaidOut _ _ (ended_holds tables_plain plains (λ t ts. refl) refl (split null ls) (split_tables ls h)) plan_laid_out)

-- THE OUTCOME

-- what is accepted has the property P, and a refusal has a number that is not 0
unfoldable Judges : (Plan → Type 0) → Outcome → Type 0
Judges P (refused n) = 1 ≤ n
Judges P (accepted p) = P p

cond_judges : (P : Plan → Type 0) (b : Bool) (x : Outcome) (n : ℕ) → (b ≡ true → Judges P x) → Judges P (cond b x (refused (suc n)))
unfolding Judges
cond_judges P true x n h = h refl
cond_judges P false x n h = omega arith

-- what this crate asks of a plan
pub record Fit (p : Plan) : Type 0 where
  pub clean : Clean p.env
  pub placed : all_arms_placed p.generated ≡ true

all_placed : (gs : List Generated) → every Nested gs ≡ true → every (λ g. matches_armed g.rows) gs ≡ true → all_arms_placed gs ≡ true
unfolding all_arms_placed every
all_placed [] h m = refl
all_placed (g ∷ gs) h m =
    and_both (nested_placed g.rows (and_left (Nested g) (every Nested gs) h) (and_left (matches_armed g.rows) _ m))
    (all_placed gs (and_right (Nested g) (every Nested gs) h) (and_right (matches_armed g.rows) _ m))

plan_fit : (p : Plan) → LaidOut p → matches_have_arms p ≡ true → Fit p
unfolding matches_have_arms
plan_fit p l m = record { clean = l.clean; placed = all_placed p.generated l.nests m }

judged_says : (P : Plan → Type 0) (p : Plan) → (matches_have_arms p ≡ true → P p) → Judges P (judged p)
unfolding judged Judges
judged_says P p f =
    cond_judges P (within_most p) _ 3 (λ _. cond_judges P (all_exist p) _ 4 (λ _. cond_judges P (lengths_fit p) _ 5 (λ _. cond_judges P (sources_lower p) _ 6 (λ _.
    cond_judges P (returns_fit p) _ 7 (λ _. cond_judges P (matches_have_arms p) _ 8 (λ m. cond_judges P (loops_iterate p) _ 9 (λ _. f m)))))))

laid_out_says : (P : Plan → Type 0) (o : Option Plan) → ((p : Plan) → o ≡ some p → matches_have_arms p ≡ true → P p) → Judges P (laid_out o)
unfolding Judges
laid_out_says P none f = omega arith
laid_out_says P (some p) f = judged_says P p (f p refl)

outcome_says : (P : Plan → Type 0) (s : List ℕ) → ((p : Plan) → read s ≡ some p → matches_have_arms p ≡ true → P p) → Judges P (outcome s)
unfolding outcome
outcome_says P s f = cond_judges P (fits_length s) _ 0 (λ _. cond_judges P (bytes_allowed s) _ 1 (λ _. laid_out_says P (read s) f))

pub accepted_read : (s : List ℕ) (p : Plan) → outcome s ≡ accepted p → read s ≡ some p
unfolding Judges
accepted_read s p e = rw e at (outcome_says (λ q. read s ≡ some q) s (λ q h m. h))

read_fit : (s : List ℕ) (p : Plan) → read s ≡ some p → matches_have_arms p ≡ true → Fit p
unfolding Holds
read_fit s p e m = plan_fit p (rw e at (read_laid_out s)) m

pub accepted_fit : (s : List ℕ) (p : Plan) → outcome s ≡ accepted p → Fit p
unfolding Judges
accepted_fit s p e = rw e at (outcome_says Fit s (read_fit s))

pub refused_number : (s : List ℕ) (n : ℕ) → outcome s ≡ refused n → 1 ≤ n
unfolding Judges
refused_number s n e = rw e at (outcome_says Fit s (read_fit s))
