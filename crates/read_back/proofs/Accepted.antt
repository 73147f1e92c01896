-- What an accepted plan is like: its own texts have bytes 20 to 7E (hexadecimal) only, and the values of its `int` bindings and arms
-- are below 2 ^ 128.
use Rattle.std.specs.Prelude.{ℕ, zero, suc, ◌≡◌, Bool, cond, eqb, get_or, drop}
use Prim.Native.String.{String}
use Rattle.std.proofs.Math.Path.{refl}
use Rattle.std.proofs.Common.{sym, arith, ne_eqb}
use Rattle.std.proofs.Math.Bool.{true, false}
use Rattle.std.proofs.Math.Option.{some}
use mathlib.Core.List.{List, [], ◌∷◌}
use Rattle.std.proofs.lemmas.Bool.{eqb-false}
use Rattle.text.specs.Split.{null, push, split}
use Rattle.literal.specs.Reference.{within}
use Rattle.literal.specs.QuoteLaws.{printable}
use Rattle.plan.specs.Plan.{TypeData, Variant, Term, Environment, Generated, Plan}
use Rattle.plan.specs.Layout.{text_row, table, environment, plan_of, read}
use Rattle.plan.specs.Refusal.{every, allowed, bytes_allowed, fits_length, refused, accepted, laid_out, outcome}
use Rattle.splitting.specs.Cases.{and_left, and_right, and_both}
use Rattle.splitting.specs.Accepted.{Holds, apply_holds, then_holds, apply_any, ended_holds, accepted_read}
use Rattle.read_back.specs.ValueLaws.{table_small}
use Rattle.read_back.proofs.ValueLaws.{table_holds, all_small}

-- CUTTING

-- what holds of each item that is no separator holds of the items of each part
module _ {A : Type 0} (sep good fine : A → Bool) (f : (x : A) → sep x ≡ false → good x ≡ true → fine x ≡ true) where
  push_fine : (x : A) (ps : List (List A)) → fine x ≡ true → every (every fine) ps ≡ true → every (every fine) (push x ps) ≡ true
  unfolding every
  push_fine x [] h k = and_both (and_both h refl) refl
  push_fine x (p ∷ ps) h k = and_both (and_both h (and_left (every fine p) _ k)) (and_right (every fine p) _ k)

  split_fine : (xs : List A) → every good xs ≡ true → every (every fine) (split sep xs) ≡ true
  unfolding split every
  split_fine [] h = refl
  split_fine (x ∷ xs) h = go (sep x) refl (split_fine xs (and_right (good x) _ h))
    where
      go : (b : Bool) → sep x ≡ b → every (every fine) (split sep xs) ≡ true → every (every fine) (cond b ([] ∷ split sep xs) (push x (split sep xs))) ≡ true
      go true e k = k
      go false e k = push_fine x (split sep xs) (f x e (and_left (good x) _ h)) k

byte_fine : (c : ℕ) → eqb 10 c ≡ false → allowed c ≡ true → within 32 126 c ≡ true
byte_fine c e h = rw (ne_eqb c 10 (λ q. eqb-false 10 c e (sym q))) at h

-- LINES AND TABLES

abbrev pub printed : List ℕ → Bool
printed = every (within 32 126)

table_printed : (ts : List (List (List ℕ))) (n : ℕ) → every (every printed) ts ≡ true → every printed (get_or ts n []) ≡ true
unfolding every
table_printed [] n h = refl
table_printed (t ∷ ts) zero h = and_left (every printed t) _ h
table_printed (t ∷ ts) (suc n) h = table_printed ts n (and_right (every printed t) _ h)

-- a plan's own texts
pub record Printed (e : Environment) : Type 0 where
  pub files : every printed e.files ≡ true
  pub syms : every printed e.syms ≡ true
  pub poss : every printed e.poss ≡ true

environment_printed : (ts : List (List (List ℕ))) → every (every printed) ts ≡ true → Holds Printed (environment ts)
unfolding environment Holds
environment_printed ts h =
    let text : (names : String) (n : ℕ) → Holds (λ xs. every printed xs ≡ true) (table names text_row (get_or ts n [])) = λ names n. table_holds printed printed text_row (λ l g. g) names (get_or ts n []) (table_printed ts n h) in
    apply_any Printed _ _ (apply_any (λ g. (m : List Term) → Printed (g m)) _ _ (apply_any (λ g. (v : List Variant) (m : List Term) → Printed (g v m)) _ _
    (apply_holds (λ xs. every printed xs ≡ true) (λ g. (y : List TypeData) (v : List Variant) (m : List Term) → Printed (g y v m)) _ _
    (apply_holds (λ xs. every printed xs ≡ true) (λ g. (p : List (List ℕ)) → every printed p ≡ true → (y : List TypeData) (v : List Variant) (m : List Term) → Printed (g p y v m)) _ _
    (apply_holds (λ xs. every printed xs ≡ true) (λ g. (s : List (List ℕ)) → every printed s ≡ true → (p : List (List ℕ)) → every printed p ≡ true → (y : List TypeData) (v : List Variant) (m : List Term) → Printed (g s p y v m)) (some _) _
    (λ f hf s hs p hp y v m. record { files = hf; syms = hs; poss = hp })
    (text "file" 1)) (text "sym" 2)) (text "pos" 3))))

-- THE PLAN

pub record Readable (p : Plan) : Type 0 where
  pub texts : Printed p.env
  pub values : every table_small p.generated ≡ true

plan_readable : (ts : List (List (List ℕ))) → every (every printed) ts ≡ true → Holds Readable (plan_of ts)
unfolding plan_of Holds
plan_readable ts h =
    apply_holds (λ gs. every table_small gs ≡ true) Readable _ _
    (apply_holds Printed (λ f. (gs : List Generated) → every table_small gs ≡ true → Readable (f gs)) _ _
    (apply_any (λ f. (e : Environment) → Printed e → (gs : List Generated) → every table_small gs ≡ true → Readable (f e gs)) (some _) _ (λ o e c gs n. record { texts = c; values = n }))
    (environment_printed ts h))
    (all_small (drop 7 ts))

read_readable : (s : List ℕ) → bytes_allowed s ≡ true → Holds Readable (read s)
unfolding read bytes_allowed every
read_readable s h =
    then_holds (λ ls. every printed ls ≡ true) Readable _ _ (ended_holds (every printed) printed (λ l ls. refl) refl (split (eqb 10) s) (split_fine (eqb 10) allowed (within 32 126) byte_fine s h))
    (λ ls k. then_holds (λ ts. every (every printed) ts ≡ true) Readable _ _ (ended_holds (every (every printed)) (every printed) (λ t ts. refl) refl (split null ls) (split_fine null printed printed (λ l e g. g) ls k)) plan_readable)

accepted_bytes : (s : List ℕ) (p : Plan) → outcome s ≡ accepted p → bytes_allowed s ≡ true
unfolding outcome
accepted_bytes s p = go (fits_length s) (bytes_allowed s) refl
  where
    go : (a b : Bool) → bytes_allowed s ≡ b → cond a (cond b (laid_out (read s)) (refused 2)) (refused 1) ≡ accepted p → bytes_allowed s ≡ true
    go true true h e = h
    go true false h e = absurd (let z : ◌≡◌ {A = ℕ} 0 1 = cc in omega arith)
    go false b h e = absurd (let z : ◌≡◌ {A = ℕ} 0 1 = cc in omega arith)

pub accepted_readable : (s : List ℕ) (p : Plan) → outcome s ≡ accepted p → Readable p
unfolding Holds
accepted_readable s p e = rw (accepted_read s p e) at (read_readable s (accepted_bytes s p e))

-- a text of a table is printable
printed_printable : (s : List ℕ) → printed s ≡ true → printable s ≡ true
unfolding every printable
printed_printable [] h = refl
printed_printable (c ∷ s) h = and_both (and_left (within 32 126 c) _ h) (printed_printable s (and_right (within 32 126 c) _ h))

pub text_printable : (ts : List (List ℕ)) (n : ℕ) → every printed ts ≡ true → printable (get_or ts n []) ≡ true
unfolding every printable
text_printable [] n h = refl
text_printable (t ∷ ts) zero h = printed_printable t (and_left (printed t) _ h)
text_printable (t ∷ ts) (suc n) h = text_printable ts n (and_right (printed t) _ h)
