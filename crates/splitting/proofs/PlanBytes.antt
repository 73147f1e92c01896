-- Two plans with the same bytes but for the values of split and threshold are read as plans that differ only in these.
use Rattle.std.specs.Prelude.{ℕ, ◌≡◌, refl, Bool, cond, not, eqb, length, get_or, drop}
use Rattle.std.proofs.Math.Path.{sym}
use Rattle.std.proofs.Common.{ap, ◌∙◌, ne_eqb}
use Rattle.std.proofs.Math.Bool.{true, false}
use Rattle.std.proofs.Math.Option.{Option, some, none}
use mathlib.Core.List.{List, [], ◌∷◌, ◌++◌}
use Rattle.std.proofs.lemmas.Bool.{not-true, eqb-false}
use Rattle.text.specs.Codes.{codes}
use Rattle.text.specs.Split.{null, push, split, ended, same}
use Rattle.plan.specs.Plan.{Options, Environment, Generated, Plan}
use Rattle.plan.specs.Layout.{◌⊛◌, each, one, then, bit, at, row, options_row, table, generated_terms, environment, plan_of, read}
use Rattle.plan.specs.Refusal.{accepted, outcome}
use Rattle.codegen.specs.Piece.{plain}
use Rattle.splitting.specs.Demand3.{DifferOnlyInSplitting, SplitPair, digit, plan_bytes, SplitBytes}
use Rattle.splitting.specs.Cases.{and_left, and_right, and_both, by_bool, none_some}
use Rattle.splitting.specs.Accepted.{Holds, some_holds, apply_holds, apply_any, cond_holds, accepted_read}

-- LINES

split_line : (u v : List ℕ) → plain u ≡ true → split (eqb 10) (u ++ (10 ∷ v)) ≡ u ∷ split (eqb 10) v
unfolding split
split_line [] v h = refl
split_line (c ∷ u) v h =
    rw (ne_eqb 10 c (λ q. eqb-false c 10 (not-true (eqb c 10) (and_left (not (eqb c 10)) (plain u) h)) (sym q)), split_line u v (and_right (not (eqb c 10)) (plain u) h))

abbrev prepend : {A : Type 0} → A → Option (List A) → Option (List A)
prepend x none = none
prepend x (some xs) = some (x ∷ xs)

ended_prepend : {A : Type 0} (p q : List A) (ps : List (List A)) → ended (p ∷ q ∷ ps) ≡ prepend p (ended (q ∷ ps))
unfolding ended
ended_prepend {A = A} p q ps = go (ended (q ∷ ps)) refl
  where
    go : (o : Option (List (List A))) → ended (q ∷ ps) ≡ o → ended (p ∷ q ∷ ps) ≡ prepend p (ended (q ∷ ps))
    go none e = rw e
    go (some x) e = rw e

push_some : {A : Type 0} (p : List A) (x : A) (ps : List (List A)) → ended (p ∷ push x ps) ≡ prepend p (ended (push x ps))
push_some p x [] = ended_prepend p (x ∷ []) []
push_some p x (q ∷ ps) = ended_prepend p (x ∷ q) ps

-- `split` gives at least one part
ended_split : {A : Type 0} (sep : A → Bool) (p : List A) (s : List A) → ended (p ∷ split sep s) ≡ prepend p (ended (split sep s))
unfolding split
ended_split sep p [] = ended_prepend p [] []
ended_split sep p (x ∷ s) =
    by_bool (λ b. ended (p ∷ cond b ([] ∷ split sep s) (push x (split sep s))) ≡ prepend p (ended (cond b ([] ∷ split sep s) (push x (split sep s))))) (sep x)
    (ended_prepend p [] (split sep s)) (push_some p x (split sep s))

-- the tables after the first
unfoldable rest_tables : List ℕ → Option (List (List (List ℕ)))
rest_tables rest = then (ended (split (eqb 10) rest)) (λ lines. ended (split null lines))

-- the first table's two lines
abbrev names_line : List ℕ
names_line = codes "nopragmas log split threshold"

abbrev options_line : Bool → Bool → Bool → List ℕ → List ℕ
options_line n l s t = digit n ∷ 32 ∷ digit l ∷ 32 ∷ digit s ∷ 32 ∷ t

abbrev first_table : Bool → Bool → Bool → List ℕ → List (List ℕ)
first_table n l s t = names_line ∷ options_line n l s t ∷ []

plain_digit : (b : Bool) → not (eqb (digit b) 10) ≡ true
plain_digit true = refl
plain_digit false = refl

plain_options : (n l s : Bool) (t : List ℕ) → plain t ≡ true → plain (options_line n l s t) ≡ true
plain_options n l s t h = and_both (plain_digit n) (and_both (plain_digit l) (and_both (plain_digit s) h))

split_bytes : (n l s : Bool) (t rest : List ℕ) → plain t ≡ true → split (eqb 10) (plan_bytes n l s t rest) ≡ names_line ∷ options_line n l s t ∷ [] ∷ split (eqb 10) rest
split_bytes n l s t rest h =
    split_line names_line _ refl
    ∙ ap (λ (ls : List (List ℕ)). names_line ∷ ls) (split_line (options_line n l s t) (10 ∷ rest) (plain_options n l s t h) ∙ ap (λ (ls : List (List ℕ)). options_line n l s t ∷ ls) (split_line [] rest refl))

split_tables : (n l s : Bool) (t : List ℕ) (ls : List (List ℕ)) → split null (names_line ∷ options_line n l s t ∷ [] ∷ ls) ≡ first_table n l s t ∷ split null ls
unfolding split
split_tables n l s t ls = refl

module _ (n l s : Bool) (t : List ℕ) where
  read_tables : (x : Option (List (List (List ℕ)))) → then (prepend (first_table n l s t) x) plan_of ≡ then x (λ ts. plan_of (first_table n l s t ∷ ts))
  read_tables none = refl
  read_tables (some ts) = refl

  read_lines : (x : Option (List (List ℕ))) → then (prepend names_line (prepend (options_line n l s t) (prepend [] x))) (λ ls. then (ended (split null ls)) plan_of) ≡ then (then x (λ ls. ended (split null ls))) (λ ts. plan_of (first_table n l s t ∷ ts))
  read_lines none = refl
  read_lines (some ls) = rw (split_tables n l s t ls, ended_split null (first_table n l s t) ls) (read_tables (ended (split null ls)))

  read_bytes : (rest : List ℕ) → plain t ≡ true → read (plan_bytes n l s t rest) ≡ then (rest_tables rest) (λ ts. plan_of (first_table n l s t ∷ ts))
  unfolding read rest_tables
  read_bytes rest h =
      rw (split_bytes n l s t rest h, ended_prepend names_line (options_line n l s t) ([] ∷ split (eqb 10) rest), ended_prepend (options_line n l s t) [] (split (eqb 10) rest), ended_split (eqb 10) [] rest)
      (read_lines (ended (split (eqb 10) rest)))

-- OPTIONS

record Says (n l s : Bool) (o : Options) : Type 0 where
  nopragmas : o.nopragmas ≡ n
  log : o.log ≡ l
  split : o.split ≡ s

bit_holds : (b : Bool) → Holds (λ x. x ≡ b) (bit (digit b ∷ []))
unfolding Holds bit same
bit_holds true = refl
bit_holds false = refl

split_value : (b : Bool) (s : List ℕ) → split (eqb 32) (digit b ∷ 32 ∷ s) ≡ (digit b ∷ []) ∷ split (eqb 32) s
unfolding split
split_value true s = refl
split_value false s = refl

split_values : (n l s : Bool) (t : List ℕ) → split (eqb 32) (options_line n l s t) ≡ (digit n ∷ []) ∷ (digit l ∷ []) ∷ (digit s ∷ []) ∷ split (eqb 32) t
split_values n l s t = rw (split_value n, split_value l, split_value s)

values_say : (n l s : Bool) (o : List ℕ) → let vs = split (eqb 32) o in
    Holds (λ x. x ≡ n) (bit (at vs 0)) → Holds (λ x. x ≡ l) (bit (at vs 1)) → Holds (λ x. x ≡ s) (bit (at vs 2)) → Holds (Says n l s) (options_row o)
unfolding options_row row
values_say n l s o hn hl hs =
    cond_holds (Says n l s) (eqb (length (split (eqb 32) o)) 4) _
    (apply_any (Says n l s) _ _
    (apply_holds (λ x. x ≡ s) (λ (f : ℕ → Options). (a : ℕ) → Says n l s (f a)) _ _
    (apply_holds (λ x. x ≡ l) (λ (f : Bool → ℕ → Options). (x : Bool) → x ≡ s → (a : ℕ) → Says n l s (f x a)) _ _
    (apply_holds (λ x. x ≡ n) (λ (f : Bool → Bool → ℕ → Options). (y : Bool) → y ≡ l → (x : Bool) → x ≡ s → (a : ℕ) → Says n l s (f y x a)) _ _ (some_holds _ _ (λ z kn y kl x ks a. record { nopragmas = kn; log = kl; split = ks }))
    hn) hl) hs))

options_say : (n l s : Bool) (t : List ℕ) → Holds (Says n l s) (options_row (options_line n l s t))
options_say n l s t = values_say n l s (options_line n l s t) (rw (split_values n l s t) (bit_holds n)) (rw (split_values n l s t) (bit_holds l)) (rw (split_values n l s t) (bit_holds s))

one_each : {A : Type 0} (P : A → Type 0) (read : List ℕ → Option A) (x : List ℕ) → Holds P (read x) → Holds P (one (each read (x ∷ [])))
unfolding each ◌⊛◌ Holds
one_each {A = A} P read x = go (read x)
  where
    go : (o : Option A) → Holds P o → Holds P (one (some (λ y ys. y ∷ ys) ⊛ o ⊛ some []))
    go none h = tt
    go (some y) h = h

table_says : (n l s : Bool) (t : List ℕ) → Holds (Says n l s) (one (table "nopragmas log split threshold" options_row (first_table n l s t)))
unfolding table same
table_says n l s t = one_each (Says n l s) options_row (options_line n l s t) (options_say n l s t)

-- THE TWO PLANS

-- what is read from the tables ts, whose options have the property P
record ReadFrom (P : Options → Type 0) (ts : List (List (List ℕ))) (p : Plan) : Type 0 where
  options : P p.options
  env : environment ts ≡ some p.env
  generated : generated_terms (drop 7 ts) ≡ some p.generated

is_read : {A : Type 0} (o : Option A) → Holds (λ x. o ≡ some x) o
unfolding Holds
is_read none = tt
is_read (some x) = refl

plan_from : (P : Options → Type 0) (ts : List (List (List ℕ))) → Holds P (one (table "nopragmas log split threshold" options_row (get_or ts 0 []))) → Holds (ReadFrom P ts) (plan_of ts)
unfolding plan_of
plan_from P ts h =
    apply_holds (λ gs. generated_terms (drop 7 ts) ≡ some gs) (ReadFrom P ts) _ _
    (apply_holds (λ e. environment ts ≡ some e) (λ (f : List Generated → Plan). (gs : List Generated) → generated_terms (drop 7 ts) ≡ some gs → ReadFrom P ts (f gs)) _ _
    (apply_holds P (λ (f : Environment → List Generated → Plan). (e : Environment) → environment ts ≡ some e → (gs : List Generated) → generated_terms (drop 7 ts) ≡ some gs → ReadFrom P ts (f e gs)) _ _
    (some_holds _ _ (λ o ho e he gs hg. record { options = ho; env = he; generated = hg }))
    h) (is_read _)) (is_read _)

some_equal : {A : Type 0} {x y : A} → some x ≡ some y → x ≡ y
some_equal {A = A} {x = x} h = ap (get x) h
  where
    get : A → Option A → A
    get d none = d
    get d (some z) = z

record Read (p q : Plan) : Type 0 where
  alike : DifferOnlyInSplitting p q
  on : p.options.split ≡ true
  off : q.options.split ≡ false

module _ (n l : Bool) (t u : List ℕ) (p q : Plan) where
  same_rest : (ts : List (List (List ℕ))) → ReadFrom (Says n l true) (first_table n l true t ∷ ts) p → ReadFrom (Says n l false) (first_table n l false u ∷ ts) q → DifferOnlyInSplitting p q
  unfolding environment
  same_rest ts a b = record {
    nopragmas = a.options.nopragmas ∙ sym b.options.nopragmas;
    log = a.options.log ∙ sym b.options.log;
    env = some_equal (sym a.env ∙ b.env);
    generated = some_equal (sym a.generated ∙ b.generated);
  }

  read_pair : (x : Option (List (List (List ℕ)))) → then x (λ ts. plan_of (first_table n l true t ∷ ts)) ≡ some p → then x (λ ts. plan_of (first_table n l false u ∷ ts)) ≡ some q → Read p q
  unfolding Holds
  read_pair none e f = none_some e
  read_pair (some ts) e f =
      let a : ReadFrom (Says n l true) (first_table n l true t ∷ ts) p = rw e at (plan_from (Says n l true) (first_table n l true t ∷ ts) (table_says n l true t)) in
      let b : ReadFrom (Says n l false) (first_table n l false u ∷ ts) q = rw f at (plan_from (Says n l false) (first_table n l false u ∷ ts) (table_says n l false u)) in
      record { alike = same_rest ts a b; on = a.options.split; off = b.options.split }

pub bytes_pair : (a b : List ℕ) (p q : Plan) → SplitBytes a b → outcome a ≡ accepted p → outcome b ≡ accepted q → SplitPair a b p q
bytes_pair a b p q s e f =
    let x : read a ≡ then (rest_tables s.rest) (λ ts. plan_of (first_table s.nopragmas s.log true s.threshold ∷ ts)) = ap read s.split_bytes ∙ read_bytes s.nopragmas s.log true s.threshold s.rest s.in_line in
    let y : read b ≡ then (rest_tables s.rest) (λ ts. plan_of (first_table s.nopragmas s.log false s.other_threshold ∷ ts)) = ap read s.other_bytes ∙ read_bytes s.nopragmas s.log false s.other_threshold s.rest s.other_in_line in
    let r : Read p q = read_pair s.nopragmas s.log s.threshold s.other_threshold p q (rest_tables s.rest) (sym x ∙ accepted_read a p e) (sym y ∙ accepted_read b q f) in
    record { split_plan = e; other_plan = f; alike = r.alike; on = r.on; off = r.off }
