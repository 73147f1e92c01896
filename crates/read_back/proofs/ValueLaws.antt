-- The value of each `int` binding and each `int` arm that is read is below 2 ^ 128: "An integer value is 32 lower-case hexadecimal digits".
use Rattle.std.specs.Prelude.{ℕ, suc, ◌+◌, ◌-◌, ◌*◌, ◌^◌, ◌<◌, ◌≤◌, ◌≡◌, Bool, false, cond, ◌&&◌, leb, eqb, length}
use Prim.Native.String.{String}
use Rattle.std.proofs.Math.Path.{refl}
use Rattle.std.proofs.Math.Bool.{true}
use Rattle.std.proofs.Math.Option.{Option, some, none}
use mathlib.Core.List.{List, [], ◌∷◌}
use Rattle.std.proofs.Common.{mul-le-mul_right, mul_assoc, lt_of_lt_of_le, arith, leb-true, eqb-true, lt-ltb}
use Rattle.std.proofs.Math.Nat.{pow-succ'}
use Rattle.text.specs.Split.{split}
use Rattle.plan.specs.Plan.{Generated}
use Rattle.plan.specs.Binding.{Binding, BindingRow}
use Rattle.plan.specs.Constraint.{Constraint}
use Rattle.plan.specs.Row.{ControlFlow, Row, step, arm}
use Rattle.plan.specs.Layout.{◌⊛◌, each, or_else, only, digit, unused, bit, number, number_to, hex_digit, hex_digits, hex_from, value, list, pattern_binding, row, at, is, Kind, by_kind, alone, with_number, with_field, with_bit, with_numbers, with_value, binding_kinds, binding_row, step_kinds, arm_kinds, block_row, table, generated_term, generated_terms}
use Rattle.plan.specs.Refusal.{every}
use Rattle.splitting.specs.Cases.{and_left, and_right, and_both}
use Rattle.splitting.specs.Accepted.{Holds, apply_holds, cond_holds, apply_any}
use Rattle.origin.specs.Origin.{binding_int, arm_int, row_int}
use Rattle.origin.proofs.PieceOrigins.{either}
use Rattle.read_back.specs.ValueLaws.{small, int_small, table_small}

-- DIGITS

digit_below : (c : ℕ) → hex_digit c ≡ true → cond (digit c) (c - 48) (c - 87) < 16
digit_below c = go (digit c) refl
  where
    go : (b : Bool) → digit c ≡ b → hex_digit c ≡ true → cond b (c - 48) (c - 87) < 16
    go true e h = omega (arith, leb-true c 57 (and_right (leb 48 c) (leb c 57) e))
    go false e h = omega (arith, leb-true c 102 (and_right (leb 97 c) (leb c 102) (rw e at h)))

one_digit : (n d m p : ℕ) → d < 16 → m < suc (n * 16 + d) * p → m < suc n * (16 * p)
one_digit n d m p h g =
    let le : suc (n * 16 + d) ≤ suc n * 16 = omega arith in
    lt_of_lt_of_le g (rw (← mul_assoc (suc n) 16 p) (mul-le-mul_right p le))

hex_below : (n : ℕ) (s : List ℕ) → hex_digits s ≡ true → hex_from n s < suc n * 16 ^ length s
unfolding hex_digits hex_from
hex_below n [] h = omega arith
hex_below n (c ∷ s) h =
    let d : ℕ = cond (digit c) (c - 48) (c - 87) in
    rw (pow-succ' 16 (length s)) (one_digit n d (hex_from (n * 16 + d) s) (16 ^ length s) (digit_below c (and_left (hex_digit c) (hex_digits s) h)) (hex_below (n * 16 + d) s (and_right (hex_digit c) (hex_digits s) h)))

value_small : (s : List ℕ) → Holds (λ v. small v ≡ true) (value s)
unfolding value Holds
value_small s = go (eqb (length s) 32 && hex_digits s) refl
  where
    go : (b : Bool) → eqb (length s) 32 && hex_digits s ≡ b → Holds (λ v. small v ≡ true) (cond b (some (hex_from 0 s)) none)
    go true h = lt-ltb (hex_from 0 s) (2 ^ 128) (rw (eqb-true (length s) 32 (and_left (eqb (length s) 32) _ h)) at (hex_below 0 s (and_right (eqb (length s) 32) _ h)))
    go false h = tt

-- KINDS

module _ {A : Type 0} (P : A → Type 0) where
  unused_holds : (s : List ℕ) (x : Option A) → Holds P x → Holds P (unused s x)
  unfolding unused
  unused_holds s x h = cond_holds P (is "-" s) x h

  -- every kind of a list reads what has the property
  data Kinds : List (Kind A) → Type 0 where
    done : Kinds []
    ◌&◌ : {c : Kind A} {cs : List (Kind A)} → ((a b : List ℕ) → Holds P (c.read a b)) → Kinds cs → Kinds (c ∷ cs)

  infixr 20 ◌&◌
  kind_holds : {cs : List (Kind A)} → Kinds cs → (k a b : List ℕ) → Holds P (by_kind cs k a b)
  unfolding by_kind Holds
  kind_holds done k a b = tt
  kind_holds (◌&◌ {c = c} h hs) k a b = either (Holds P) (is c.name k) (h a b) (kind_holds hs k a b)

  alone_holds : {x : A} → P x → (a b : List ℕ) → Holds P (alone x a b)
  unfolding Holds
  alone_holds {x} h a b = unused_holds a _ (unused_holds b (some x) h)

  number_holds : {f : ℕ → A} → ((n : ℕ) → P (f n)) → (a b : List ℕ) → Holds P (with_number f a b)
  unfolding Holds
  number_holds {f} h a b = unused_holds b _ (apply_any P (some f) (number a) h)

  field_holds : {f : ℕ → A} → ((n : ℕ) → P (f n)) → (a b : List ℕ) → Holds P (with_field f a b)
  unfolding Holds
  field_holds {f} h a b = unused_holds b _ (apply_any P (some f) (number_to 255 a) h)

  bit_holds : {f : Bool → A} → ((x : Bool) → P (f x)) → (a b : List ℕ) → Holds P (with_bit f a b)
  unfolding Holds
  bit_holds {f} h a b = unused_holds b _ (apply_any P (some f) (bit a) h)

  numbers_hold : {f : ℕ → ℕ → A} → ((m n : ℕ) → P (f m n)) → (a b : List ℕ) → Holds P (with_numbers f a b)
  unfolding Holds
  numbers_hold {f} h a b = apply_any P _ (number b) (apply_any (λ g. (n : ℕ) → P (g n)) (some f) (number a) h)

  value_holds : {f : ℕ → ℕ → A} → ((m v : ℕ) → small v ≡ true → P (f m v)) → (a b : List ℕ) → Holds P (with_value f a b)
  unfolding Holds
  value_holds {f} h a b = apply_holds (λ v. small v ≡ true) P _ (value b) (apply_any (λ g. (v : ℕ) → small v ≡ true → P (g v)) (some f) (number a) h) (value_small b)

  row_holds : (n : ℕ) (read : List (List ℕ) → Option A) (line : List ℕ) → ((vs : List (List ℕ)) → Holds P (read vs)) → Holds P (row n read line)
  unfolding row
  row_holds n read line h = cond_holds P (eqb (length (split (eqb 32) line)) n) (read (split (eqb 32) line)) (h (split (eqb 32) line))

  or_else_holds : (x y : Option A) → Holds P x → Holds P y → Holds P (or_else x y)
  or_else_holds none y h g = g
  or_else_holds (some x) y h g = h

  only_keeps : (test : A → Bool) (x : Option A) → Holds P x → Holds P (only test x)
  unfolding only Holds
  only_keeps test none h = tt
  only_keeps test (some x) h = cond_holds P (test x) (some x) h

abbrev BindingSmall : Binding → Type 0
BindingSmall k = int_small (binding_int k) ≡ true

abbrev ArmSmall : Constraint → Type 0
ArmSmall c = int_small (arm_int c) ≡ true

small_bindings : Kinds BindingSmall binding_kinds
small_bindings =
    bit_holds BindingSmall (λ x. refl) & value_holds BindingSmall (λ n v h. h) & number_holds BindingSmall (λ n. refl)
    & number_holds BindingSmall (λ n. refl) & number_holds BindingSmall (λ n. refl) & number_holds BindingSmall (λ n. refl)
    & alone_holds BindingSmall refl & numbers_hold BindingSmall (λ m n. refl) & number_holds BindingSmall (λ n. refl)
    & alone_holds BindingSmall refl & alone_holds BindingSmall refl & field_holds BindingSmall (λ n. refl)
    & field_holds BindingSmall (λ n. refl) & field_holds BindingSmall (λ n. refl) & done

small_arms : Kinds ArmSmall arm_kinds
small_arms =
    bit_holds ArmSmall (λ x. refl) & value_holds ArmSmall (λ n v h. h) & number_holds ArmSmall (λ n. refl)
    & numbers_hold ArmSmall (λ m n. refl) & number_holds ArmSmall (λ n. refl) & alone_holds ArmSmall refl & done

-- ROWS

binding_row_small : (line : List ℕ) → Holds (λ r. BindingSmall r.binding) (binding_row line)
unfolding binding_row Holds
binding_row_small line =
    row_holds (λ r. BindingSmall r.binding) 4 _ line
    (λ vs. apply_any (λ r. BindingSmall r.binding) _ _
    (apply_holds BindingSmall (λ g. (ss : List ℕ) → BindingSmall (g ss).binding) (some _) _ (λ k h ss. h) (kind_holds BindingSmall small_bindings _ _ _)))

abbrev RowSmall : Row → Type 0
RowSmall r = int_small (row_int r) ≡ true

step_small : (l : Option ℕ) (c : Option ControlFlow) (bs : Option (List ℕ)) → Holds RowSmall (some (λ l c bs. step l c bs) ⊛ l ⊛ c ⊛ bs)
unfolding Holds
step_small l c bs =
    apply_any RowSmall _ bs (apply_any (λ g. (bs : List ℕ) → RowSmall (g bs)) _ c (apply_any (λ g. (c : ControlFlow) (bs : List ℕ) → RowSmall (g c bs)) (some _) l (λ l c bs. refl)))

arm_small : (l : Option ℕ) (c : Option Constraint) (bs : Option (List (Option ℕ))) → Holds ArmSmall c → Holds RowSmall (some (λ l c bs. arm l c bs) ⊛ l ⊛ c ⊛ bs)
unfolding Holds
arm_small l c bs h =
    apply_any RowSmall _ bs (apply_holds ArmSmall (λ g. (bs : List (Option ℕ)) → RowSmall (g bs)) _ c
    (apply_any (λ g. (c : Constraint) → ArmSmall c → (bs : List (Option ℕ)) → RowSmall (g c bs)) (some _) l (λ l c h bs. h)) h)

block_row_small : (line : List ℕ) → Holds RowSmall (block_row line)
unfolding block_row
block_row_small line =
    row_holds RowSmall 5 _ line (λ vs.
    let l : Option ℕ = number (at vs 0) in
    let c : Option ControlFlow = by_kind step_kinds (at vs 1) (at vs 2) (at vs 3) in
    let d : Option Constraint = by_kind arm_kinds (at vs 1) (at vs 2) (at vs 3) in
    or_else_holds RowSmall (some (λ l c bs. step l c bs) ⊛ l ⊛ c ⊛ list number (at vs 4)) (some (λ l c bs. arm l c bs) ⊛ l ⊛ d ⊛ list pattern_binding (at vs 4))
    (step_small l c (list number (at vs 4))) (arm_small l d (list pattern_binding (at vs 4)) (kind_holds ArmSmall small_arms (at vs 1) (at vs 2) (at vs 3))))

-- TABLES

-- a row has a property if its line has one
module _ {A : Type 0} (good : List ℕ → Bool) (test : A → Bool) (read : List ℕ → Option A) (h : (line : List ℕ) → good line ≡ true → Holds (λ x. test x ≡ true) (read line)) where
  each_holds : (lines : List (List ℕ)) → every good lines ≡ true → Holds (λ xs. every test xs ≡ true) (each read lines)
  unfolding each every Holds
  each_holds [] g = refl
  each_holds (l ∷ ls) g =
      apply_holds (λ xs. every test xs ≡ true) (λ xs. every test xs ≡ true) _ _
      (apply_holds (λ x. test x ≡ true) (λ f. (xs : List A) → every test xs ≡ true → every test (f xs) ≡ true) (some _) _ (λ x k xs ks. and_both k ks) (h l (and_left (good l) _ g))) (each_holds ls (and_right (good l) _ g))

  pub table_holds : (names : String) (t : List (List ℕ)) → every good t ≡ true → Holds (λ xs. every test xs ≡ true) (table names read t)
  unfolding table every Holds
  table_holds names [] g = tt
  table_holds names (l ∷ ls) g = cond_holds (λ xs. every test xs ≡ true) (is names l) (each read ls) (each_holds ls (and_right (good l) _ g))

any_lines : (ls : List (List ℕ)) → every (λ l. true) ls ≡ true
unfolding every
any_lines [] = refl
any_lines (l ∷ ls) = any_lines ls

abbrev Small : Generated → Type 0
Small g = table_small g ≡ true

generated_small : (t b r : List (List ℕ)) → Holds Small (generated_term t b r)
unfolding generated_term Holds
generated_small t b r =
    apply_holds (λ rs. every (λ r. int_small (row_int r)) rs ≡ true) Small _ _
    (apply_holds (λ bs. every (λ x. int_small (binding_int x.binding)) bs ≡ true) (λ f. (rs : List Row) → every (λ r. int_small (row_int r)) rs ≡ true → Small (f rs)) _ _
    (apply_any (λ f. (bs : List BindingRow) → every (λ x. int_small (binding_int x.binding)) bs ≡ true → (rs : List Row) → every (λ r. int_small (row_int r)) rs ≡ true → Small (f bs rs)) (some _) _ (λ n bs h rs g. and_both h g))
    (table_holds (λ l. true) (λ x. int_small (binding_int x.binding)) binding_row (λ l g. binding_row_small l) "kind a b list" b (any_lines b)))
    (only_keeps (λ rs. every (λ r. int_small (row_int r)) rs ≡ true) _ _ (table_holds (λ l. true) (λ r. int_small (row_int r)) block_row (λ l g. block_row_small l) "level kind a b list" r (any_lines r)))

pub all_small : (ts : List (List (List ℕ))) → Holds (λ gs. every table_small gs ≡ true) (generated_terms ts)
unfolding generated_terms every Holds
all_small [] = refl
all_small (t ∷ []) = tt
all_small (t ∷ b ∷ []) = tt
all_small (t ∷ b ∷ r ∷ ts) =
    apply_holds (λ gs. every table_small gs ≡ true) (λ gs. every table_small gs ≡ true) _ _
    (apply_holds Small (λ f. (gs : List Generated) → every table_small gs ≡ true → every table_small (f gs) ≡ true) (some _) _ (λ g h gs k. and_both h k) (generated_small t b r))
    (all_small ts)
