-- The words of bindings and block rows stand for those of the definition. Assumes nothing.
use Prim.Native.Nat.{ℕ, zero, suc, ◌+◌, ◌-◌, ◌*◌, ◌^◌, ◌≤◌, ◌<◌}
use mathlib.Core.Path.{◌≡◌, refl, sym, ap, ◌∙◌}
use mathlib.Core.Bool.{Bool, true, false, cond, ◌&&◌}
use mathlib.Core.List.{List, [], ◌∷◌, ◌++◌}
use mathlib.Core.Option.{Option, some, none}
use native.Mathlib.Omega.{arith}
use native.Mathlib.Nat.{add-mul, mul_assoc, pow-succ'}
use lib.Dec.{eqb, ltb}
use lib.ListN.{length, get_or, take, drop, length-take, length-drop}
use borrow.Author.Tests.{eqb-true, lt-ltb, le-ltb, ltb-true, ltb-false}
use Rattle.text.specs.Codes.{codes}
use Rattle.text.specs.Split.{split, same}
use Rattle.plan.specs.Binding.{Binding, ConstBool, ConstInt, ConstPrim, Argument, Extractor, Constructor, Iterator, MakeVariant, MakeStruct, MakeSome, MatchSome, MatchTuple, MatchVariant, ExtractStruct}
use Rattle.plan.specs.Constraint as constraint
use Rattle.plan.specs.Row.{Match, Equal, Loop, Return, Row, step, arm}
use Rattle.plan.specs.Layout.{◌⊛◌, number, is, unused, bit, number_to, digit, hex_digits, hex_from, value, list, pattern_binding, at, or_else, by_kind, alone, with_number, with_field, with_bit, with_numbers, with_value, binding_row, step_kinds, arm_kinds, block_row}
use Rattle.plan.specs.Layout as layout
use Rattle.tokens.specs.Token.{place}
use Rattle.cells.specs.Words.{◌⧺◌, word}
use Rattle.cells.specs.Value.{flag, cell, Wide, wide_words, pad, word_range, value_of, integer, wide, kind_word}
use Rattle.cells.proofs.values.Laws.{eight, in_eights}
use Rattle.cells.specs.Items.{list_words}
use Rattle.rows.specs.Row.{binding_kinds, binding_as, binding_bs, binding_words, block_kinds, block_as, block_bs, block_lists, block_words}
use Rattle.rows.specs.View.{flagged, binding_made, binding_of, step_made, arm_made, patterns_in, block_of}
use Rattle.rows.proofs.Decode.{row_law, flagged_flag, list_numbers, list_patterns, names_of, by_place, ltb_suc}

-- AN INTEGER'S VALUE

hex_append_from : (n : ℕ) (s t : List ℕ) → hex_from n (s ++ t) ≡ hex_from (hex_from n s) t
unfolding hex_from
hex_append_from n [] t = refl
hex_append_from n (c ∷ s) t = hex_append_from (n * 16 + cond (digit c) (c - 48) (c - 87)) s t

shift_step : (n d p h q : ℕ) → q ≡ d * p + h → (n * 16 + d) * p + h ≡ n * (16 * p) + q
shift_step n d p h q e = rw (add-mul, mul_assoc) (group (n * (16 * p)) (d * p) e) where
  group : (x y : ℕ) → q ≡ y + h → x + y + h ≡ x + q
  group x y e = omega arith

hex_shift : (n : ℕ) (s : List ℕ) → hex_from n s ≡ n * 16 ^ length s + hex_from 0 s
unfolding hex_from
hex_shift n [] = omega arith
hex_shift n (c ∷ s) =
    let d = cond (digit c) (c - 48) (c - 87) in
    let z : 0 + d ≡ d = omega arith in
    hex_shift (n * 16 + d) s ∙ rw (pow-succ' 16 (length s), z) (shift_step n d (16 ^ length s) (hex_from 0 s) (hex_from d s) (hex_shift d s))

hex_eight : (n : ℕ) (s : List ℕ) → length s ≡ 8 → hex_from n s ≡ n * word_range + hex_from 0 s
hex_eight n s h = hex_shift n s ∙ rw h

module _ (t : List ℕ) (h : length t ≡ 32) where
  eight_length : (i : ℕ) → i ≤ 24 → length (eight t i) ≡ 8
  eight_length i g = rw (length-take, length-drop) (omega arith)

  whole : hex_from 0 t ≡ hex_from 0 (eight t 24) + word_range * (hex_from 0 (eight t 16) + word_range * (hex_from 0 (eight t 8) + word_range * hex_from 0 (eight t 0)))
  whole =
      let w = hex_from 0 (eight t 0) in
      let x = hex_from 0 (eight t 8) in
      let y = hex_from 0 (eight t 16) in
      let z = hex_from 0 (eight t 24) in
      let p1 : hex_from w (eight t 8) ≡ w * word_range + x = hex_eight w (eight t 8) (eight_length 8 (omega arith)) in
      let p2 : hex_from (w * word_range + x) (eight t 16) ≡ (w * word_range + x) * word_range + y = hex_eight (w * word_range + x) (eight t 16) (eight_length 16 (omega arith)) in
      let p3 : hex_from ((w * word_range + x) * word_range + y) (eight t 24) ≡ ((w * word_range + x) * word_range + y) * word_range + z = hex_eight ((w * word_range + x) * word_range + y) (eight t 24) (eight_length 24 (omega arith)) in
      ap (hex_from 0) (in_eights t h) ∙ simp hex_append_from (rw (p1, p2, p3) (regroup w x y z)) where
        regroup : (w x y z : ℕ) → ((w * word_range + x) * word_range + y) * word_range + z ≡ z + word_range * (y + word_range * (x + word_range * w))
        regroup w x y z = omega arith

integer_law : (t : List ℕ) → some value_of ⊛ integer t ≡ value t
unfolding integer value value_of ◌⊛◌
integer_law t = by_length (eqb (length t) 32) refl where
  by_digits : length t ≡ 32 → (b : Bool) → some value_of ⊛ cond b (some (record { low = hex_from 0 (take 8 (drop 24 t)); v1 = hex_from 0 (take 8 (drop 16 t)); v2 = hex_from 0 (take 8 (drop 8 t)); v3 = hex_from 0 (take 8 t) })) none
      ≡ cond b (some (hex_from 0 t)) none
  by_digits h true = ap some (sym (whole t h))
  by_digits h false = refl

  by_length : (b : Bool) → eqb (length t) 32 ≡ b → some value_of ⊛ integer t ≡ value t
  by_length true e = rw e (by_digits (eqb-true (length t) 32 e) (hex_digits t))
  by_length false e = rw e

-- SHAPES OF VALUES

module _ {A : Type 0} where
  read_alone : (x : A) (a b : List ℕ) → some (λ (a : ℕ) (b : Wide). x) ⊛ cell 0 a ⊛ wide 0 b ≡ alone x a b
  unfolding cell wide unused ◌⊛◌
  read_alone x a b = by_tests (is "-" a) (is "-" b) where
    by_tests : (s t : Bool) → some (λ (a : ℕ) (b : Wide). x) ⊛ cond s (some 0) none ⊛ (some pad ⊛ cond t (some 0) none) ≡ cond s (cond t (some x) none) none
    by_tests true true = refl
    by_tests true false = refl
    by_tests false t = refl

  with_unused : (o : Option ℕ) (f : ℕ → A) (t : Bool) → some (λ a b. f a) ⊛ o ⊛ (some pad ⊛ cond t (some 0) none) ≡ cond t (some f ⊛ o) none
  unfolding ◌⊛◌
  with_unused none f true = refl
  with_unused none f false = refl
  with_unused (some n) f true = refl
  with_unused (some n) f false = refl

  read_number : (f : ℕ → A) (a b : List ℕ) → some (λ a b. f a) ⊛ cell 1 a ⊛ wide 0 b ≡ with_number f a b
  unfolding cell wide unused
  read_number f a b = with_unused (number a) f (is "-" b)

  read_field : (f : ℕ → A) (a b : List ℕ) → some (λ a b. f a) ⊛ cell 2 a ⊛ wide 0 b ≡ with_field f a b
  unfolding cell wide unused
  read_field f a b = with_unused (number_to 255 a) f (is "-" b)

  read_bit : (f : Bool → A) (a b : List ℕ) → some (λ a b. f (flagged a)) ⊛ cell 3 a ⊛ wide 0 b ≡ with_bit f a b
  unfolding cell wide unused ◌⊛◌
  read_bit f a b = by_bit (bit a) (is "-" b) where
    by_bit : (o : Option Bool) (t : Bool) → some (λ a b. f (flagged a)) ⊛ (some flag ⊛ o) ⊛ (some pad ⊛ cond t (some 0) none) ≡ cond t (some f ⊛ o) none
    by_bit none true = refl
    by_bit none false = refl
    by_bit (some v) true = rw (flagged_flag v)
    by_bit (some v) false = refl

  read_numbers : (f : ℕ → ℕ → A) (a b : List ℕ) → some (λ a (b : Wide). f a b.low) ⊛ cell 1 a ⊛ wide 1 b ≡ with_numbers f a b
  unfolding cell wide ◌⊛◌
  read_numbers f a b = by_both (number a) (number b) where
    by_both : (o q : Option ℕ) → some (λ a (b : Wide). f a b.low) ⊛ o ⊛ (some pad ⊛ q) ≡ some f ⊛ o ⊛ q
    by_both none q = refl
    by_both (some n) none = refl
    by_both (some n) (some m) = refl

  read_value : (f : ℕ → ℕ → A) (a b : List ℕ) → some (λ a b. f a (value_of b)) ⊛ cell 1 a ⊛ wide 6 b ≡ with_value f a b
  unfolding cell wide ◌⊛◌
  read_value f a b = rw (← integer_law b) (by_both (number a) (integer b)) where
    by_both : (o : Option ℕ) (q : Option Wide) → some (λ a b. f a (value_of b)) ⊛ o ⊛ q ≡ some f ⊛ o ⊛ (some value_of ⊛ q)
    by_both none q = refl
    by_both (some n) none = refl
    by_both (some n) (some m) = refl

-- BINDINGS

binding_cells : (k : ℕ) (a : Option ℕ) (b : Option Wide) (w : Option (List ℕ))
    → some binding_of ⊛ (word (kind_word 14 k) ⧺ word a ⧺ (some wide_words ⊛ b) ⧺ w)
    ≡ some (λ b ss. record { binding = b; sources = ss }) ⊛ cond (ltb k 14) (some (binding_made k) ⊛ a ⊛ b) none ⊛ w
unfolding binding_of kind_word word ◌⧺◌ ◌⊛◌
binding_cells k a b w = by_test (ltb k 14) a b w where
  by_test : (t : Bool) (a : Option ℕ) (b : Option Wide) (w : Option (List ℕ))
      → some binding_of ⊛ (word (cond t (some k) none) ⧺ word a ⧺ (some wide_words ⊛ b) ⧺ w)
      ≡ some (λ b ss. record { binding = b; sources = ss }) ⊛ cond t (some (binding_made k) ⊛ a ⊛ b) none ⊛ w
  by_test false a b w = refl
  by_test true none b w = refl
  by_test true (some a) none w = refl
  by_test true (some a) (some b) none = refl
  by_test true (some a) (some b) (some w) = refl

binding_kind : (k a b : List ℕ) → by_kind layout.binding_kinds k a b
    ≡ cond (ltb (place binding_kinds k) 14) (some (binding_made (place binding_kinds k)) ⊛ cell (get_or binding_as (place binding_kinds k) 0) a ⊛ wide (get_or binding_bs (place binding_kinds k) 0) b) none
unfolding binding_kinds split binding_made
binding_kind k a b = by_place layout.binding_kinds (λ j. some (binding_made j) ⊛ cell (get_or binding_as j 0) a ⊛ wide (get_or binding_bs j 0) b) k a b (
  read_bit ConstBool a b,
  (
    read_value ConstInt a b,
    (
      read_number ConstPrim a b,
      (
        read_number Argument a b,
        (
          read_number Extractor a b,
          (
            read_number Constructor a b,
            (
              read_alone Iterator a b,
              (
                read_numbers MakeVariant a b,
                (
                  read_number MakeStruct a b,
                  (
                    read_alone MakeSome a b,
                    (
                      read_alone MatchSome a b,
                      (read_field MatchTuple a b, (read_field MatchVariant a b, (read_field ExtractStruct a b, tt))),
                    ),
                  ),
                ),
              ),
            ),
          ),
        ),
      ),
    ),
  ),
)

pub binding_law : (line : List ℕ) → some binding_of ⊛ binding_words line ≡ binding_row line
unfolding binding_words binding_row
binding_law line = row_law 4 _ _ binding_of (λ vs. rw (list_numbers (at vs 3))
    (binding_cells (place binding_kinds (at vs 0)) (cell (get_or binding_as (place binding_kinds (at vs 0)) 0) (at vs 1)) (wide (get_or binding_bs (place binding_kinds (at vs 0)) 0) (at vs 2)) (list number (at vs 3))
    ∙ ap (λ (b : Option Binding). some (λ b ss. record { binding = b; sources = ss }) ⊛ b ⊛ list number (at vs 3)) (sym (binding_kind (at vs 0) (at vs 1) (at vs 2))))) line

-- BLOCK ROWS

same_eq : (s t : List ℕ) → same s t ≡ true → s ≡ t
unfolding same
same_eq [] [] h = refl
same_eq [] (d ∷ t) h = let z : ◌≡◌ {A = ℕ} 0 1 = cc in absurd (omega arith)
same_eq (c ∷ s) [] h = let z : ◌≡◌ {A = ℕ} 0 1 = cc in absurd (omega arith)
same_eq (c ∷ s) (d ∷ t) h = by_test (eqb c d) refl h (λ g. same_eq s t g) where
  by_test : (b : Bool) → eqb c d ≡ b → (b && same s t) ≡ true → (same s t ≡ true → s ≡ t) → ◌≡◌ {A = List ℕ} (c ∷ s) (d ∷ t)
  by_test true e h more = rw (eqb-true c d e, more h)
  by_test false e h more = let z : ◌≡◌ {A = ℕ} 0 1 = cc in absurd (omega arith)

place_append : (xs ys : List (List ℕ)) (t : List ℕ) → place (xs ++ ys) t ≡ cond (ltb (place xs t) (length xs)) (place xs t) (length xs + place ys t)
unfolding place
place_append [] ys t = omega arith
place_append (x ∷ xs) ys t = by_test (same t x) (place_append xs ys t) where
  inner : (b : Bool) (p n q : ℕ) → suc (cond b p (n + q)) ≡ cond b (suc p) (suc n + q)
  inner true p n q = refl
  inner false p n q = omega arith

  by_test : (b : Bool) → place (xs ++ ys) t ≡ cond (ltb (place xs t) (length xs)) (place xs t) (length xs + place ys t)
      → cond b 0 (suc (place (xs ++ ys) t)) ≡ cond (ltb (cond b 0 (suc (place xs t))) (suc (length xs))) (cond b 0 (suc (place xs t))) (suc (length xs) + place ys t)
  by_test true e = rw (lt-ltb 0 (suc (length xs)) (omega arith))
  by_test false e = rw (ltb_suc (place xs t) (length xs), e) (inner (ltb (place xs t) (length xs)) (place xs t) (length xs) (place ys t))

-- no step has the name of an arm
step_no_arm : (k a b : List ℕ) → ltb (place (names_of step_kinds) k) 4 ≡ true → by_kind arm_kinds k a b ≡ none
unfolding place by_kind same
step_no_arm k a b h = by_tests (same k (codes "match")) (same k (codes "equal")) (same k (codes "loop")) (same k (codes "return")) refl refl refl refl h where
  by_tests : (t0 t1 t2 t3 : Bool) → same k (codes "match") ≡ t0 → same k (codes "equal") ≡ t1 → same k (codes "loop") ≡ t2 → same k (codes "return") ≡ t3
      → ltb (cond t0 0 (suc (cond t1 0 (suc (cond t2 0 (suc (cond t3 0 (suc 0)))))))) 4 ≡ true → by_kind arm_kinds k a b ≡ none
  by_tests true t1 t2 t3 e f g i h = rw (same_eq k (codes "match") e)
  by_tests false true t2 t3 e f g i h = rw (same_eq k (codes "equal") f)
  by_tests false false true t3 e f g i h = rw (same_eq k (codes "loop") g)
  by_tests false false false true e f g i h = rw (same_eq k (codes "return") i)
  by_tests false false false false e f g i h = let z : ◌≡◌ {A = ℕ} 0 1 = cc in absurd (omega arith)

-- the words of a block row of kind k
abbrev block_cells : ℕ → Option ℕ → Option ℕ → Option Wide → Option (List ℕ) → Option (List ℕ)
block_cells k lv a b w = word lv ⧺ word (kind_word 10 k) ⧺ word a ⧺ (some wide_words ⊛ b) ⧺ w

step_cells : (k : ℕ) (lv a : Option ℕ) (b : Option Wide) (w : Option (List ℕ)) → ltb k 10 ≡ true → ltb k 4 ≡ true
    → some block_of ⊛ block_cells k lv a b w ≡ some (λ l c bs. step l c bs) ⊛ lv ⊛ (some (step_made k) ⊛ a ⊛ b) ⊛ w
unfolding block_of kind_word word ◌⧺◌ ◌⊛◌
step_cells k lv a b w e f = rw e (by_cells lv a b w) where
  by_cells : (lv a : Option ℕ) (b : Option Wide) (w : Option (List ℕ))
      → some block_of ⊛ (word lv ⧺ some (k ∷ []) ⧺ word a ⧺ (some wide_words ⊛ b) ⧺ w) ≡ some (λ l c bs. step l c bs) ⊛ lv ⊛ (some (step_made k) ⊛ a ⊛ b) ⊛ w
  by_cells none a b w = refl
  by_cells (some l) none b w = refl
  by_cells (some l) (some a) none w = refl
  by_cells (some l) (some a) (some b) none = refl
  by_cells (some l) (some a) (some b) (some w) = rw f

arm_cells : (k : ℕ) (lv a : Option ℕ) (b : Option Wide) (w : Option (List ℕ)) → ltb k 10 ≡ true → ltb k 4 ≡ false
    → some block_of ⊛ block_cells k lv a b w ≡ some (λ l c bs. arm l c bs) ⊛ lv ⊛ (some (arm_made (k - 4)) ⊛ a ⊛ b) ⊛ (some patterns_in ⊛ w)
unfolding block_of kind_word word ◌⧺◌ ◌⊛◌
arm_cells k lv a b w e f = rw e (by_cells lv a b w) where
  by_cells : (lv a : Option ℕ) (b : Option Wide) (w : Option (List ℕ))
      → some block_of ⊛ (word lv ⧺ some (k ∷ []) ⧺ word a ⧺ (some wide_words ⊛ b) ⧺ w) ≡ some (λ l c bs. arm l c bs) ⊛ lv ⊛ (some (arm_made (k - 4)) ⊛ a ⊛ b) ⊛ (some patterns_in ⊛ w)
  by_cells none a b w = refl
  by_cells (some l) none b w = refl
  by_cells (some l) (some a) none w = refl
  by_cells (some l) (some a) (some b) none = refl
  by_cells (some l) (some a) (some b) (some w) = rw f

no_cells : (k : ℕ) (lv a : Option ℕ) (b : Option Wide) (w : Option (List ℕ)) → ltb k 10 ≡ false → some block_of ⊛ block_cells k lv a b w ≡ none
unfolding kind_word word ◌⧺◌ ◌⊛◌
no_cells k lv a b w e = rw e (by_level lv) where
  by_level : (lv : Option ℕ) → some block_of ⊛ (word lv ⧺ none) ≡ none
  by_level none = refl
  by_level (some l) = refl

-- a reading without its kind
not_step : (lv : Option ℕ) (w : Option (List ℕ)) (y : Option Row) → or_else (some (λ l c bs. step l c bs) ⊛ lv ⊛ none ⊛ w) y ≡ y
unfolding ◌⊛◌
not_step none w y = refl
not_step (some l) w y = refl

not_arm : (x : Option Row) (lv : Option ℕ) (w : Option (List (Option ℕ))) → or_else x (some (λ l c bs. arm l c bs) ⊛ lv ⊛ none ⊛ w) ≡ x
unfolding ◌⊛◌
not_arm (some x) lv w = refl
not_arm none none w = refl
not_arm none (some l) w = refl

step_list : (k : ℕ) → k < 4 → get_or block_lists k 0 ≡ 1
step_list zero h = refl
step_list (suc zero) h = refl
step_list (suc (suc zero)) h = refl
step_list (suc (suc (suc zero))) h = refl
step_list (suc (suc (suc (suc k)))) h = absurd (omega arith)

arm_list : (k : ℕ) → k < 6 → get_or block_lists (4 + k) 0 ≡ 3
arm_list zero h = refl
arm_list (suc zero) h = refl
arm_list (suc (suc zero)) h = refl
arm_list (suc (suc (suc zero))) h = refl
arm_list (suc (suc (suc (suc zero)))) h = refl
arm_list (suc (suc (suc (suc (suc zero))))) h = refl
arm_list (suc (suc (suc (suc (suc (suc k)))))) h = absurd (omega arith)

step_kind : (k a b : List ℕ) → by_kind step_kinds k a b
    ≡ cond (ltb (place (names_of step_kinds) k) 4) (some (step_made (place (names_of step_kinds) k)) ⊛ cell (get_or block_as (place (names_of step_kinds) k) 0) a ⊛ wide (get_or block_bs (place (names_of step_kinds) k) 0) b) none
unfolding step_made
step_kind k a b = by_place step_kinds (λ j. some (step_made j) ⊛ cell (get_or block_as j 0) a ⊛ wide (get_or block_bs j 0) b) k a b
    (read_number Match a b, (read_numbers Equal a b, (read_number Loop a b, (read_numbers Return a b, tt))))

arm_kind : (k a b : List ℕ) → by_kind arm_kinds k a b
    ≡ cond (ltb (place (names_of arm_kinds) k) 6) (some (arm_made (place (names_of arm_kinds) k)) ⊛ cell (get_or block_as (4 + place (names_of arm_kinds) k) 0) a ⊛ wide (get_or block_bs (4 + place (names_of arm_kinds) k) 0) b) none
unfolding arm_made
arm_kind k a b = by_place arm_kinds (λ j. some (arm_made j) ⊛ cell (get_or block_as (4 + j) 0) a ⊛ wide (get_or block_bs (4 + j) 0) b) k a b
    (read_bit constraint.ConstBool a b, (read_value constraint.ConstInt a b, (read_number constraint.ConstPrim a b, (read_numbers constraint.Variant a b, (read_number constraint.Struct a b, (read_alone constraint.Some a b, tt))))))

no_arm : (lv : Option ℕ) (w : Option (List (Option ℕ))) → some (λ l c bs. arm l c bs) ⊛ lv ⊛ none ⊛ w ≡ none
unfolding ◌⊛◌
no_arm none w = refl
no_arm (some l) w = refl

block_place : (k : List ℕ) → place block_kinds k ≡ cond (ltb (place (names_of step_kinds) k) 4) (place (names_of step_kinds) k) (4 + place (names_of arm_kinds) k)
unfolding block_kinds split
block_place k = place_append (names_of step_kinds) (names_of arm_kinds) k

-- either kind of row, by its kind's place
module _ (lv : Option ℕ) (key a b l : List ℕ) where
  abbrev at_kind : ℕ → Option Row
  at_kind k = some block_of ⊛ block_cells k lv (cell (get_or block_as k 0) a) (wide (get_or block_bs k 0) b) (list_words (get_or block_lists k 0) l)

  abbrev read_row : Option Row
  read_row = or_else (some (λ l c bs. step l c bs) ⊛ lv ⊛ by_kind step_kinds key a b ⊛ list number l) (some (λ l c bs. arm l c bs) ⊛ lv ⊛ by_kind arm_kinds key a b ⊛ list pattern_binding l)

  of_step : ltb (place (names_of step_kinds) key) 4 ≡ true → at_kind (place (names_of step_kinds) key) ≡ read_row
  of_step e =
      let p = place (names_of step_kinds) key in
      let h : p < 4 = ltb-true p 4 e in
      let t : ltb p 10 ≡ true = lt-ltb p 10 (omega arith) in
      let s : by_kind step_kinds key a b ≡ some (step_made p) ⊛ cell (get_or block_as p 0) a ⊛ wide (get_or block_bs p 0) b = step_kind key a b ∙ rw e in
      rw (s, step_no_arm key a b e, step_list p h, list_numbers l)
      (step_cells p lv _ _ (list number l) t e ∙ sym (not_arm _ lv (list pattern_binding l)))

  of_arm : ltb (place (names_of step_kinds) key) 4 ≡ false → at_kind (4 + place (names_of arm_kinds) key) ≡ read_row
  of_arm e =
      let q = place (names_of arm_kinds) key in
      let s : by_kind step_kinds key a b ≡ none = step_kind key a b ∙ rw e in
      rw (s, not_step) (by_arm (ltb q 6) refl) where
        by_arm : (t : Bool) → ltb (place (names_of arm_kinds) key) 6 ≡ t → at_kind (4 + place (names_of arm_kinds) key)
            ≡ some (λ l c bs. arm l c bs) ⊛ lv ⊛ by_kind arm_kinds key a b ⊛ list pattern_binding l
        by_arm true f =
            let q = place (names_of arm_kinds) key in
            let h : q < 6 = ltb-true q 6 f in
            let t : ltb (4 + q) 10 ≡ true = lt-ltb (4 + q) 10 (omega arith) in
            let u : ltb (4 + q) 4 ≡ false = le-ltb (4 + q) 4 (omega arith) in
            let z : 4 + q - 4 ≡ q = omega arith in
            let s : by_kind arm_kinds key a b ≡ some (arm_made q) ⊛ cell (get_or block_as (4 + q) 0) a ⊛ wide (get_or block_bs (4 + q) 0) b = arm_kind key a b ∙ rw f in
            rw (s, arm_list q h, ← list_patterns l) (arm_cells (4 + q) lv _ _ (list_words 3 l) t u ∙ rw z)
        by_arm false f =
            let q = place (names_of arm_kinds) key in
            let t : ltb (4 + q) 10 ≡ false = le-ltb (4 + q) 10 (omega (arith, ltb-false q 6 f)) in
            let s : by_kind arm_kinds key a b ≡ none = arm_kind key a b ∙ rw f in
            rw s (no_cells (4 + q) lv _ _ _ t ∙ sym (no_arm lv (list pattern_binding l)))

  either : at_kind (place block_kinds key) ≡ read_row
  either = by_test (ltb (place (names_of step_kinds) key) 4) refl where
    by_test : (t : Bool) → ltb (place (names_of step_kinds) key) 4 ≡ t → at_kind (place block_kinds key) ≡ read_row
    by_test true e = rw (block_place key, e) (of_step e)
    by_test false e = rw (block_place key, e) (of_arm e)

pub block_law : (line : List ℕ) → some block_of ⊛ block_words line ≡ block_row line
unfolding block_words block_row cell
block_law line = row_law 5 _ _ block_of (λ vs. either (number (at vs 0)) (at vs 1) (at vs 2) (at vs 3) (at vs 4)) line
