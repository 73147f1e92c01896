-- Refusal 7 row by row: sources below their binding, and arguments that are marked as they are met. Assumes nothing.
use Prim.Native.Nat.{ℕ, zero, suc, ◌+◌, ◌<◌}
use mathlib.Core.Path.{◌≡◌, refl, sym, ◌∙◌}
use mathlib.Core.Bool.{Bool, true, false, not, ◌&&◌}
use mathlib.Core.List.{List, [], ◌∷◌, map}
use mathlib.Core.Option.{Option, some, none}
use native.Mathlib.Omega.{arith}
use native.Mathlib.Numerals.{add-one}
use lib.Dec.{eqb, ltb}
use lib.ListN.{length, drop, get_or, set, replicate, get_or-eq_default, get_or-replicate, length-set, length-replicate}
use lib.Seq.{get_or-set_same, get_or-set_other}
use borrow.Author.Tests.{eqb-true, eqb-false, ltb-true, ltb-false}
use Rattle.std.specs.List.{list_all, range_with_len, enumerate_from}
use Rattle.plan.specs.Binding.{BindingRow}
use Rattle.plan.specs.Plan.{Generated}
use Rattle.plan.specs.Lookup.{argument_index}
use Rattle.plan.specs.Refusal.{every, bound_below, differ, sources_below, arguments_distinct, sources_lower}
use Rattle.rows.specs.View.{binding_of}
use Rattle.layout.specs.View.{cuts}
use Rattle.view.specs.Buffers.{words_of, plan_of}
use Rattle.view.specs.Told.{binding_told}
use Rattle.view.specs.declared.binding.Binding.{Binding}
use Rattle.view.specs.declared.binding.Binding.TheVariants as b
use Rattle.view.specs.declared.buffers.Plan.{Plan}
use Rattle.checks.specs.Within.{few_arguments, arguments_few, mark_new, marked, marks_new}

-- the bindings from row r on, of which the first is the binding i
pub all_sources : (p : Plan) (i r n : ℕ) → list_all (λ x. every (λ q. ltb q x.0) (drop 6 (words_of p x.1))) (enumerate_from i (range_with_len r n)) ≡ sources_below i (map binding_of (cuts p.words.now p.rows.now r n))
unfolding sources_below binding_of cuts
all_sources p i r zero = refl
all_sources p i r (suc n) = rw (all_sources p (i + 1) (r + 1) n, add-one i) refl

-- MARKS

pub no_argument : (c : Binding) → ((i : ℕ) → c ≡ b.Argument i → ⊥) → argument_index (binding_told c) ≡ none
no_argument (b.ConstBool v) n = refl
no_argument (b.ConstInt ty v) n = refl
no_argument (b.ConstPrim v) n = refl
no_argument (b.Argument i) n = absurd (n i refl)
no_argument (b.Extractor m) n = refl
no_argument (b.Constructor m) n = refl
no_argument b.Iterator n = refl
no_argument (b.MakeVariant ty v) n = refl
no_argument (b.MakeStruct ty) n = refl
no_argument b.MakeSome n = refl
no_argument b.MatchSome n = refl
no_argument (b.MatchTuple k) n = refl
no_argument (b.MatchVariant k) n = refl
no_argument (b.ExtractStruct k) n = refl

-- what is left to find: no row's mark is set, and the rows differ
abbrev unmarked : List Bool → List BindingRow → Bool
unmarked ms bs = every (λ b. mark_new ms (argument_index b.binding)) bs

and_swap : (a b c d : Bool) → ((a && b) && (c && d)) ≡ ((a && c) && (b && d))
and_swap true true c d = refl
and_swap true false true d = refl
and_swap true false false d = refl
and_swap false b c d = refl

and_false : (a : Bool) → (a && false) ≡ false
and_false true = refl
and_false false = refl

and_true : (a : Bool) → a ≡ (a && true)
and_true true = refl
and_true false = refl

both : (a b : Bool) → (a && b) ≡ true → (a ≡ true) × (b ≡ true)
both true b p = (refl, p)
both false b p = let z : ◌≡◌ {A = ℕ} 0 1 = cc in absurd (omega arith)

module _ (ms : List Bool) (i : ℕ) (h : i < length ms) where
  -- one row more is unmarked after a mark is set if it was and differs
  one_marked : (j : Option ℕ) → mark_new (set ms i true) j ≡ (mark_new ms j && differ (some i) j)
  one_marked none = refl
  one_marked (some j) = by_test (eqb i j) refl where
    by_test : (b : Bool) → eqb i j ≡ b → not (get_or (set ms i true) j false) ≡ (not (get_or ms j false) && not b)
    by_test true q = rw (← eqb-true i j q, get_or-set_same ms i true false h) (sym (and_false (not (get_or ms i false))))
    by_test false q = rw (get_or-set_other ms i j true false (λ p. eqb-false i j q (sym p))) (and_true (not (get_or ms j false)))

  all_marked : (bs : List BindingRow) → unmarked (set ms i true) bs ≡ (unmarked ms bs && every (λ c. differ (some i) (argument_index c.binding)) bs)
  unfolding every
  all_marked [] = refl
  all_marked (c ∷ bs) =
      rw (one_marked (argument_index c.binding), all_marked bs)
      (and_swap (mark_new ms (argument_index c.binding)) (differ (some i) (argument_index c.binding)) (unmarked ms bs) (every (λ c. differ (some i) (argument_index c.binding)) bs))

none_differs : (bs : List BindingRow) → every (λ c. differ none (argument_index c.binding)) bs ≡ true
unfolding every
none_differs [] = refl
none_differs (c ∷ bs) = none_differs bs

and_assoc : (a b c : Bool) → (a && (b && c)) ≡ ((a && b) && c)
and_assoc true b c = refl
and_assoc false b c = refl

regroup : (a u d e : Bool) → (a && ((u && d) && e)) ≡ ((a && u) && (d && e))
regroup true u d e = sym (and_assoc u d e)
regroup false u d e = refl

all_new : (ms : List Bool) (bs : List BindingRow) → length ms ≡ 32 → few_arguments bs ≡ true → marks_new ms bs ≡ (unmarked ms bs && arguments_distinct bs)
unfolding marks_new few_arguments every arguments_distinct
all_new ms [] size few = refl
all_new ms (c ∷ bs) size few = by_index (argument_index c.binding) (both _ _ few).0 (λ l z. all_new l bs z (both _ _ few).1) where
  by_index : (j : Option ℕ) → bound_below 32 j ≡ true → ((l : List Bool) → length l ≡ 32 → marks_new l bs ≡ (unmarked l bs && arguments_distinct bs))
      → (mark_new ms j && marks_new (marked ms j) bs) ≡ ((mark_new ms j && unmarked ms bs) && (every (λ c. differ j (argument_index c.binding)) bs && arguments_distinct bs))
  by_index none h more = rw (none_differs bs, more ms size) refl
  by_index (some i) h more =
      let g : i < length ms = omega (arith, ltb-true i 32 h) in
      let z : length (set ms i true) ≡ 32 = length-set ms i true ∙ size in
      rw (more (set ms i true) z, all_marked ms i g bs) (regroup (not (get_or ms i false)) (unmarked ms bs) _ _)

pub new_distinct : (bs : List BindingRow) → few_arguments bs ≡ true → marks_new (replicate 32 false) bs ≡ arguments_distinct bs
unfolding every
new_distinct bs few = all_new (replicate 32 false) bs (length-replicate 32 false) few ∙ rw (none_marked bs) refl where
  none_set : (j : Option ℕ) → mark_new (replicate 32 false) j ≡ true
  none_set none = refl
  none_set (some i) = by_test (ltb i 32) refl where
    by_test : (b : Bool) → ltb i 32 ≡ b → not (get_or (replicate 32 false) i false) ≡ true
    by_test true h = rw (get_or-replicate 32 i false false (ltb-true i 32 h)) refl
    by_test false h = rw (get_or-eq_default (replicate 32 false) false (ltb-false i 32 h)) refl

  none_marked : (bs : List BindingRow) → unmarked (replicate 32 false) bs ≡ true
  none_marked [] = refl
  none_marked (c ∷ bs) = rw (none_set (argument_index c.binding), none_marked bs) refl

-- every generated term's, where each has few arguments
pub lower_tests : (p : Plan) → arguments_few (plan_of p) ≡ true
    → every (λ g. sources_below 0 g.bindings && marks_new (replicate 32 false) g.bindings) (plan_of p).generated ≡ sources_lower (plan_of p)
unfolding arguments_few sources_lower every
lower_tests p few = each (plan_of p).generated few where
  each : (gs : List Generated) → every (λ g. few_arguments g.bindings) gs ≡ true
      → every (λ g. sources_below 0 g.bindings && marks_new (replicate 32 false) g.bindings) gs ≡ every (λ g. sources_below 0 g.bindings && arguments_distinct g.bindings) gs
  each [] h = refl
  each (g ∷ gs) h = let k = both (few_arguments g.bindings) (every (λ g. few_arguments g.bindings) gs) h in rw (new_distinct g.bindings k.0, each gs k.1) refl
