-- `all` over a closure that changes what it holds. Assumes nothing.
use Prim.Native.Nat.{ℕ, zero, suc, ◌+◌}
use mathlib.Core.Path.{◌≡◌, refl, ◌∙◌}
use mathlib.Core.Bool.{Bool, true, false, ◌&&◌}
use mathlib.Core.List.{List, [], ◌∷◌, map}
use denote.Param.Members.{Mut}
use Rattle.std.specs.List.{FoldsTo, range_with_len}
use Rattle.std.specs.Prelude.{Option, Some, None, MatchOption}
use Rattle.std.specs.Fn.{Called}
use Rattle.std.specs.Iterator.{AlwaysYields, YieldsThen}
use Rattle.std.proofs.lemmas.Iterator.{YieldsList}
use Rattle.plan.specs.Lookup.{argument_index}
use Rattle.rows.specs.View.{binding_of}
use Rattle.layout.specs.View.{cuts}
use Rattle.view.specs.Buffers.{words_of}
use Rattle.view.specs.declared.buffers.Plan.{Plan}
use Rattle.checks.specs.Within.{mark_new, marked, marks_new}

-- what is left passes, from the state m on
module _ {B M : Type 0} (test : M → B → Bool) (next : M → B → M) where
  unfoldable pub all_by : M → List B → Bool
  all_by m [] = true
  all_by m (x ∷ xs) = test m x && all_by (next m x) xs

  module _ {S A F : Type 0} (steps : S → Option A → S → Type 0) (v : A → B) (g : Mut F (A × Unit {0}) Bool) (Holds : F → M → Type 0)
      (law : (f : F) (m : M) (x : A) (b : Bool) (q : F) → Holds f m → Called g f (x, tt) b q → (b ≡ test m (v x)) × Holds q (next m (v x))) where
    last : (s u : S) (f : F) (m : M) (o : Option A) (r : Bool) (all : List B) → Holds f m → AlwaysYields steps v s all → steps s o u
        → MatchOption o (r ≡ true) (λ x. (r ≡ false) × ((h : F) × Called g f (x, tt) false h)) → r ≡ all_by m all
    unfolding all_by
    last s u f m None r [] h e k d = d
    last s u f m (Some x) r [] h e k d = absurd (e x u k)
    last s u f m None r (y ∷ ys) h e k d = absurd (e.0 u k)
    last s u f m (Some x) r (y ∷ ys) h e k d = let w = e.1 x u k in let l = law f m x false d.1.0 h d.1.1 in rw (d.0, ← w.0, ← l.0) refl

    walk : (xs : List A) (s u : S) (f j : F) (m : M) (o : Option A) (r : Bool) (all : List B) → Holds f m → AlwaysYields steps v s all → YieldsThen steps s xs o u
        → FoldsTo (λ p x q. Called g p (x, tt) true q) f xs j → MatchOption o (r ≡ true) (λ x. (r ≡ false) × ((h : F) × Called g j (x, tt) false h)) → r ≡ all_by m all
    unfolding all_by
    walk [] s u f j m o r all h e k c d = last s u f m o r all h e (rw (← k.1) at k.2) (rw (← c) at d)
    walk (x ∷ xs) s u f j m o r [] h e k c d = absurd (e x k.1.0 k.1.1)
    walk (x ∷ xs) s u f j m o r (y ∷ ys) h e k c d =
        let w = e.1 x k.1.0 k.1.1 in
        let l = law f m x true c.0 h c.1 in
        walk xs k.1.0 u c.0 j (next m (v x)) o r ys l.1 w.1 (k.0, k.1.2, k.2) c.2 d ∙ rw (← w.0, ← l.0) refl

-- `all` over a closure f that changes: Holds says which state it is in
pub all_changing : {S A B F M : Type 0} {steps : S → Option A → S → Type 0} {v : A → B} {g : Mut F (A × Unit {0}) Bool} {s : S} {all : List B} (test : M → B → Bool) (next : M → B → M) (Holds : F → M → Type 0) (u : S) (f : F) (m : M) (r : Bool)
    → (xs : List A) × (o : Option A) × (j : F) × YieldsThen steps s xs o u × FoldsTo (λ p x q. Called g p (x, tt) true q) f xs j × MatchOption o (r ≡ true) (λ x. (r ≡ false) × ((h : F) × Called g j (x, tt) false h))
    → YieldsList steps v s all → Holds f m → ((f : F) (m : M) (x : A) (b : Bool) (q : F) → Holds f m → Called g f (x, tt) b q → (b ≡ test m (v x)) × Holds q (next m (v x))) → r ≡ all_by test next m all
all_changing {steps} {v} {g} {s} {all} test next Holds u f m r d e h law = walk test next steps v g Holds law d.0 s u f d.2 m d.1 r all h e.runs d.3 d.4 d.5

-- the marks of the arguments of n rows from row r on
pub all_marks : (p : Plan) (m : List Bool) (r n : ℕ)
    → all_by (λ m r. mark_new m (argument_index (binding_of (words_of p r)).binding)) (λ m r. marked m (argument_index (binding_of (words_of p r)).binding)) m (range_with_len r n)
    ≡ marks_new m (map binding_of (cuts p.words.now p.rows.now r n))
unfolding all_by marks_new cuts
all_marks p m r zero = refl
all_marks p m r (suc n) = rw (all_marks p (marked m (argument_index (binding_of (words_of p r)).binding)) (r + 1) n) refl
