-- Lists of named fields and of patterns, word by word. Assumes nothing.
use Prim.Native.Nat.{ℕ, suc, ◌/◌}
use mathlib.Core.Path.{◌≡◌, refl, ap}
use mathlib.Core.Bool.{Bool, ◌&&◌}
use mathlib.Core.List.{List, [], ◌∷◌}
use native.Mathlib.Omega.{arith}
use lib.Dec.{ltb}
use lib.ListN.{length}
use Rattle.std.specs.List.{list_all}
use Rattle.std.specs.Simd.{first_chunks}
use Rattle.plan.specs.Refusal.{every, bound_below}
use Rattle.rows.specs.View.{nth, fields_in, pattern_of, patterns_in}

pub every_pattern : (n : ℕ) (l : List ℕ) → every (λ q. bound_below n (pattern_of q)) l ≡ every (bound_below n) (patterns_in l)
unfolding every patterns_in
every_pattern n [] = refl
every_pattern n (q ∷ l) = ap (λ (b : Bool). bound_below n (pattern_of q) && b) (every_pattern n l)

-- the fields, two words each
pub every_field : (m n : ℕ) (l : List ℕ) → list_all (λ a. ltb (nth a 0) m && ltb (nth a 1) n) (first_chunks 2 (length l / 2) l) ≡ every (λ f. ltb f.name m && ltb f.ty n) (fields_in l)
unfolding every fields_in
every_field m n [] = refl
every_field m n (x ∷ []) = refl
every_field m n (x ∷ y ∷ l) = let z : length (x ∷ y ∷ l) / 2 ≡ suc (length l / 2) = omega arith in rw (z, every_field m n l) refl
