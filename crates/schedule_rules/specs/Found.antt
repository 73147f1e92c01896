-- What a written expression holds, by its sources: the equation that code follows. Assumes nothing.
use Prim.Native.Nat.{ℕ, zero, suc, ◌+◌}
use Rattle.std.specs.Prelude.{◌≡◌, refl, Bool, true, List, [], ◌∷◌, ltb}
use Rattle.std.proofs.Common.{arith}
use Rattle.plan.specs.Binding.{BindingRow}
use Rattle.plan.specs.Lookup.{binding_at}
use Rattle.plan.specs.Refusal.{every, sources_below}
use Rattle.codegen.specs.Writer.{Marks}
use Rattle.splitting.specs.Cases.{and_left, and_right}
use Rattle.schedule_rules.specs.Faults.{holds}

-- each source has a lower number than its binding: refusal 7
pub record Lower (bs : List BindingRow) : Type 0 where
  pub each : (n : ℕ) → every (λ q. ltb q n) (binding_at bs n).sources ≡ true

below_from : (i : ℕ) (bs : List BindingRow) → sources_below i bs ≡ true → (n : ℕ) → every (λ q. ltb q (n + i)) (binding_at bs n).sources ≡ true
unfolding sources_below every
below_from i [] h n = refl
below_from i (b ∷ bs) h zero = let z : zero + i ≡ i = omega arith in rw z (and_left (every (λ q. ltb q i) b.sources) _ h)
below_from i (b ∷ bs) h (suc n) = let z : suc n + i ≡ n + suc i = omega arith in rw z (below_from (suc i) bs (and_right (every (λ q. ltb q i) b.sources) _ h) n)

pub lower_of : (bs : List BindingRow) → sources_below 0 bs ≡ true → Lower bs
lower_of bs h = record { each = λ n. let z : n + 0 ≡ n = omega arith in rw z at (below_from 0 bs h n) }

-- what is found of binding b
unfoldable pub found : (ℕ → Bool) → (ℕ → Bool) → List BindingRow → Marks → ℕ → Bool
found name through bs bound b = holds name through bs bound (suc b) b
