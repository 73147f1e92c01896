-- Laws of specs/Found.antt: what is found of a binding, by its sources, is the equation that code follows. Assumes nothing.
use Prim.Native.Nat.{ℕ, zero, suc, ◌<◌}
use Rattle.std.specs.Prelude.{◌≡◌, refl, Bool, true, ◌||◌, List, [], ◌∷◌, ltb}
use Rattle.std.proofs.Math.Path.{ap}
use Rattle.std.proofs.Math.Bool.{cond}
use Rattle.std.proofs.Common.{arith, ltb-true}
use Rattle.plan.specs.Binding.{BindingRow}
use Rattle.plan.specs.Lookup.{binding_at}
use Rattle.plan.specs.Refusal.{every}
use Rattle.codegen.specs.Writer.{Marks, contains}
use Rattle.splitting.specs.Cases.{and_left, and_right}
use Rattle.schedule_rules.specs.Faults.{any, holds}
use Rattle.schedule_rules.specs.Found.{Lower, found}

any_same : (f g : ℕ → Bool) (n : ℕ) → ((q : ℕ) → q < n → f q ≡ g q) → (qs : List ℕ) → every (λ q. ltb q n) qs ≡ true → any f qs ≡ any g qs
unfolding any every
any_same f g n h [] l = refl
any_same f g n h (q ∷ qs) l = rw (h q (ltb-true q n (and_left (ltb q n) _ l)), any_same f g n h qs (and_right (ltb q n) _ l))

module _ (name through : ℕ → Bool) (bs : List BindingRow) (bound : Marks) (lower : Lower bs) where
  -- any two numbers above b give the same
  pub holds_same : (k j b : ℕ) → b < k → b < j → holds name through bs bound k b ≡ holds name through bs bound j b
  unfolding holds
  holds_same zero j b h g = absurd (omega arith)
  holds_same (suc k) zero b h g = absurd (omega arith)
  holds_same (suc k) (suc j) b h g =
      ap (λ (x : Bool). cond (contains bound b) (name b) (through b || x))
      (any_same (holds name through bs bound k) (holds name through bs bound j) b (λ q l. holds_same k j q (omega arith) (omega arith)) (binding_at bs b).sources (lower.each b))

  -- the sources of a binding, judged as any expression is
  pub sources_found : (b : ℕ) → any (holds name through bs bound b) (binding_at bs b).sources ≡ any (found name through bs bound) (binding_at bs b).sources
  unfolding found
  sources_found b = any_same (holds name through bs bound b) (λ q. holds name through bs bound (suc q) q) b (λ q l. holds_same b (suc q) q l (omega arith)) (binding_at bs b).sources (lower.each b)

  -- binding by binding: a name, or the binding itself and what is found of its sources
  pub found_by_sources : (b : ℕ) → found name through bs bound b ≡ cond (contains bound b) (name b) (through b || any (found name through bs bound) (binding_at bs b).sources)
  unfolding found holds
  found_by_sources b = ap (λ (x : Bool). cond (contains bound b) (name b) (through b || x)) (sources_found b)
