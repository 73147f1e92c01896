-- The bytes that may stand beside a literal or a quoted text make it no other token. Assumes nothing.
use Rattle.std.specs.Prelude.{ℕ, ◌≡◌, refl, Bool, true, false, not, ◌||◌, List, [], ◌∷◌, eqb}
use Rattle.std.proofs.Common.{eqb-true}
use Rattle.std.proofs.lemmas.Bool.{not-true}
use Rattle.plan.specs.Refusal.{every}
use Rattle.splitting.specs.Cases.{and_left, and_right, false_true}
use Rattle.token_boundaries.specs.Lexing.{continues}
use Rattle.token_boundaries.specs.Boundary.{is_in, joins, preceding, may_precede, following, may_follow}

pub in_all : (test : ℕ → Bool) (s : List ℕ) → every test s ≡ true → (c : ℕ) → is_in c s ≡ true → test c ≡ true
unfolding every
in_all test [] h c g = false_true g
in_all test (d ∷ s) h c g = go (eqb c d) refl g (in_all test s (and_right (test d) _ h) c)
  where
    go : (b : Bool) → eqb c d ≡ b → b || is_in c s ≡ true → (is_in c s ≡ true → test c ≡ true) → test c ≡ true
    go true e g k = rw (eqb-true c d e) (and_left (test d) _ h)
    go false e g k = k g

-- the byte after it is no letter, digit or `_`, and the byte before it none that would make it another token
pub follows_apart : (c : ℕ) → may_follow c ≡ true → continues c ≡ false
unfolding every
follows_apart c h = not-true (continues c) (in_all (λ c. not (continues c)) following refl c h)

pub precedes_apart : (c : ℕ) → may_precede c ≡ true → joins c ≡ false
unfolding every
precedes_apart c h = not-true (joins c) (in_all (λ c. not (joins c)) preceding refl c h)
