-- A test of every generated term. Assumes nothing.
use Prim.Native.Nat.{ℕ, zero, suc, ◌+◌}
use mathlib.Core.Path.{◌≡◌, refl, sym, ap}
use mathlib.Core.Bool.{Bool}
use mathlib.Core.List.{map}
use native.Mathlib.Omega.{arith}
use lib.ListN.{length}
use Rattle.std.specs.List.{list_all, range_with_len}
use Rattle.plan.specs.Plan.{Generated}
use Rattle.plan.specs.Refusal.{every}
use Rattle.view.specs.Buffers.{plan_of}
use Rattle.view.specs.declared.buffers.Plan.{Plan}
use Rattle.checks.specs.Terms as terms
use Rattle.checks.specs.Terms.{terms_from, terms_first, terms_none}
use Rattle.checks.specs.Tests.{tables_at, generated_of}

module _ (P : Generated → Bool) (p : Plan) where
  pub terms_all : every P (terms_from p 0) ≡ every P (plan_of p).generated
  terms_all = ap (every P) (sym (terms.terms_all p))

  -- n terms from the term i on, which is all of them that are left
  pub all_terms : (i n : ℕ) → i + n ≡ length (plan_of p).generated → list_all (λ g. P (generated_of p g)) (map tables_at (range_with_len i n)) ≡ every P (terms_from p i)
  unfolding every
  all_terms i zero h = rw (terms_none p i (omega arith)) refl
  all_terms i (suc n) h = rw (terms_first p i (tables_at i) refl (omega arith), all_terms (i + 1) n (omega arith)) refl
