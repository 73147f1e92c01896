-- Refusals 4 and 7 to 10 are the same whatever the plan's bytes are: of the texts, they ask at most how many there are. Assumes nothing.
use Prim.Native.Nat.{ℕ}
use mathlib.Core.Path.{◌≡◌, refl}
use mathlib.Core.List.{List}
use Rattle.plan.specs.Refusal.{environment_most, within_most, sources_lower, returns_fit, matches_have_arms, loops_iterate}
use Rattle.view.specs.Buffers.{plan_of}
use Rattle.view.specs.Bytes.{plan_with, plan_alike, generated_any}
use Rattle.view.specs.declared.buffers.Plan.{Plan}
use Rattle.checks.specs.Within.{arguments_few}

module _ (p : Plan) (bytes : List ℕ) where
  pub few_any : arguments_few (plan_with bytes p) ≡ arguments_few (plan_of p)
  unfolding arguments_few
  few_any = rw (generated_any p bytes) refl

  pub most_any : within_most (plan_with bytes p) ≡ within_most (plan_of p)
  unfolding within_most environment_most
  most_any = let a = plan_alike p bytes in rw (a.files, a.syms, a.poss, a.types, a.variants, a.terms, generated_any p bytes) refl

  pub lower_any : sources_lower (plan_with bytes p) ≡ sources_lower (plan_of p)
  unfolding sources_lower
  lower_any = rw (generated_any p bytes) refl

  pub returns_any : returns_fit (plan_with bytes p) ≡ returns_fit (plan_of p)
  unfolding returns_fit
  returns_any = rw ((plan_alike p bytes).terms, generated_any p bytes) refl

  pub arms_any : matches_have_arms (plan_with bytes p) ≡ matches_have_arms (plan_of p)
  unfolding matches_have_arms
  arms_any = rw (generated_any p bytes) refl

  pub loops_any : loops_iterate (plan_with bytes p) ≡ loops_iterate (plan_of p)
  unfolding loops_iterate
  loops_any = rw (generated_any p bytes) refl
