-- A scheduled block as rows with levels: `Block`, `EvalStep`, `ControlFlow` and `MatchArm` of serialize.rs 56 to 123.
-- Assumes nothing: these are definitions.
use Rattle.std.specs.Prelude.{ℕ, List}
use Rattle.std.proofs.Math.Option.{Option}
use Rattle.plan.specs.Constraint.{Constraint}

pub data ControlFlow : Type 0 where
  -- source
  Match : ℕ → ControlFlow
  Equal : ℕ → ℕ → ControlFlow
  -- result
  Loop : ℕ → ControlFlow
  -- result, position
  Return : ℕ → ℕ → ControlFlow

-- a row's level; a step with its `bind_order`, or an arm with the bindings of its pattern
pub data Row : Type 0 where
  step : ℕ → ControlFlow → List ℕ → Row
  arm : ℕ → Constraint → List (Option ℕ) → Row

unfoldable pub level : Row → ℕ
level (step l c bs) = l
level (arm l c bs) = l
