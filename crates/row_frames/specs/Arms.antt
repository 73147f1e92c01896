-- The arms of a match as code tells them apart, and the frames that they open. Assumes nothing: these are definitions.
use Rattle.std.specs.Prelude.{ℕ, cond, List, [], ◌∷◌, eqb}
use Rattle.std.proofs.Math.Option.{Option, some, none}
use Rattle.plan.specs.Row.{Row, step, arm}
use Rattle.codegen.specs.Block.{Purpose, one_arm, arms_of, arm_count}
use Rattle.row_frames.specs.declared.Arms.{Arms}
use Rattle.row_frames.specs.declared.Arms.TheVariants.{Absent, One, Several}

-- the arms of a match of level l before these rows
unfoldable pub arms_in : ℕ → List Row → Arms
arms_in l [] = Absent
arms_in l (step k c bs ∷ rs) = Absent
arms_in l (arm k c bs ∷ rs) = cond (eqb (arm_count l (arm k c bs ∷ rs)) 1) One Several

abbrev pub opened_by : Arms → ℕ → Option Purpose
opened_by Absent q = none
opened_by One q = some one_arm
opened_by Several q = some (arms_of q)
