-- What may stand at a level, as it is stored: 0 steps, 1 arms, 2 nothing. Assumes nothing: these are definitions.
use Rattle.std.specs.Prelude.{ℕ, Bool, false, cond, eqb, leb, ltb}
use Rattle.plan.specs.Layout.{Below, arms, steps, nothing}
use Rattle.reader.specs.declared.levels.Below as levels
use Rattle.reader.specs.declared.levels.Below.TheVariants.{Steps, Arms, Nothing}

unfoldable pub below_at : ℕ → Below
below_at code = cond (eqb code 1) arms (cond (eqb code 2) nothing steps)

-- the kinds from 4 on are arms
unfoldable pub stands : ℕ → ℕ → Bool
stands code kind = cond (eqb code 1) (leb 4 kind) (cond (eqb code 2) false (ltb kind 4))

-- the kind 0 is a match, 3 a return
unfoldable pub below_code : ℕ → ℕ
below_code kind = cond (eqb kind 0) 1 (cond (eqb kind 3) 2 0)

-- the number of the code's value
abbrev pub code : levels.Below → ℕ
code Steps = 0
code Arms = 1
code Nothing = 2

-- the code's value that a number stands for
abbrev pub stored : ℕ → levels.Below
stored n = cond (eqb n 1) Arms (cond (eqb n 2) Nothing Steps)
