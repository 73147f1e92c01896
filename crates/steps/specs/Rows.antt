-- What a step, an arm and their parts say of a `Body` of the definition, where the bindings of `bound` have names. Assumes nothing: these
-- are definitions.
use Rattle.std.specs.Prelude.{ℕ, List}
use Rattle.plan.specs.Row.{Row, ControlFlow}
use Rattle.codegen.specs.Writer.{Marks, said}
use Rattle.codegen.specs.Pattern.{bind_all}
use Rattle.codegen.specs.Block as block
use Rattle.codegen.specs.Block.{Purpose, Own, one_arm, arms_of, opening, one_arm_head, match_head, lets, emit_check, emit_arm}
use Rattle.view.specs.Told.{constraint_of}
use Rattle.body.specs.declared.Body.{Body}
use Rattle.body.specs.Told.{row_in, pattern_in}
use Rattle.body.specs.Own.{lets_own}

-- the lets bs
abbrev pub lets_at : Marks → List ℕ → block.Body → Marks → Own
lets_at bound bs = λ c q. lets_own (lets c bs q bound)

-- a step of the level l that does f, where the rows rs stand after it
abbrev pub check_at : Marks → ℕ → ControlFlow → List Row → block.Body → Marks → Own
check_at bound l f rs = λ c q. emit_check c q bound l f rs

-- row r, an arm inside a frame of the purpose p
abbrev pub arm_at : Body → Marks → Purpose → ℕ → block.Body → Marks → Own
arm_at b bound p r = λ c q. emit_arm c q bound p (constraint_of (row_in b r)) (pattern_in b r)

-- the first line of a match of q with one arm, row r, whose bindings have names on it too
abbrev pub one_arm_at : Body → Marks → ℕ → ℕ → block.Body → Marks → Own
one_arm_at b bound q r = λ c x. let inside = bind_all (pattern_in b r) bound in opening one_arm bound inside (said (one_arm_head c inside q (constraint_of (row_in b r)) (pattern_in b r)) x)

-- that of a match of q with several arms, the first of which is row r
abbrev pub several_arms_at : Body → Marks → ℕ → ℕ → block.Body → Marks → Own
several_arms_at b bound q r = λ c x. opening (arms_of q) bound bound (said (match_head c bound q (constraint_of (row_in b r))) x)
