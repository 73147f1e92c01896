-- What the arms of a match do to the names, and (c) of a match. Assumes nothing: these are definitions.
use Rattle.std.specs.Prelude.{ℕ, Bool, false, not, ◌&&◌, List, drop}
use Rattle.plan.specs.Binding.{BindingRow}
use Rattle.codegen.specs.Writer.{Marks}
use Rattle.codegen.specs.Pattern.{bind_all}
use Rattle.codegen.specs.Block.{is_constant}
use Rattle.rows.specs.View.{patterns_in}
use Rattle.view.specs.Told.{constraint_of}
use Rattle.row_frames.specs.declared.Arms.{Arms}
use Rattle.row_frames.specs.declared.Arms.TheVariants.{Absent, One, Several}
use Rattle.schedule_rules.specs.Faults.{uses, own_new}

-- the names inside the match, whose first arm has these words
abbrev pub arm_names : Arms → List ℕ → Marks → Marks
arm_names Absent ws m = m
arm_names One ws m = bind_all (patterns_in (drop 7 ws)) m
arm_names Several ws m = m

-- (c) of a match of one arm with these words
unfoldable pub own_used : List BindingRow → Marks → ℕ → List ℕ → Bool
own_used bs m q ws = let xs = patterns_in (drop 7 ws) in not (is_constant (constraint_of ws)) && uses (own_new xs m) bs (bind_all xs m) q

abbrev pub arm_own : Arms → List BindingRow → Marks → ℕ → List ℕ → Bool
arm_own Absent bs m q ws = false
arm_own One bs m q ws = own_used bs m q ws
arm_own Several bs m q ws = false
