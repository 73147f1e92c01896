-- What is found of a step, and what the step does to the names. Assumes nothing: these are definitions.
use Rattle.std.specs.Prelude.{ℕ, ◌≡◌, List}
use Rattle.plan.specs.Row.{ControlFlow, Row, step}
use Rattle.codegen.specs.Block.{Purpose}
use Rattle.origin.specs.Names.{inside, opens}
use Rattle.row_frames.specs.Told.{opens_told}
use Rattle.schedule_rules.specs.Faults.{loop_unbound, check_calls, match_uses_own}
use Rattle.emits.specs.Marks.{set_of}
use Rattle.faults.specs.Kept.{SameAnswers}
use Rattle.faults.specs.Ready.{Decides}
use Rattle.faults.specs.declared.names.Names.{Names}
use Rattle.faults.specs.declared.check.Step.{Step}

-- a step k of level l before the rows rs, after its list: n is of the names there, and n' of those inside the frame that it opens
pub record JudgesStep (n n' : Names) (k : ControlFlow) (l : ℕ) (rs : List Row) (s : Step) : Type 0 where
  pub bindings : n'.bindings ≡ n.bindings
  pub same : SameAnswers n.kept n'.kept
  pub names : (p : Purpose) (xs : List ℕ) → set_of n'.bound ≡ inside p (step l k xs) rs (set_of n.bound)
  pub frame : (p : Purpose) (xs : List ℕ) → opens_told s.opens ≡ opens p (step l k xs) rs
  pub faults_a : Decides n.bindings (λ env bs. loop_unbound bs (set_of n.bound) k) s.faults.a
  pub faults_b : Decides n.bindings (λ env bs. check_calls env bs (set_of n.bound) l k rs) s.faults.b
  pub faults_c : Decides n.bindings (λ env bs. match_uses_own bs (set_of n.bound) l k rs) s.faults.c
