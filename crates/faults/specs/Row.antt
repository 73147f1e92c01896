-- What is found of a row, and what the row does to the names. Assumes nothing: these are definitions.
use Rattle.std.specs.Prelude.{ℕ, ◌≡◌, Bool, false, List}
use Rattle.std.proofs.Math.Option.{Option}
use Rattle.plan.specs.Row.{Row}
use Rattle.codegen.specs.Block.{Purpose}
use Rattle.origin.specs.Names.{after_list, arm_inside, inside, arm_opens, opens}
use Rattle.row_frames.specs.Told.{opens_told}
use Rattle.emits.specs.Marks.{set_of}
use Rattle.schedule_rules.specs.Faults.{row_faults}
use Rattle.faults.specs.Kept.{SameAnswers}
use Rattle.faults.specs.Ready.{Decides}
use Rattle.faults.specs.declared.names.Names.{Names}
use Rattle.faults.specs.declared.check.Step.{Step}

-- an arm with the pattern xs, inside a frame of the purpose p: n' is of the names inside the frame that it opens
pub record JudgesArm (n n' : Names) (p : Purpose) (xs : List (Option ℕ)) (s : Step) : Type 0 where
  pub bindings : n'.bindings ≡ n.bindings
  pub same : SameAnswers n.kept n'.kept
  pub names : set_of n'.bound ≡ arm_inside p xs (set_of n.bound)
  pub frame : opens_told s.opens ≡ arm_opens p
  pub none_a : s.faults.a ≡ false
  pub none_b : s.faults.b ≡ false
  pub none_c : s.faults.c ≡ false

-- a row of a kind before the rows rs: n is of the names before it, n' of those inside the frame that it opens, and `kept` of those where
-- that closes; a `return`, of kind 3, opens none
pub record JudgesRow (n n' : Names) (p : Purpose) (kind : ℕ) (row : Row) (rs : List Row) (kept : List Bool) (s : Step) : Type 0 where
  pub bindings : n'.bindings ≡ n.bindings
  pub same : SameAnswers n.kept n'.kept
  pub names : set_of n'.bound ≡ inside p row rs (after_list row (set_of n.bound))
  pub frame : opens_told s.opens ≡ opens p row rs
  pub saved : (kind ≡ 3 → ⊥) → set_of kept ≡ after_list row (set_of n.bound)
  pub faults_a : Decides n.bindings (λ env bs. (row_faults env bs (set_of n.bound) row rs).a) s.faults.a
  pub faults_b : Decides n.bindings (λ env bs. (row_faults env bs (set_of n.bound) row rs).b) s.faults.b
  pub faults_c : Decides n.bindings (λ env bs. (row_faults env bs (set_of n.bound) row rs).c) s.faults.c
