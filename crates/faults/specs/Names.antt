-- What becomes of the names. Assumes nothing: this is a definition.
use Rattle.std.specs.Prelude.{◌≡◌}
use Rattle.codegen.specs.Writer.{Marks}
use Rattle.emits.specs.Marks.{set_of}
use Rattle.faults.specs.Kept.{SameAnswers}
use Rattle.faults.specs.declared.names.Names.{Names}

-- the bindings stay, and those of m have names then; the answers are kept in the same buffer
pub record NamesBecome (n : Names) (m : Marks) (n' : Names) : Type 0 where
  pub bindings : n'.bindings ≡ n.bindings
  pub names : set_of n'.bound ≡ m
  pub same : SameAnswers n.kept n'.kept
