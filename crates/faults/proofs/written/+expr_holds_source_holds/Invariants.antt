use Rattle.std.proofs.Common.{suc, ◌*◌}
use Rattle.faults.proofs.ExprLaws.{Left}
use Rattle.faults.proofs.written.+expr_holds_source_holds.Given as goal

-- a binding's sources are below it
abbrev pub decreases-expr_holds : goal.decreases-expr_holds
decreases-expr_holds l = suc (2 * l.b)

abbrev pub decreases-source_holds : goal.decreases-source_holds
decreases-source_holds l = 2 * l.b

abbrev pub invariant-source_holds-loop-word : goal.invariant-source_holds-loop-word
invariant-source_holds-loop-word l = Left l.question l.bindings l.b l.word-index l.initial.kept l.kept
