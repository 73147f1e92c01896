use Rattle.text.specs.Writes.{SameSink}
use Rattle.view.specs.Buffers.{plan_of}
use Rattle.sema.specs.Holds.{VariantsIndexed}
use Rattle.emit_terms.specs.Accepted.{PlanFits}
use Rattle.emit_terms.specs.Term.{TermsLeft}
use Rattle.emit_terms.proofs.term.generate_internal_term_constructors.Given as goal

abbrev pub invariant-loop-i : goal.invariant-loop-i
invariant-loop-i l = record {
  same : SameSink l.initial.w l.w;
  written : VariantsIndexed l.plan → PlanFits (plan_of l.plan) → TermsLeft l.plan l.initial.w l.i l.w;
}
