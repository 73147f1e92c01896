use Rattle.std.proofs.Common.{refl, ◌∙◌, arith}
use Rattle.emit_terms.specs.Term.{terms_start, terms_next, terms_done}
use Rattle.emit_terms.proofs.term.generate_internal_term_constructors.Goals as goal

pub loop-i-init : goal.loop-i-init
loop-i-init c = record { same = (refl, refl, refl); written = λ v f. terms_start f }

pub loop-i-preserved : goal.loop-i-preserved
loop-i-preserved c = record {
  same = let x = c.loop-i.invariant.same in let y = c.emit_term.ensures.same in (y.0 ∙ x.0, y.1 ∙ x.1, y.2 ∙ x.2);
  written = λ v f. terms_next (c.loop-i.invariant.written v f) (omega (arith, c.generated_count-i-end.ensures.count)) c.generated_tables.ensures (c.emit_term.ensures.written _ v c.read-options.ensures);
}

pub returns-clause-written : goal.returns-clause-written
returns-clause-written c = λ v f. terms_done (c.loop-i.invariant.written v f) (omega (arith, c.generated_count-i-end.ensures.count))
