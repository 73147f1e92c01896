use Rattle.std.proofs.Common.{◌≡◌, refl, ◌∙◌}
use Rattle.plan.specs.Lookup.{term_at}
use Rattle.view.specs.Buffers.{env_of}
use Rattle.emit_terms.specs.Term.{term_name, term_written}
use Rattle.emit_terms.proofs.term.emit_term.Goals as goal

pub returns-clause-written : goal.returns-clause-written
returns-clause-written c = λ o v u f.
    let n = c.number.result in
    let sig = c.constructor_sig-sig.ensures.0 in
    let name : c.table_word-name.result ≡ (term_at (env_of c.args.plan.now) n).name = c.table_word-name.ensures ∙ term_name c.args.plan.now n in
    rw (← c.number.ensures) (term_written u _ n c.args.tables.block c.constructor_sig-sig.result sig refl refl name c.threshold_of.ensures v (rw (← c.number.ensures) at f) (c.emit_signature.ensures.written _ sig name) c.emit_body.ensures c.emit_end.ensures.written)

pub returns-clause-same : goal.returns-clause-same
returns-clause-same c =
    let x = c.emit_signature.ensures.same in
    let y = c.emit_body.ensures.same in
    let z = c.emit_end.ensures.same in
    (z.0 ∙ y.0 ∙ x.0, z.1 ∙ y.1 ∙ x.1, z.2 ∙ y.2 ∙ x.2)
