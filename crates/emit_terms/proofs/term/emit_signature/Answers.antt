use Rattle.text.specs.Writes.{writes_then}
use Rattle.emit_terms.specs.Term.{signature_written}
use Rattle.emit_terms.proofs.term.emit_signature.Goals as goal

pub returns-clause-written : goal.returns-clause-written
returns-clause-written c = λ term q y. signature_written _ _ _ _ _ q y c.ret_ty.ensures c.put_head.ensures c.put_arguments.ensures c.put_result.ensures

pub returns-clause-same : goal.returns-clause-same
returns-clause-same c = let p = writes_then c.put_head.ensures (writes_then c.put_arguments.ensures c.put_result.ensures) in (p.buffer, p.size, p.end)
