use Rattle.expr.proofs.Loops.{writes_expr}
use Rattle.expr.proofs.emit_expr.Goals as goal

pub returns-clause-emits : goal.returns-clause-emits
returns-clause-emits c = λ h. writes_expr h c.emit_below.ensures
