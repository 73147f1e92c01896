use Rattle.std.proofs.Common.{sym, ◌∙◌}
use Rattle.codegen.specs.Expr.{emit_source}
use Rattle.emits.specs.Runs.{shows_sink, ◌⟫◌}
use Rattle.expr_parts.proofs.Laws.{emits_borrow}
use Rattle.expr.specs.Told.{env_in}
use Rattle.expr.proofs.emit_source.Goals as goal

pub returns-clause-emits : goal.returns-clause-emits
unfolding emit_source
returns-clause-emits c = λ h. rw (← c.wants_ref.ensures) (emits_borrow c.wants_ref.result c.contains.result (sym c.contains.ensures) (c.put_borrow.ensures (env_in c.args.scope.now) c.args.depth)) ⟫ c.emit_expr.ensures.emits h

pub returns-clause-same : goal.returns-clause-same
returns-clause-same c =
    let p = shows_sink (c.put_borrow.ensures (env_in c.args.scope.now) c.args.depth) in
    let q = c.emit_expr.ensures.same in
    (q.0 ∙ p.0, q.1 ∙ p.1, q.2 ∙ p.2)
