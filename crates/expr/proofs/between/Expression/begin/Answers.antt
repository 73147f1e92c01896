use Rattle.std.proofs.Common.{sym, ◌∙◌}
use Rattle.emits.specs.Runs.{◌⟫◌}
use Rattle.expr.proofs.Turns.{emits_name}
use Rattle.expr.proofs.between.Expression.begin.Goals as goal

pub returns-then-contains-clause-written : goal.returns-then-contains-clause-written
returns-then-contains-clause-written c = λ v d₀ d g dp. rw (sym c.contains.ensures ∙ c.if-contains.true) (emits_name c.put_var.ensures)

pub returns-clause-written : goal.returns-clause-written
returns-clause-written c =
    let row = c.nameless-row.ensures in
    λ v d₀ d g dp. rw (sym c.contains.ensures ∙ c.if-contains.false) (rw (row.plan, row.number, row.binding, row.sources) at (c.begin.ensures.emits (rw row.plan v) d₀) ⟫ rw (row.plan, row.number, row.binding, row.sources) at (c.put_next.ensures.written (rw row.plan v) d₀ d g dp))

pub returns-clause-same : goal.returns-clause-same
returns-clause-same c =
    let p = c.begin.ensures.same in
    let q = c.put_next.ensures.same in
    (q.0 ∙ p.0, q.1 ∙ p.1, q.2 ∙ p.2)
