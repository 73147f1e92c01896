use Rattle.std.proofs.Common.{◌∙◌, add-one}
use Rattle.emits.specs.Runs.{emits_sink, ◌⟫◌}
use Rattle.expr.proofs.between.Expression.go_on.Goals as goal

pub returns-clause-written : goal.returns-clause-written
returns-clause-written c =
    let row = c.nameless-row.ensures in
    λ v d₀ d g dp. rw (c.requires.nameless, add-one) (rw (row.plan, c.word_in-q.ensures, row.binding, row.sources) at (c.put_after_source.ensures d₀) ⟫ rw (row.plan, add-one, row.number, row.binding, row.sources) at (c.put_next.ensures.written (rw row.plan v) d₀ d g dp))

pub returns-clause-same : goal.returns-clause-same
returns-clause-same c =
    let p = emits_sink (c.put_after_source.ensures 0) in
    let q = c.put_next.ensures.same in
    (q.0 ∙ p.0, q.1 ∙ p.1, q.2 ∙ p.2)
