use Rattle.std.proofs.Common.{sym, ◌∙◌, arith}
use Rattle.view.specs.Buffers.{env_of}
use Rattle.view.specs.Told.{binding_told}
use Rattle.expr.specs.Between.{source_count, inner, before_source, ends}
use Rattle.expr.proofs.Turns.{inner_plus, emits_next, emits_last}
use Rattle.expr.proofs.between.BindingRow.put_next.Goals as goal

pub returns-then-count_sources-i-clause-written : goal.returns-then-count_sources-i-clause-written
returns-then-count_sources-i-clause-written c =
    let env = env_of c.args.self.now.plan.now in
    let k = binding_told c.args.self.now.binding in
    let qs = c.args.self.now.sources.now in
    λ v d₀ d g dp. emits_last (before_source env (inner k d) k) qs (ends env d c.args.self.now.number k qs) (source_count env k qs) c.args.i (rw (← c.count_sources.ensures) c.if-count_sources-i.true) (c.finish.ensures.emits d₀ d _ g)

pub returns-clause-written : goal.returns-clause-written
returns-clause-written c =
    let env = env_of c.args.self.now.plan.now in
    let k = binding_told c.args.self.now.binding in
    let qs = c.args.self.now.sources.now in
    λ v d₀ d g dp. emits_next (before_source env (inner k d) k) qs (ends env d c.args.self.now.number k qs) (source_count env k qs) c.args.i (rw (← c.count_sources.ensures) (omega (arith, c.if-count_sources-i.false)))
    c.contains-given.result (rw (← c.word_in-q.ensures) (sym c.contains-given.ensures)) (c.put_before.ensures.emits v d₀ (inner k d) _ (c.inner_depth-below.ensures dp ∙ inner_plus k d₀ d g))
