use Rattle.std.proofs.Common.{refl, ◌∙◌, arith}
use Rattle.checks.specs.Terms.{terms_start}
use Rattle.faults.specs.Terms.{lines_next, sheet_done}
use Rattle.faults.proofs.Bytes.{sheet_any, fits_any}
use Rattle.faults.proofs.sheet.put_sheet.Goals as goal

pub loop-i-init : goal.loop-i-init
loop-i-init c = ((refl, refl, refl), terms_start)

pub loop-i-preserved : goal.loop-i-preserved
loop-i-preserved c =
    let s = c.put_term.ensures.same in
    let k = c.loop-i.invariant.0 in
    ((s.0 ∙ k.0, s.1 ∙ k.1, s.2 ∙ k.2), λ f. lines_next (c.loop-i.invariant.1 f) c.generated_tables.ensures (omega (arith, c.generated_count-i-end.ensures.count)) c.put_term.ensures)

pub returns-clause-any : goal.returns-clause-any
returns-clause-any c = λ bytes x. rw (sheet_any c.args.plan.now bytes) (sheet_done (c.loop-i.invariant.1 (fits_any c.args.plan.now bytes x)) (omega (arith, c.generated_count-i-end.ensures.count)) c.put_bytes.ensures)

pub returns-clause-own : goal.returns-clause-own
returns-clause-own c = returns-clause-any c c.args.plan.now.bytes.now

pub returns-clause-same : goal.returns-clause-same
returns-clause-same c =
    let p = c.put_bytes.ensures in
    let k = c.loop-i.invariant.0 in
    (k.0 ∙ p.buffer, k.1 ∙ p.size, k.2 ∙ p.end)
