use native.Mathlib.Omega.{arith}
use Rattle.weights.proofs.Laws.{left_end, left_out, left_next}
use Rattle.weights.proofs.count_below.Goals as goal
use Rattle.weights.proofs.count_below.Goals.{then-is_counted, else-is_counted}

pub returns-then-row-level : goal.returns-then-row-level
returns-then-row-level g c = λ P law.
    omega (arith, c.loop-r.invariant.same P law, left_out c.args.plan.now c.args.level c.args.end P c.loop-r.r c.loop-r-test.true (omega (arith, c.word-row.ensures)))

pub loop-r-preserved : goal.loop-r-preserved
loop-r-preserved g c = record {
  few = elim c.if-is_counted.branch [ then-is_counted w ↦ omega arith | else-is_counted w ↦ omega arith ];
  same = λ P law.
      let next = left_next c.args.plan.now c.args.level c.args.end P c.loop-r.r c.loop-r-test.true (omega (arith, c.word-row.ensures)) c.is_counted.result (law _ _ (rw c.word-row.ensures at c.is_counted.ensures)) in
      let before = c.loop-r.invariant.same P law in
      elim c.if-is_counted.branch [
        | then-is_counted w ↦ let now = rw w.if-is_counted.true at next in omega (arith, now, before)
        | else-is_counted w ↦ let now = rw w.if-is_counted.false at next in omega (arith, now, before)
      ];
}

pub returns : goal.returns
returns g c = λ P law. omega (arith, c.loop-r.invariant.same P law, left_end c.args.plan.now c.args.level c.args.end P c.loop-r.r c.loop-r-test.false)
