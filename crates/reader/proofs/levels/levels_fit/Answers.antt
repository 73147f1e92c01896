use Rattle.std.proofs.Common.{◌-◌, ap, sym, ◌∙◌, map, length-set, arith}
use Rattle.plan.specs.Layout.{nested}
use Rattle.rows.specs.View.{block_of}
use Rattle.rows.specs.Kinds.{block_number}
use Rattle.layout.specs.View.{cut, cuts}
use Rattle.view.proofs.Laws.{cuts_next}
use Rattle.reader.proofs.levels.Laws.{nested_not, nested_next, nested_none, stack_start}
use Rattle.reader.proofs.levels.levels_fit.Goals as goal

pub loop-r-init : goal.loop-r-init
loop-r-init c = record {
  depth = omega arith;
  room = rw c.new-levels.ensures.above (simp length-set (omega arith));
  nests = rw (c.new-levels.ensures.depth, c.new-levels.ensures.above)
      (ap (λ l. nested l (map block_of (cuts c.args.plan.now.words.now c.args.plan.now.rows.now c.args.from (c.args.to - c.args.from)))) (stack_start c.args.above.now (omega arith)));
}

pub returns-then-not-allows : goal.returns-then-not-allows
returns-then-not-allows c = let e = cuts_next c.args.plan.now.words.now c.args.plan.now.rows.now c.loop-r.r c.args.to c.loop-r-test.true in
    let w = cut c.args.plan.now.words.now c.args.plan.now.rows.now c.loop-r.r in
    sym (rw e (nested_not _ _ w _ _ _ c.word-level.ensures (ap block_number c.block_kind-kind.ensures) (omega arith) (sym c.allows.ensures ∙ c.if-not-allows.true))) ∙ c.loop-r.invariant.nests

pub loop-r-preserved : goal.loop-r-preserved
loop-r-preserved c = let e = cuts_next c.args.plan.now.words.now c.args.plan.now.rows.now c.loop-r.r c.args.to c.loop-r-test.true in
    let w = cut c.args.plan.now.words.now c.args.plan.now.rows.now c.loop-r.r in
    let may = sym c.allows.ensures ∙ c.if-not-allows.false in
    record {
      depth = rw c.put.ensures.depth (grind arith);
      room = rw c.put.ensures.above (simp length-set (omega arith));
      nests = rw (c.put.ensures.depth, c.put.ensures.above) (sym (rw e (nested_next _ _ w _ _ _ c.word-level.ensures (ap block_number c.block_kind-kind.ensures) (omega arith) may (grind arith))) ∙ c.loop-r.invariant.nests);
    }

pub returns : goal.returns
returns c = sym (nested_none _ _ _ _ _ (omega arith)) ∙ c.loop-r.invariant.nests
