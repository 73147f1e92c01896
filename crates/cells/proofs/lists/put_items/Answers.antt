use native.Mathlib.Omega.{arith}
use Prim.Native.Nat.{◌<◌}
use lib.ListN.{length}
use Rattle.cells.proofs.values.Laws.{writes_then}
use Rattle.cells.proofs.lists.Laws.{items_last, items_more, items_stop}
use Rattle.cells.proofs.lists.put_items.Goals as goal

pub loop-i-preserved : goal.loop-i-preserved
loop-i-preserved c = let g : c.end_of-e.result < length c.args.t.now = omega arith in
    (omega arith, λ r after w. c.loop-i.invariant.1 r after (rw (items_more _ _ _ _ c.end_of-e.ensures.0 g) (writes_then c.in_ok-put_item.ensures w)))

pub returns-in_err-put_item : goal.returns-in_err-put_item
returns-in_err-put_item c = c.loop-i.invariant.1 _ _ (items_stop _ _ _ _ c.end_of-e.ensures.0 c.end_of-e.ensures.1 c.from_residual.ensures c.in_err-put_item.ensures)

pub returns-then-e-t : goal.returns-then-e-t
returns-then-e-t c = c.loop-i.invariant.1 _ _ (rw (items_last _ _ _ _ c.end_of-e.ensures.0 c.if-e-t.true) c.in_ok-put_item.ensures)
