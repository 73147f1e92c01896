use Prim.Native.Nat.{◌+◌}
use native.Mathlib.Omega.{arith}
use mathlib.Core.Path.{◌≡◌}
use Rattle.cells.proofs.values.Laws.{writes_then, writes_stop, writes_nothing}
use Rattle.cells.specs.declared.values.Cell.TheVariants.{Unused}
use Rattle.rows.proofs.Laws.{cells_more, cells_end}
use Rattle.rows.proofs.put_cells.Goals as goal

pub loop-k-init : goal.loop-k-init
loop-k-init c = λ r after w. let z : c.args.from + 0 ≡ c.args.from = omega arith in rw z at w

pub loop-k-preserved : goal.loop-k-preserved
loop-k-preserved c = λ r after w. let z : c.args.from + c.loop-k.k + 1 ≡ c.args.from + (c.loop-k.k + 1) = omega arith in
    c.loop-k.invariant r after (rw (cells_more c.args.sorts.now _ c.loop-k.k _ Unused c.loop-k-test.true, ← c.column.ensures, z) (writes_then c.in_ok-push_cell.ensures w))

pub returns-in_err-push_cell : goal.returns-in_err-push_cell
returns-in_err-push_cell c =
    c.loop-k.invariant _ _ (rw (cells_more c.args.sorts.now _ c.loop-k.k _ Unused c.loop-k-test.true, ← c.column.ensures) (writes_stop _ c.from_residual.ensures c.in_err-push_cell.ensures))

pub returns : goal.returns
returns c = c.loop-k.invariant _ _ (rw (cells_end c.args.sorts.now _ c.loop-k.k _ (omega arith)) writes_nothing)
