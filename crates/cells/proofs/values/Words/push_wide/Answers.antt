use Rattle.cells.specs.Value.{wide}
use Rattle.cells.proofs.values.Laws.{narrow_words, writes_then, writes_stop}
use Rattle.cells.proofs.values.Words.push_wide.Goals as goal

pub returns-in-Integer : goal.returns-in-Integer
unfolding wide
returns-in-Integer c = rw c.in-Integer.is c.push_integer.ensures

pub returns-in_err-push_cell-in-Narrow : goal.returns-in_err-push_cell-in-Narrow
returns-in_err-push_cell-in-Narrow c = rw (c.in-Narrow.is, ← narrow_words c.in-Narrow.cell c.args.t.now)
    (writes_stop _ c.from_residual.ensures c.in_err-push_cell-in-Narrow.ensures)

pub returns-in_err-push-in-Narrow : goal.returns-in_err-push-in-Narrow
returns-in_err-push-in-Narrow c = rw (c.in-Narrow.is, ← narrow_words c.in-Narrow.cell c.args.t.now)
    (writes_then c.in_ok-push_cell-in-Narrow.ensures (writes_stop _ c.from_residual-in_err-push-in-Narrow.ensures c.in_err-push-in-Narrow.ensures))

pub returns-in_err-push-in-Narrow-2 : goal.returns-in_err-push-in-Narrow-2
returns-in_err-push-in-Narrow-2 c = rw (c.in-Narrow.is, ← narrow_words c.in-Narrow.cell c.args.t.now)
    (writes_then c.in_ok-push_cell-in-Narrow.ensures (writes_then c.in_ok-push-in-Narrow.ensures (writes_stop _ c.from_residual-in_err-push-in-Narrow-2.ensures c.in_err-push-in-Narrow-2.ensures)))

pub returns-in_ok-push-in-Narrow-2 : goal.returns-in_ok-push-in-Narrow-2
returns-in_ok-push-in-Narrow-2 c = rw (c.in-Narrow.is, ← narrow_words c.in-Narrow.cell c.args.t.now)
    (writes_then c.in_ok-push_cell-in-Narrow.ensures (writes_then c.in_ok-push-in-Narrow.ensures (writes_then c.in_ok-push-in-Narrow-2.ensures c.push-in-Narrow-2.ensures)))
