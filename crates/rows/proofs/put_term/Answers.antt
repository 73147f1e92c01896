use Rattle.cells.proofs.values.Laws.{writes_then, writes_stop}
use lib.Dec.{eqb}
use Rattle.text.specs.Split.{split}
use Rattle.plan.specs.Layout.{at}
use Rattle.cells.specs.Items.{list_words}
use Rattle.rows.specs.Row.{term_words}
use Rattle.rows.specs.Cells.{cells}
use Rattle.rows.proofs.Laws.{row_has, joined, before_none}
use Rattle.rows.proofs.put_term.Goals as goal

pub returns-in_err-put_cells : goal.returns-in_err-put_cells
unfolding term_words cells
returns-in_err-put_cells c = rw (row_has 9 _ _ c.in_ok-line.ensures.count, ← c.in_ok-line.ensures.text)
    (simp (joined, before_none) at (writes_stop (list_words 1 (at (split (eqb 32) c.in_ok-line.line.text.now) 8)) c.from_residual-in_err-put_cells.ensures c.in_err-put_cells.ensures))

pub returns : goal.returns
unfolding term_words cells
returns c = rw (row_has 9 _ _ c.in_ok-line.ensures.count, ← c.in_ok-line.ensures.text, ← c.column.ensures)
    (simp (joined, before_none) at (writes_then c.in_ok-put_cells.ensures c.put_list.ensures))
