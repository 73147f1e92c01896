use Rattle.rows.specs.Row.{options_words}
use Rattle.rows.specs.Cells.{cells}
use Rattle.rows.proofs.Laws.{row_has, after_none}
use Rattle.rows.proofs.put_options.Goals as goal

pub returns : goal.returns
unfolding options_words cells
returns c = rw (row_has 4 _ _ c.in_ok-line.ensures.count, ← c.in_ok-line.ensures.text) (simp after_none at c.put_cells.ensures)
