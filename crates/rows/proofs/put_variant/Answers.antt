use Rattle.cells.proofs.values.Laws.{◌⟫◌, writes_stop, writes_none, word_none, kind_read}
use Rattle.rows.specs.Row.{variant_words}
use Rattle.rows.proofs.Laws.{row_has}
use Rattle.rows.proofs.put_variant.Goals as goal

pub returns-in_err-push_cell : goal.returns-in_err-push_cell
unfolding variant_words
returns-in_err-push_cell c = rw (row_has 4 _ _ c.in_ok-line.ensures.count, ← c.in_ok-line.ensures.text, ← c.column.ensures)
    (writes_stop _ c.from_residual-in_err-push_cell.ensures c.in_err-push_cell.ensures)

pub returns-in_err-push_cell-2 : goal.returns-in_err-push_cell-2
unfolding variant_words
returns-in_err-push_cell-2 c = rw (row_has 4 _ _ c.in_ok-line.ensures.count, ← c.in_ok-line.ensures.text, ← c.column.ensures, ← c.column-2.ensures)
    (c.in_ok-push_cell.ensures ⟫ writes_stop _ c.from_residual-in_err-push_cell-2.ensures c.in_err-push_cell-2.ensures)

pub returns-in_err-shape : goal.returns-in_err-shape
unfolding variant_words
returns-in_err-shape c = rw (row_has 4 _ _ c.in_ok-line.ensures.count, ← c.in_ok-line.ensures.text, ← c.column.ensures, ← c.column-2.ensures, ← c.column-3.ensures)
    (c.in_ok-push_cell.ensures ⟫ c.in_ok-push_cell-2.ensures ⟫ writes_stop _ c.from_residual-in_err-shape.ensures (writes_none (word_none _ c.in_err-shape.ensures)))

pub returns-in_err-push : goal.returns-in_err-push
unfolding variant_words
returns-in_err-push c = rw (row_has 4 _ _ c.in_ok-line.ensures.count, ← c.in_ok-line.ensures.text, ← c.column.ensures, ← c.column-2.ensures, ← c.column-3.ensures, (kind_read _ _ _ c.in_ok-shape.ensures).0, (kind_read _ _ _ c.in_ok-shape.ensures).1, ← c.into.ensures)
    (c.in_ok-push_cell.ensures ⟫ c.in_ok-push_cell-2.ensures ⟫ writes_stop _ c.from_residual-in_err-push.ensures c.in_err-push.ensures)

pub returns : goal.returns
unfolding variant_words
returns c = rw (row_has 4 _ _ c.in_ok-line.ensures.count, ← c.in_ok-line.ensures.text, ← c.column.ensures, ← c.column-2.ensures, ← c.column-3.ensures, (kind_read _ _ _ c.in_ok-shape.ensures).0, (kind_read _ _ _ c.in_ok-shape.ensures).1, ← c.column-4.ensures, ← c.list.ensures, ← c.into.ensures)
    (c.in_ok-push_cell.ensures ⟫ c.in_ok-push_cell-2.ensures ⟫ c.in_ok-push.ensures ⟫ c.put_list.ensures)
