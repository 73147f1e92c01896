use Rattle.cells.proofs.values.Laws.{◌⟫◌, writes_stop, writes_none, word_none, kind_read}
use Rattle.rows.specs.Row.{type_words}
use Rattle.rows.proofs.Laws.{row_has}
use Rattle.rows.proofs.put_type.Goals as goal

pub returns-in_err-kind : goal.returns-in_err-kind
unfolding type_words
returns-in_err-kind c = rw (row_has 6 _ _ c.in_ok-line.ensures.count, ← c.in_ok-line.ensures.text, ← c.column.ensures)
    (writes_stop _ c.from_residual-in_err-kind.ensures (writes_none (word_none _ c.in_err-kind.ensures)))

pub returns-in_err-push : goal.returns-in_err-push
unfolding type_words
returns-in_err-push c = rw (row_has 6 _ _ c.in_ok-line.ensures.count, ← c.in_ok-line.ensures.text, ← c.column.ensures, (kind_read _ _ _ c.in_ok-kind.ensures).0, (kind_read _ _ _ c.in_ok-kind.ensures).1, ← c.into.ensures)
    (writes_stop _ c.from_residual-in_err-push.ensures c.in_err-push.ensures)

pub returns-in_err-push_cell : goal.returns-in_err-push_cell
unfolding type_words
returns-in_err-push_cell c = rw (row_has 6 _ _ c.in_ok-line.ensures.count, ← c.in_ok-line.ensures.text, ← c.column.ensures, (kind_read _ _ _ c.in_ok-kind.ensures).0, (kind_read _ _ _ c.in_ok-kind.ensures).1, ← c.column-2.ensures, ← c.into.ensures)
    (c.in_ok-push.ensures ⟫ writes_stop _ c.from_residual-in_err-push_cell.ensures c.in_err-push_cell.ensures)

pub returns-in_err-push_cell-2 : goal.returns-in_err-push_cell-2
unfolding type_words
returns-in_err-push_cell-2 c = rw (row_has 6 _ _ c.in_ok-line.ensures.count, ← c.in_ok-line.ensures.text, ← c.column.ensures, (kind_read _ _ _ c.in_ok-kind.ensures).0, (kind_read _ _ _ c.in_ok-kind.ensures).1, ← c.column-2.ensures, ← c.column-3.ensures, ← c.bits-bits.ensures, ← c.into.ensures)
    (c.in_ok-push.ensures ⟫ c.in_ok-push_cell.ensures ⟫ writes_stop _ c.from_residual-in_err-push_cell-2.ensures c.in_err-push_cell-2.ensures)

pub returns-in_err-push_cell-3 : goal.returns-in_err-push_cell-3
unfolding type_words
returns-in_err-push_cell-3 c = rw (row_has 6 _ _ c.in_ok-line.ensures.count, ← c.in_ok-line.ensures.text, ← c.column.ensures, (kind_read _ _ _ c.in_ok-kind.ensures).0, (kind_read _ _ _ c.in_ok-kind.ensures).1, ← c.column-2.ensures, ← c.column-3.ensures, ← c.bits-bits.ensures, ← c.column-4.ensures, ← c.into.ensures)
    (c.in_ok-push.ensures ⟫ c.in_ok-push_cell.ensures ⟫ c.in_ok-push_cell-2.ensures ⟫ writes_stop _ c.from_residual-in_err-push_cell-3.ensures c.in_err-push_cell-3.ensures)

pub returns-in_err-push_cell-4 : goal.returns-in_err-push_cell-4
unfolding type_words
returns-in_err-push_cell-4 c = rw (row_has 6 _ _ c.in_ok-line.ensures.count, ← c.in_ok-line.ensures.text, ← c.column.ensures, (kind_read _ _ _ c.in_ok-kind.ensures).0, (kind_read _ _ _ c.in_ok-kind.ensures).1, ← c.column-2.ensures, ← c.column-3.ensures, ← c.bits-bits.ensures, ← c.column-4.ensures, ← c.column-5.ensures, ← c.pos.ensures, ← c.into.ensures)
    (c.in_ok-push.ensures ⟫ c.in_ok-push_cell.ensures ⟫ c.in_ok-push_cell-2.ensures ⟫ c.in_ok-push_cell-3.ensures ⟫ writes_stop _ c.from_residual-in_err-push_cell-4.ensures c.in_err-push_cell-4.ensures)

pub returns : goal.returns
unfolding type_words
returns c = rw (row_has 6 _ _ c.in_ok-line.ensures.count, ← c.in_ok-line.ensures.text, ← c.column.ensures, (kind_read _ _ _ c.in_ok-kind.ensures).0, (kind_read _ _ _ c.in_ok-kind.ensures).1, ← c.column-2.ensures, ← c.column-3.ensures, ← c.bits-bits.ensures, ← c.column-4.ensures, ← c.column-5.ensures, ← c.pos.ensures, ← c.column-6.ensures, ← c.list.ensures, ← c.into.ensures)
    (c.in_ok-push.ensures ⟫ c.in_ok-push_cell.ensures ⟫ c.in_ok-push_cell-2.ensures ⟫ c.in_ok-push_cell-3.ensures ⟫ c.in_ok-push_cell-4.ensures ⟫ c.put_list.ensures)
