use mathlib.Core.Path.{refl}
use Rattle.cells.proofs.values.Laws.{writes_then, writes_stop, writes_none}
use Rattle.cells.proofs.lists.Laws.{some_found, none_found, field_none, field_more, field_at}
use Rattle.cells.proofs.lists.put_field.Goals as goal

pub returns-in_err-e : goal.returns-in_err-e
returns-in_err-e c = rw c.from_residual.ensures (writes_none (field_none _ _ refl c.in_err-e.ensures.none))

pub returns-then-is_some : goal.returns-then-is_some
returns-then-is_some c = let e = c.in_ok-e.ensures.place in let f = some_found _ _ c.if-is_some.ensures c.find-2.ensures.place in
    writes_none (field_more _ _ e.0 _ e.1 f.1.0 f.1.1)

pub returns-in_err-put_number : goal.returns-in_err-put_number
returns-in_err-put_number c = let e = c.in_ok-e.ensures.place in
    rw (← field_at _ _ e.0 _ e.1 refl (none_found _ _ c.if-is_some.ensures c.find-2.ensures.none)) (writes_stop _ c.from_residual-in_err-put_number.ensures c.in_err-put_number.ensures)

pub returns : goal.returns
returns c = let e = c.in_ok-e.ensures.place in
    rw (← field_at _ _ e.0 _ e.1 refl (none_found _ _ c.if-is_some.ensures c.find-2.ensures.none)) (writes_then c.in_ok-put_number.ensures c.put_number-2.ensures)
