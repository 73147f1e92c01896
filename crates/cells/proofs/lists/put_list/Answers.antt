use mathlib.Core.Path.{sym, ◌∙◌}
use Rattle.cells.proofs.values.Laws.{writes_nothing, writes_none}
use Rattle.cells.specs.Items.{list_words}
use Rattle.cells.proofs.lists.Laws.{items_none}
use Rattle.cells.proofs.lists.put_list.Goals as goal

pub returns-then-equal : goal.returns-then-equal
unfolding list_words
returns-then-equal c = rw (sym c.equal.ensures ∙ c.if-equal.true) writes_nothing

pub returns-in_err-list : goal.returns-in_err-list
unfolding list_words
returns-in_err-list c = rw (sym c.equal.ensures ∙ c.if-equal.false, c.in_err-list.was, c.from_residual.ensures) (writes_none (items_none _))
