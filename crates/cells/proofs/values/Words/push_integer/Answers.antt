use borrow.Author.Tests.{ne_eqb}
use Rattle.plan.specs.Layout.{◌⊛◌}
use Rattle.cells.specs.Value.{integer}
use Rattle.cells.proofs.values.Laws.{integer_words, writes_none, writes_then, writes_stop}
use Rattle.cells.proofs.values.Words.push_integer.Goals as goal

pub returns-then-t-ne32 : goal.returns-then-t-ne32
unfolding integer ◌⊛◌
returns-then-t-ne32 c = writes_none (rw (ne_eqb _ _ c.if-t-ne32.true))

pub returns-in_err-push_hex : goal.returns-in_err-push_hex
returns-in_err-push_hex c = rw (← integer_words c.args.t.now c.if-t-ne32.false)
    (writes_stop _ c.from_residual.ensures c.in_err-push_hex.ensures)

pub returns-in_err-push_hex-2 : goal.returns-in_err-push_hex-2
returns-in_err-push_hex-2 c = rw (← integer_words c.args.t.now c.if-t-ne32.false)
    (writes_then c.in_ok-push_hex.ensures (writes_stop _ c.from_residual-in_err-push_hex-2.ensures c.in_err-push_hex-2.ensures))

pub returns-in_err-push_hex-3 : goal.returns-in_err-push_hex-3
returns-in_err-push_hex-3 c = rw (← integer_words c.args.t.now c.if-t-ne32.false)
    (writes_then c.in_ok-push_hex.ensures (writes_then c.in_ok-push_hex-2.ensures (writes_stop _ c.from_residual-in_err-push_hex-3.ensures c.in_err-push_hex-3.ensures)))

pub returns : goal.returns
returns c = rw (← integer_words c.args.t.now c.if-t-ne32.false)
    (writes_then c.in_ok-push_hex.ensures (writes_then c.in_ok-push_hex-2.ensures (writes_then c.in_ok-push_hex-3.ensures c.push_hex-4.ensures)))
