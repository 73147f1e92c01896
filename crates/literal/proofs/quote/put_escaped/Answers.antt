use mathlib.Core.Path.{sym, ◌∙◌}
use Rattle.literal.proofs.Escapes.{escaping_none, escaping_pair, escaping_other, escaping_all}
use Rattle.literal.proofs.quote.put_escaped.Goals as goal
use Rattle.literal.proofs.quote.put_escaped.Goals.{then-is_escaped, else-is_escaped}

pub loop-i-init : goal.loop-i-init
loop-i-init c = escaping_none

pub loop-i-preserved : goal.loop-i-preserved
loop-i-preserved c = elim c.if-is_escaped.branch [
  | then-is_escaped t ↦ rw (t.w-is, t.first-is) (escaping_pair c.loop-i.invariant c.loop-i-test.true (sym c.is_escaped.ensures ∙ t.if-is_escaped.true) t.put_part.ensures t.put_byte.ensures t.put_byte-then-is_escaped.ensures)
  | else-is_escaped t ↦ rw (t.w-is, t.first-is) (escaping_other c.loop-i.invariant c.loop-i-test.true (sym c.is_escaped.ensures ∙ t.if-is_escaped.false))
]

pub returns : goal.returns
returns c = escaping_all c.loop-i.invariant c.loop-i-test.false c.loop-i.auto.i-end c.put_part-2.ensures
