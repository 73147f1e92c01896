use Rattle.text.specs.Writes.{writes_then}
use Rattle.literal.specs.Quote.{quoted}
use Rattle.literal.proofs.quote.put_quoted.Goals as goal

pub returns : goal.returns
unfolding quoted
returns c = writes_then c.put_byte.ensures (writes_then c.put_escaped.ensures c.put_byte-2.ensures)
