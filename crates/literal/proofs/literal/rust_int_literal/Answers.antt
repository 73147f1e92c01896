use Rattle.text.specs.Writes.{writes_then}
use Rattle.literal.specs.Literal.{rust_int_literal}
use Rattle.literal.proofs.literal.rust_int_literal.Goals as goal

pub returns : goal.returns
unfolding rust_int_literal
returns c = writes_then c.put_cast.ensures (writes_then c.put_byte.ensures c.put_name.ensures)
