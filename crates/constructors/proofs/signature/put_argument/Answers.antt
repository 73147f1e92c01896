use Rattle.text.specs.Writes.{writes_then}
use Rattle.constructors.specs.Lines.{argument_text}
use Rattle.constructors.proofs.signature.put_argument.Goals as goal

pub returns : goal.returns
unfolding argument_text
returns c = writes_then c.put_bytes.ensures (writes_then c.put_decimal.ensures (writes_then c.put_bytes-2.ensures (writes_then c.put_param.ensures c.put_bytes-3.ensures)))
