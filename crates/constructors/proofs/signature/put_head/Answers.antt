use Rattle.text.specs.Writes.{writes_then}
use Rattle.constructors.specs.Lines.{head_text}
use Rattle.constructors.proofs.signature.put_head.Goals as goal

pub returns : goal.returns
unfolding head_text
returns c = writes_then c.put_bytes.ensures (writes_then c.put_text.ensures (writes_then c.put_bytes-2.ensures (writes_then (c.put_func_name.ensures 0).is c.put_bytes-3.ensures)))
