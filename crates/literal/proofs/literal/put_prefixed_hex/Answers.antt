use Rattle.text.specs.Writes.{writes_then}
use Rattle.literal.proofs.literal.put_prefixed_hex.Goals as goal

pub returns : goal.returns
returns c = writes_then c.put_bytes.ensures c.put_hex.ensures
