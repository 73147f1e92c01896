use Rattle.text.specs.Writes.{writes_then}
use Rattle.codegen.specs.ReturnKind.{by_return_kind}
use Rattle.constructors.specs.Ending.{last_text}
use Rattle.constructors.proofs.ending.put_last_expr.Goals as goal

pub returns-in-Plain : goal.returns-in-Plain
unfolding last_text by_return_kind
returns-in-Plain c = rw c.in-Plain.is (writes_then c.put_bytes-in-Plain.ensures (writes_then c.put_quoted_text.ensures (writes_then c.put_bytes-in-Plain-2.ensures (writes_then c.put_quoted_text-in-Plain.ensures c.put_bytes-in-Plain-3.ensures))))
