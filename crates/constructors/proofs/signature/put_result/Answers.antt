use Rattle.text.specs.Writes.{writes_then}
use Rattle.codegen.specs.ReturnKind.{by_return_kind}
use Rattle.constructors.specs.Lines.{result_text}
use Rattle.constructors.proofs.signature.put_result.Goals as goal

pub returns-in-Iterator : goal.returns-in-Iterator
unfolding result_text by_return_kind
returns-in-Iterator c = rw c.in-Iterator.is (writes_then c.put_bytes.ensures (writes_then c.put_name.ensures c.put_bytes-in-Iterator.ensures))

pub returns-in-Option : goal.returns-in-Option
unfolding result_text by_return_kind
returns-in-Option c = rw c.in-Option.is (writes_then c.put_bytes-in-Option.ensures (writes_then c.put_name-in-Option.ensures c.put_bytes-in-Option-2.ensures))

pub returns-in-Plain : goal.returns-in-Plain
unfolding result_text by_return_kind
returns-in-Plain c = rw c.in-Plain.is (writes_then c.put_bytes-in-Plain.ensures (writes_then c.put_name-in-Plain.ensures c.put_bytes-in-Plain-2.ensures))
