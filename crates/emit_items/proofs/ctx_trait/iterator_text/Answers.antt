use Rattle.text.specs.Sink.{spaces}
use Rattle.codegen.specs.Piece.{render, bytes, indent}
use Rattle.emits.specs.Sinks.{shows_text, shows_first}
use Rattle.emit_items.proofs.ctx_trait.iterator_text.Goals as goal

pub returns : goal.returns
unfolding render bytes indent spaces
returns c = λ env. shows_first 163 c.put_bytes.ensures (shows_text c.put_bytes-2.ensures)
