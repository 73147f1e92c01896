use Rattle.text.specs.Sink.{spaces}
use Rattle.codegen.specs.Piece.{render, bytes, indent}
use Rattle.codegen.specs.Items.{generate_header}
use Rattle.emits.specs.Sinks.{shows_text, shows_first, ◌⟫ₛ◌}
use Rattle.emit_items.proofs.header.generate_header.Goals as goal

pub returns-clause-shows : goal.returns-clause-shows
unfolding render bytes indent spaces generate_header
returns-clause-shows c = λ o q. rw q (shows_first 6 c.put_bytes.ensures (c.file_lines.ensures ⟫ₛ c.put_pragmas.ensures _ ⟫ₛ shows_text c.put_bytes-2.ensures))
