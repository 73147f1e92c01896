use Rattle.text.specs.Sink.{spaces}
use Rattle.codegen.specs.Piece.{render, bytes, indent}
use Rattle.codegen.specs.Items.{type_head}
use Rattle.emits.specs.Sinks.{shows_first, shows_fix, shows_sym, shows_pos}
use Rattle.emit_items.proofs.internal_types.type_head.Goals as goal

pub returns : goal.returns
unfolding type_head render bytes indent spaces
returns c =
    shows_first 2 c.put_bytes.ensures (shows_sym c.put_text.ensures (shows_fix c.put_bytes-2.ensures (shows_pos c.put_text-2.ensures (shows_fix c.put_bytes-3.ensures (c.put_derives.ensures _)))))
