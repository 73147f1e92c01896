use Rattle.text.specs.Sink.{spaces}
use Rattle.codegen.specs.Piece.{render, bytes, indent}
use Rattle.codegen.specs.Items.{enum_type}
use Rattle.emits.specs.Sinks.{shows_text, shows_fix, shows_sym, shows_brace, ◌⟫ₛ◌}
use Rattle.emit_items.proofs.internal_types.enum_type.Goals as goal

pub returns-clause-shows : goal.returns-clause-shows
unfolding enum_type render bytes indent spaces
returns-clause-shows c = λ v.
    rw (← c.all_unit-copy.ensures v)
    (c.type_head.ensures ⟫ₛ shows_fix c.put_bytes.ensures (shows_sym c.put_text.ensures (shows_brace c.put_bytes-2.ensures (c.variant_lines.ensures.shows v ⟫ₛ shows_text c.put_bytes-3.ensures))))
