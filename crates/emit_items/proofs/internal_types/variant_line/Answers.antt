use Rattle.text.specs.Sink.{spaces}
use Rattle.codegen.specs.Piece.{render, bytes, indent}
use Rattle.emits.specs.Sinks.{shows_first, shows_fix, shows_sym, shows_none, ◌⟫ₛ◌}
use Rattle.emit_items.proofs.internal_types.variant_line.Goals as goal

pub returns-clause-shows : goal.returns-clause-shows
unfolding render bytes indent spaces
returns-clause-shows c = λ v.
    let variant = c.variant-v.ensures.own v in
    rw (← variant.0, ← variant.1) (shows_first 1 c.put_bytes.ensures (shows_sym c.put_text.ensures (c.generate_fields.ensures ⟫ₛ shows_fix c.put_bytes-2.ensures shows_none)))
