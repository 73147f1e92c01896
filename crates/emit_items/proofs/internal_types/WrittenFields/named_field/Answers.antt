use Rattle.emits.specs.Sinks.{shows_none, shows_fix, shows_type, shows_piece, ◌⟫ₛ◌}
use Rattle.emit_items.proofs.internal_types.WrittenFields.named_field.Goals as goal

pub returns : goal.returns
returns c =
    let ty = rw c.ty.ensures at c.put_name-2.ensures in
    c.field_start.ensures _ ⟫ₛ shows_piece (c.put_name.ensures 0) (shows_fix c.put_bytes.ensures (shows_type ty (shows_fix c.put_bytes-2.ensures shows_none)))
