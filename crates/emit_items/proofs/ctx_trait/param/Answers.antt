use Rattle.emits.specs.Sinks.{shows_fix, shows_num, ◌⟫ₛ◌}
use Rattle.emit_items.proofs.ctx_trait.param.Goals as goal

pub returns : goal.returns
returns c = c.put_separator.ensures _ ⟫ₛ shows_fix c.put_bytes.ensures (shows_num c.put_decimal.ensures (shows_fix c.put_bytes-2.ensures (rw (← c.param_ty.ensures) (c.type_name.ensures 0))))
