use Rattle.codegen.specs.Items.{generate_fields}
use Rattle.emits.specs.Sinks.{shows_none, shows_fix, shows_brace, ◌⟫ₛ◌}
use Rattle.emit_items.proofs.Lists.{held_named, held_tuple}
use Rattle.emit_items.proofs.internal_types.WrittenFields.generate_fields.Goals as goal

pub returns-in-Unit : goal.returns-in-Unit
unfolding generate_fields
returns-in-Unit c = rw c.in-Unit.is shows_none

pub returns-in-Named : goal.returns-in-Named
unfolding generate_fields
returns-in-Named c = rw c.in-Named.is (shows_brace c.put_bytes.ensures (c.named_fields.ensures _ (held_named _ c.in-Named.is) ⟫ₛ c.fields_end.ensures _))

pub returns-in-Tuple : goal.returns-in-Tuple
unfolding generate_fields
returns-in-Tuple c = rw c.in-Tuple.is (shows_fix c.put_bytes-in-Tuple.ensures (c.tuple_fields.ensures _ (held_tuple _ c.in-Tuple.is) ⟫ₛ shows_fix c.put_bytes-in-Tuple-2.ensures shows_none))
