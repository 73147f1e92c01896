use Rattle.std.specs.Prelude.{◌≡◌}
use Rattle.std.proofs.Common.{arith}
use Rattle.std.proofs.lemmas.Grind.{common_steps}
use Rattle.codegen.specs.Items.{is_unit, struct_type}
use Rattle.emits.specs.Sinks.{shows_fix, shows_sym, ◌⟫ₛ◌}
use Rattle.sema.specs.Fields.{fields_read}
use Rattle.emit_items.proofs.internal_types.struct_type.Goals as goal

pub returns : goal.returns
unfolding struct_type
returns c =
    let copy : c.eq.result ≡ is_unit (fields_read c.args.f.now) = grind (arith, common_steps) in
    rw (← copy) (c.type_head.ensures ⟫ₛ shows_fix c.put_bytes.ensures (shows_sym c.put_text.ensures (c.generate_fields.ensures ⟫ₛ c.struct_end.ensures _ _)))
