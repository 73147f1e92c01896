use Rattle.view.specs.Buffers.{env_of}
use Rattle.codegen.specs.Items.{public}
use Rattle.emits.specs.Sinks.{Shows, shows_none, shows_fix, shows_type, ◌⟫ₛ◌}
use Rattle.emit_items.proofs.internal_types.WrittenFields.tuple_field.Goals as goal
use Rattle.emit_items.proofs.internal_types.WrittenFields.tuple_field.Goals.{then-self, else-self}

pub returns : goal.returns
returns c =
    let start : Shows (env_of c.args.plan.now) 0 (public c.args.self.now.allow_pub) c.put_separator.new.w c.if-self.w =
    elim c.if-self.branch [ then-self w ↦ rw (w.if-self.true, w.w-is) (shows_fix w.put_bytes.ensures shows_none) | else-self w ↦ rw (w.if-self.false, w.w-is) shows_none ] in
    let ty = rw c.ty.ensures at c.put_name.ensures in
    c.put_separator.ensures _ ⟫ₛ start ⟫ₛ shows_type ty shows_none
