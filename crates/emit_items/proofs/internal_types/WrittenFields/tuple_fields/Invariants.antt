use Rattle.std.specs.Prelude.{◌≡◌, ℕ, List, drop}
use Rattle.plan.specs.Plan.{tuple}
use Rattle.view.specs.Buffers.{env_of}
use Rattle.codegen.specs.Items.{join, tuple_fields}
use Rattle.emits.specs.Sinks.{Left}
use Rattle.sema.specs.Fields.{fields_read}
use Rattle.emit_items.specs.TraitParts.{joined}
use Rattle.emit_items.proofs.internal_types.WrittenFields.tuple_fields.Given as goal

abbrev pub invariant-loop-i : goal.invariant-loop-i
invariant-loop-i l =
    (ns : List ℕ) → fields_read l.self.fields ≡ tuple ns
    → Left (env_of l.plan) 0 (join (tuple_fields l.self.allow_pub ns)) l.initial.w (joined l.i (tuple_fields l.self.allow_pub (drop l.i ns))) l.w
