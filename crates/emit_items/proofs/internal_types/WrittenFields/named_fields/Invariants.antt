use Rattle.std.specs.Prelude.{◌≡◌, List, suc, drop}
use Rattle.plan.specs.Plan.{Field, named}
use Rattle.view.specs.Buffers.{env_of}
use Rattle.codegen.specs.Items.{named_fields}
use Rattle.emits.specs.Sinks.{Left}
use Rattle.sema.specs.Fields.{fields_read}
use Rattle.emit_items.specs.Parts.{depth}
use Rattle.emit_items.proofs.internal_types.WrittenFields.named_fields.Given as goal

abbrev pub invariant-loop-i : goal.invariant-loop-i
invariant-loop-i l =
    (fs : List Field) → fields_read l.self.fields ≡ named fs
    → Left (env_of l.plan) 0 (named_fields l.self.allow_pub (suc (depth l.self.allow_pub)) fs) l.initial.w (named_fields l.self.allow_pub (suc (depth l.self.allow_pub)) (drop l.i fs)) l.w
