use Rattle.std.specs.Prelude.{drop}
use Rattle.text.specs.Writes.{SameSink}
use Rattle.plan.specs.Lookup.{variants_of}
use Rattle.view.specs.Buffers.{env_of}
use Rattle.codegen.specs.Items.{variant_lines}
use Rattle.emits.specs.Sinks.{Left}
use Rattle.sema.specs.Holds.{VariantsIndexed}
use Rattle.emit_items.proofs.internal_types.variant_lines.Given as goal

abbrev pub invariant-loop-k : goal.invariant-loop-k
invariant-loop-k l =
    let env = env_of l.plan in
    let variants = variants_of l.ty.0 env.variants in
    SameSink l.initial.w l.w × (VariantsIndexed l.plan → Left env 0 (variant_lines variants) l.initial.w (variant_lines (drop l.k variants)) l.w)
