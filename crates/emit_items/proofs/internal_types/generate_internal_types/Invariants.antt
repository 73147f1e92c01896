use Rattle.std.specs.Prelude.{drop}
use Rattle.text.specs.Writes.{SameSink}
use Rattle.view.specs.Buffers.{env_of}
use Rattle.codegen.specs.Items.{generate_internal_types}
use Rattle.emits.specs.Sinks.{Left}
use Rattle.sema.specs.Holds.{VariantsIndexed}
use Rattle.emit_items.proofs.internal_types.generate_internal_types.Given as goal

abbrev pub invariant-loop-n : goal.invariant-loop-n
invariant-loop-n l =
    let env = env_of l.plan in
    SameSink l.initial.w l.w × (VariantsIndexed l.plan → Left env 0 (generate_internal_types env 0 env.types) l.initial.w (generate_internal_types env l.n (drop l.n env.types)) l.w)
