use Rattle.std.specs.Prelude.{drop}
use Rattle.view.specs.Buffers.{env_of}
use Rattle.emits.specs.Sinks.{Left}
use Rattle.codegen.specs.Items.{term_sigs}
use Rattle.emit_items.proofs.ctx_trait.term_sigs.Given as goal

abbrev pub invariant-loop-i : goal.invariant-loop-i
invariant-loop-i l =
    let env = env_of l.plan in
    Left env 0 (term_sigs env env.terms) l.initial.w (term_sigs env (drop l.i env.terms)) l.w
