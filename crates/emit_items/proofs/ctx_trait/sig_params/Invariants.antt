use Rattle.std.specs.Prelude.{drop}
use Rattle.view.specs.Buffers.{env_of}
use Rattle.emits.specs.Sinks.{Left}
use Rattle.sema.specs.Signature.{sig_told}
use Rattle.codegen.specs.Items.{join, sig_params}
use Rattle.emit_items.specs.TraitParts.{joined}
use Rattle.emit_items.proofs.ctx_trait.sig_params.Given as goal

abbrev pub invariant-loop-i : goal.invariant-loop-i
invariant-loop-i l =
    let env = env_of l.plan in
    let sig = sig_told env l.sig in
    Left env 0 (join (sig_params env sig 0 sig.param_tys)) l.initial.w (joined l.i (sig_params env sig l.i (drop l.i sig.param_tys))) l.w
