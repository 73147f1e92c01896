use Rattle.std.specs.Prelude.{drop}
use Rattle.view.specs.Buffers.{env_of}
use Rattle.emits.specs.Sinks.{Left}
use Rattle.sema.specs.Signature.{sig_told}
use Rattle.codegen.specs.Items.{join, type_names}
use Rattle.emit_items.specs.TraitParts.{joined}
use Rattle.emit_items.proofs.ctx_trait.ret_types.Given as goal

abbrev pub invariant-loop-i : goal.invariant-loop-i
invariant-loop-i l =
    let env = env_of l.plan in
    let tys = (sig_told env l.sig).ret_tys in
    Left env 0 (join (type_names env tys)) l.initial.w (joined l.i (type_names env (drop l.i tys))) l.w
