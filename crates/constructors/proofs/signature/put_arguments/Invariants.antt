use Rattle.view.specs.Buffers.{env_of}
use Rattle.sema.specs.Signature.{sig_told}
use Rattle.constructors.specs.Lines.{ArgumentsLeft}
use Rattle.constructors.proofs.signature.put_arguments.Given as goal

abbrev pub invariant-loop-i : goal.invariant-loop-i
invariant-loop-i l =
    let env = env_of l.plan in
    ArgumentsLeft env (sig_told env l.sig).param_tys l.initial.w l.i l.w
