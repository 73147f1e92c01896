use lib.ListN.{drop}
use mathlib.Core.Path.{◌≡◌}
use Rattle.view.specs.Buffers.{env_of}
use Rattle.codegen.specs.Terms.{argument_refs}
use Rattle.emits.specs.Marks.{set_of}
use Rattle.sema.specs.Signature.{sig_told}
use Rattle.context.specs.Context.{SameButRefs}
use Rattle.constructors.specs.Arguments.{bindings_in}
use Rattle.constructors.proofs.arguments.argument_refs.Given as goal

-- the arguments that are left are marked from here as all are from the start
abbrev pub invariant-loop-i : goal.invariant-loop-i
invariant-loop-i l =
    let env = env_of l.plan in
    let bs = bindings_in l.plan l.last l.first in
    let tys = (sig_told env l.sig).param_tys in
    (argument_refs env bs 0 tys (set_of l.initial.context.is_ref) ≡ argument_refs env bs l.i (drop l.i tys) (set_of l.context.is_ref)) × SameButRefs l.initial.context l.context
