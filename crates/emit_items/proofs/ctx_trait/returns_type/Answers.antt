use Rattle.std.proofs.Common.{rules, sym}
use denote.Enum.Bare.{same_true}
use Rattle.sema.specs.contracts.signature.ReturnKind.{the_type}
use Rattle.sema.specs.declared.signature.ReturnKind.TheVariants.{Iterator}
use Rattle.codegen.specs.ReturnKind.{by_return_kind}
use Rattle.emits.specs.Sinks.{shows_fix, shows_none, ◌⟫ₛ◌}
use Rattle.emit_items.specs.Shown.{shows_line}
use Rattle.emit_items.proofs.ctx_trait.returns_type.Goals as goal

pub returns-then-eq : goal.returns-then-eq
unfolding by_return_kind
returns-then-eq c =
    rw (same_true the_type (search rules) c.args.sig.ret_kind Iterator (sym c.if-eq.ensures))
    (shows_fix c.put_bytes.ensures (c.put_func_name.ensures 0 ⟫ₛ shows_fix c.put_bytes-then-eq.ensures (c.ret_tuple.ensures ⟫ₛ shows_line c.put_bytes-then-eq-2.ensures shows_none)))
