use Rattle.codegen.specs.Items.{generate_trait_sig}
use Rattle.emits.specs.Sinks.{shows_fix, shows_none, ◌⟫ₛ◌}
use Rattle.emit_items.specs.Shown.{shows_line}
use Rattle.emit_items.proofs.ctx_trait.generate_trait_sig.Goals as goal

pub returns : goal.returns
unfolding generate_trait_sig
returns c =
    c.returns_type.ensures ⟫ₛ shows_fix c.put_bytes.ensures (c.put_func_name.ensures 0 ⟫ₛ shows_fix c.put_bytes-2.ensures (c.sig_params.ensures
    ⟫ₛ shows_fix c.put_bytes-3.ensures (c.ret_ty.ensures ⟫ₛ shows_line c.put_bytes-4.ensures shows_none)))
