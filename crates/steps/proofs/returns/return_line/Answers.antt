use Rattle.std.proofs.Common.{refl, sym}
use Rattle.codegen.specs.Block.{return_line}
use Rattle.expr_parts.proofs.Laws.{emits_cloned}
use Rattle.sema.specs.Signature.{return_kind_told}
use Rattle.body.specs.Words.{words_emits, ◌⟫ᵥ◌}
use Rattle.steps.proofs.returns.ReturnLaws.{emits_by_kind}
use Rattle.steps.proofs.returns.return_line.Goals as goal

pub returns : goal.returns
unfolding return_line
returns c =
    let k = return_kind_told c.args.body.now.ret_kind in
    words_emits (emits_by_kind k "returns.extend(Some(" "return " refl refl c.put_by_kind.ensures) ⟫ᵥ c.emit_expr.ensures ⟫ᵥ words_emits (emits_cloned c.contains.result (sym c.contains.ensures) (c.put_clone.ensures _ _))
    ⟫ᵥ words_emits (emits_by_kind k "));" ";" refl refl c.put_by_kind-2.ensures)
