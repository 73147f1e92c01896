use Rattle.std.specs.Prelude.{◌≡◌, refl, List, [], ◌∷◌}
use Rattle.std.proofs.Common.{rules}
use Rattle.codegen.specs.Piece.{Piece, fix, var}
use Rattle.codegen.specs.ReturnKind.{by_return_kind}
use Rattle.emits.specs.Sinks.{shows_none, shows_fix}
use Rattle.sema.specs.Signature.{return_kind_told}
use Rattle.expr_parts.specs.EmitsLaws.{shows_var_put}
use Rattle.expr_parts.proofs.put_call_end.Goals as goal
use Rattle.expr_parts.proofs.put_call_end.Goals.{then-eq, else-eq}

pub returns : goal.returns
unfolding by_return_kind
returns c =
    let name : List Piece = fix ", &mut " refl ∷ var c.args.b ∷ [] in
    λ env d. elim c.if-eq.branch [
      | then-eq w ↦ let e : by_return_kind (return_kind_told c.args.sig.ret_kind) name [] [] ≡ name = search rules in rw e (shows_fix w.put_bytes.ensures (shows_var_put w.put_var.ensures (shows_fix (rw w.w-is at c.put_bytes-2.ensures) shows_none)))
      | else-eq w ↦ let e : by_return_kind (return_kind_told c.args.sig.ret_kind) name [] [] ≡ [] = search rules in rw e (shows_fix (rw w.w-is at c.put_bytes-2.ensures) shows_none)
    ]
