use Rattle.std.proofs.Common.{refl}
use Rattle.codegen.specs.Piece.{odd_piece, odd_pieces}
use Rattle.codegen.specs.Pattern.{emit_constraint}
use Rattle.emits.specs.Sinks.{shows_fix}
use Rattle.emits.specs.Runs.{shows_sink, emits_say, ◌⟫◌}
use Rattle.pattern.proofs.constraint.emit_variant.Goals as goal

pub returns-clause-emits : goal.returns-clause-emits
unfolding emit_constraint odd_pieces odd_piece
returns-clause-emits c = λ v q. emits_say refl (shows_fix c.put_bytes.ensures (rw (c.variant-variant.ensures.own v).0 at (c.variant_name.ensures c.args.depth))) ⟫ rw (c.variant-variant.ensures.own v).1 at c.emit_fields.ensures.emits

pub returns-clause-same : goal.returns-clause-same
returns-clause-same c =
    let p = shows_sink (c.variant_name.ensures 0) in
    let q = c.emit_fields.ensures.emits in
    (cc, cc, cc)
