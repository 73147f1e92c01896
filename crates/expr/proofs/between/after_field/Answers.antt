use Rattle.std.proofs.Common.{[], refl, ◌∙◌}
use Rattle.codegen.specs.Piece.{odd_piece, odd_pieces}
use Rattle.emits.specs.Sinks.{shows_none, shows_fix}
use Rattle.emits.specs.Runs.{shows_sink, emits_say, ◌⟫◌}
use Rattle.expr_parts.proofs.Laws.{emits_cloned}
use Rattle.expr.proofs.between.after_field.Goals as goal

pub returns-clause-emits : goal.returns-clause-emits
unfolding odd_pieces odd_piece
returns-clause-emits c = λ env d q m h. emits_cloned c.args.given h (c.put_clone.ensures env d) ⟫ emits_say refl (shows_fix c.put_bytes.ensures shows_none)

pub returns-clause-same : goal.returns-clause-same
returns-clause-same c =
    let p = shows_sink (c.put_clone.ensures (record { files = []; syms = []; poss = []; types = []; variants = []; terms = [] }) 0) in
    let q = c.put_bytes.ensures in
    (q.buffer ∙ p.0, q.size ∙ p.1, q.end ∙ p.2)
