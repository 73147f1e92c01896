use Rattle.std.proofs.Common.{refl, sym, ◌∙◌, true, false}
use Rattle.codegen.specs.Piece.{odd_piece, odd_pieces}
use Rattle.emits.specs.Sinks.{shows_none, shows_fix}
use Rattle.emits.specs.Runs.{emits_say, shows_plain, emits_ask}
use Rattle.expr_parts.proofs.put_try.Goals as goal

pub returns-then-contains-clause-plain : goal.returns-then-contains-clause-plain
unfolding odd_pieces odd_piece
returns-then-contains-clause-plain c = λ env d n. emits_ask true (sym c.contains.ensures ∙ c.if-contains.true) (emits_say refl (shows_plain n (shows_fix c.put_bytes.ensures shows_none)))

pub returns-else-contains-clause-plain : goal.returns-else-contains-clause-plain
unfolding odd_pieces odd_piece
returns-else-contains-clause-plain c = λ env d n. emits_ask false (sym c.contains.ensures ∙ c.if-contains.false) (emits_say refl (shows_plain n (shows_fix c.put_bytes-else-contains.ensures shows_none)))
