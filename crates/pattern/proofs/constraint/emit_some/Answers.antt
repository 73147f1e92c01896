use Rattle.std.proofs.Common.{refl}
use Rattle.codegen.specs.Piece.{odd_piece, odd_pieces}
use Rattle.codegen.specs.Pattern.{emit_constraint}
use Rattle.emits.specs.Sinks.{shows_none, shows_fix}
use Rattle.emits.specs.Runs.{emits_say, ◌⟫◌}
use Rattle.pattern.proofs.constraint.emit_some.Goals as goal

pub returns : goal.returns
unfolding emit_constraint odd_pieces odd_piece
returns c = λ env d. emits_say refl (shows_fix c.put_bytes.ensures shows_none) ⟫ c.put_inside_some.ensures env d ⟫ emits_say refl (shows_fix c.put_bytes-2.ensures shows_none)
