use Rattle.std.proofs.Common.{refl}
use Rattle.codegen.specs.Piece.{odd_piece, odd_pieces}
use Rattle.codegen.specs.Block.{match_head}
use Rattle.emits.specs.Sinks.{shows_none, shows_fix, shows_brace}
use Rattle.body.specs.Words.{words_say, ◌⟫ᵥ◌}
use Rattle.steps.proofs.heads.match_head.Goals as goal

pub returns : goal.returns
unfolding match_head odd_pieces odd_piece
returns c = words_say refl (shows_fix c.put_bytes.ensures shows_none) ⟫ᵥ c.emit_source.ensures ⟫ᵥ words_say refl (shows_brace c.put_bytes-2.ensures shows_none)
