use Rattle.std.proofs.Common.{refl}
use Rattle.codegen.specs.Piece.{odd_piece, odd_pieces}
use Rattle.codegen.specs.Block.{equal_head}
use Rattle.emits.specs.Sinks.{shows_none, shows_fix, shows_brace}
use Rattle.body.specs.Words.{words_say, words_deep, ◌⟫ᵥ◌}
use Rattle.steps.proofs.heads.equal_head.Goals as goal

pub returns : goal.returns
unfolding equal_head odd_pieces odd_piece
returns c =
    words_say refl (shows_fix c.put_bytes.ensures shows_none) ⟫ᵥ words_deep (λ d. d.0) c.emit_expr.ensures ⟫ᵥ words_say refl (shows_fix c.put_bytes-2.ensures shows_none) ⟫ᵥ words_deep (λ d. d.1) c.emit_expr-2.ensures
    ⟫ᵥ words_say refl (shows_brace c.put_bytes-3.ensures shows_none)
