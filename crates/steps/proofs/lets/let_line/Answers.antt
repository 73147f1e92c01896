use Rattle.std.proofs.Common.{refl}
use Rattle.plan.specs.Lookup.{binding_at}
use Rattle.codegen.specs.Block.{let_line}
use Rattle.codegen.specs.Piece.{odd_piece, odd_pieces}
use Rattle.emits.specs.Sinks.{shows_none, shows_fix}
use Rattle.body.specs.Told.{env_in, bindings_of}
use Rattle.body.specs.Words.{words_say, ◌⟫ᵥ◌}
use Rattle.steps.proofs.HeadLaws.{odd_let}
use Rattle.steps.proofs.lets.let_line.Goals as goal

pub returns : goal.returns
unfolding let_line odd_pieces odd_piece
returns c =
    let t = c.args.body.now in
    words_say (odd_let (env_in t) c.args.b (binding_at (bindings_of t) c.args.b).binding) c.let_head.ensures ⟫ᵥ c.emit_expr.ensures ⟫ᵥ words_say refl (shows_fix c.put_bytes.ensures shows_none)
