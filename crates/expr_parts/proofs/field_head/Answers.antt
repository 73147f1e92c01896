use Rattle.codegen.specs.Piece.{indent}
use Rattle.emits.specs.Sinks.{shows_none, shows_break, shows_piece, shows_fix}
use Rattle.expr_parts.proofs.field_head.Goals as goal

pub returns-clause-shows : goal.returns-clause-shows
unfolding indent
returns-clause-shows c = λ d₀ d g. shows_break c.put_byte.ensures (rw (← g) c.put_indent.ensures) (shows_piece (c.put_name.ensures d₀) (shows_fix c.put_bytes.ensures shows_none))

pub returns-clause-same : goal.returns-clause-same
returns-clause-same c =
    let p = c.put_name.ensures 0 in
    (cc, cc, cc)
