use Rattle.std.proofs.Common.{sym, ◌∙◌}
use Rattle.codegen.specs.Piece.{indent}
use Rattle.expr.proofs.Turns.{emits_closed}
use Rattle.expr.proofs.between.close_fields.Goals as goal

pub returns-then-not-is_empty-clause-emits : goal.returns-then-not-is_empty-clause-emits
unfolding indent
returns-then-not-is_empty-clause-emits c = λ env d₀ d m g. emits_closed d c.args.sources.now (sym c.is_empty.ensures ∙ c.if-not-is_empty.true) c.put_byte.ensures (rw (← g) c.put_indent.ensures) c.put_bytes.ensures
