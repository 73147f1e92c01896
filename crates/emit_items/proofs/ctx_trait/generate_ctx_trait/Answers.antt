use Rattle.text.specs.Sink.{spaces}
use Rattle.codegen.specs.Piece.{render, bytes, indent}
use Rattle.codegen.specs.Items.{generate_ctx_trait}
use Rattle.emits.specs.Sinks.{shows_first, ◌⟫ₛ◌}
use Rattle.emit_items.proofs.ctx_trait.generate_ctx_trait.Goals as goal

pub returns : goal.returns
unfolding generate_ctx_trait render bytes indent spaces
returns c = shows_first 9 c.put_bytes.ensures (c.term_sigs.ensures ⟫ₛ shows_first 2 c.put_bytes-2.ensures (c.iterator_text.ensures _))
