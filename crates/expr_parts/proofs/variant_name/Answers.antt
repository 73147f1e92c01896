use Rattle.emits.specs.Sinks.{shows_none, shows_fix, shows_sym, ◌⟫ₛ◌}
use Rattle.expr_parts.proofs.variant_name.Goals as goal

pub returns : goal.returns
returns c = λ d. c.type_name.ensures d ⟫ₛ shows_fix c.put_bytes.ensures (shows_sym c.put_text.ensures shows_none)
