use Rattle.emits.specs.Sinks.{shows_none, shows_fix, ◌⟫ₛ◌}
use Rattle.expr_parts.proofs.put_fixme_field.Goals as goal

pub returns-clause-shows : goal.returns-clause-shows
returns-clause-shows c = λ env d. c.put_field.ensures.shows env d ⟫ₛ shows_fix c.put_bytes.ensures shows_none
