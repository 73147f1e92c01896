use Rattle.emits.specs.Sinks.{shows_none}
use Rattle.emit_items.proofs.header.put_pragmas.Goals as goal

pub returns-else-not-nopragmas : goal.returns-else-not-nopragmas
returns-else-not-nopragmas c = λ env. rw c.if-not-nopragmas.false shows_none
