use Rattle.emits.specs.Sinks.{shows_none, shows_fix}
use Rattle.expr_parts.specs.EmitsLaws.{shows_var_put, shows_new_put, shows_break_put}
use Rattle.steps.proofs.heads.put_iterator.Goals as goal

pub returns : goal.returns
returns c = λ env. shows_fix c.put_bytes.ensures (shows_new_put c.put_var.ensures (shows_fix c.put_bytes-2.ensures (shows_var_put c.put_var-2.ensures (shows_fix c.put_bytes-3.ensures (shows_break_put c.put_break.ensures shows_none)))))
