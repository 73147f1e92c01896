use Rattle.codegen.specs.Block.{loop_head}
use Rattle.emits.specs.Sinks.{shows_none, shows_fix, shows_brace, shows_append}
use Rattle.expr_parts.specs.EmitsLaws.{shows_var_put, shows_new_put}
use Rattle.steps.proofs.heads.loop_head.Goals as goal

pub returns : goal.returns
unfolding loop_head
returns c = λ env. shows_append (c.put_iterator.ensures env) (shows_fix c.put_bytes.ensures (shows_new_put c.put_var.ensures (shows_fix c.put_bytes-2.ensures (shows_var_put c.put_var-2.ensures (shows_fix c.put_bytes-3.ensures (shows_brace c.put_bytes-4.ensures shows_none))))))
