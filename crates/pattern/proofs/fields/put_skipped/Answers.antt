use Rattle.emits.specs.Sinks.{shows_none, shows_fix, shows_unbrace}
use Rattle.expr_parts.specs.EmitsLaws.{shows_break_put}
use Rattle.pattern.proofs.fields.put_skipped.Goals as goal
use Rattle.pattern.proofs.fields.put_skipped.Goals.{then-skipped, else-skipped}

pub returns : goal.returns
returns c = λ env. elim c.if-skipped.branch [
  | then-skipped w ↦ rw w.if-skipped.true (shows_break_put w.put_break.ensures (shows_fix w.put_bytes.ensures (shows_break_put (rw w.w-is at c.put_break-2.ensures) (shows_unbrace c.put_bytes-2.ensures shows_none))))
  | else-skipped w ↦ rw w.if-skipped.false (shows_break_put (rw w.w-is at c.put_break-2.ensures) (shows_unbrace c.put_bytes-2.ensures shows_none))
]
