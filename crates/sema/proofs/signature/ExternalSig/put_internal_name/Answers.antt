use Rattle.rows.specs.View.{term_of}
use Rattle.emits.specs.Sinks.{shows_none, shows_fix, shows_sym}
use Rattle.sema.proofs.signature.ExternalSig.put_internal_name.Goals.{then-self, else-self}
use Rattle.sema.proofs.signature.ExternalSig.put_internal_name.Goals as goal

pub returns : goal.returns
unfolding term_of
returns c = λ d. elim c.if-self.branch [
  | then-self w ↦ rw (w.if-self.true, ← c.row-row.ensures, ← c.word.ensures) (shows_fix w.put_bytes.ensures (shows_sym (rw w.w-is at c.put_text.ensures) shows_none))
  | else-self w ↦ rw (w.if-self.false, ← c.row-row.ensures, ← c.word.ensures) (shows_fix w.put_bytes-else-self.ensures (shows_sym (rw w.w-is at c.put_text.ensures) shows_none))
]
