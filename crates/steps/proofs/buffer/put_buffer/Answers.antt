use mathlib.Core.Logic.{inl, inr}
use Rattle.codegen.specs.Sema.{is_external}
use Rattle.emits.specs.Sinks.{shows_none, shows_fix, shows_append}
use Rattle.steps.proofs.buffer.put_buffer.Goals as goal

pub returns-in-External : goal.returns-in-External
unfolding is_external
returns-in-External c = λ d. rw c.in-External.is (shows_fix c.put_bytes.ensures (shows_append (rw c.in-External.is at (c.put_func_name.ensures d)) (shows_fix c.put_bytes-in-External.ensures shows_none)))

pub returns-in-Absent : goal.returns-in-Absent
unfolding is_external
returns-in-Absent c = λ d. elim c.in-Absent.is [
  | inl h ↦ rw h (shows_fix c.put_bytes-in-Absent.ensures shows_none)
  | inr h ↦ rw h (shows_fix c.put_bytes-in-Absent.ensures shows_none)
]
