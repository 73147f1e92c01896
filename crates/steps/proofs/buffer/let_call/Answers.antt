use mathlib.Core.Logic.{inl, inr}
use Rattle.codegen.specs.ReturnKind.{by_return_kind}
use Rattle.codegen.specs.Block.{buffer, let_head}
use Rattle.view.specs.Buffers.{env_of}
use Rattle.emits.specs.Sinks.{shows_none, shows_fix, shows_append}
use Rattle.expr_parts.specs.EmitsLaws.{shows_new_put, shows_break_put}
use Rattle.steps.proofs.buffer.let_call.Goals as goal

pub returns-in-Iterator : goal.returns-in-Iterator
unfolding let_head buffer by_return_kind
returns-in-Iterator c =
    rw c.in-Iterator.is
    (shows_fix c.put_bytes.ensures (shows_new_put c.put_var.ensures (shows_fix c.put_bytes-in-Iterator.ensures
    (shows_append (c.put_buffer.ensures c.args.depth) (shows_fix c.put_bytes-in-Iterator-2.ensures (shows_break_put c.put_break.ensures shows_none))))))

pub returns-in-Option : goal.returns-in-Option
unfolding buffer by_return_kind
returns-in-Option c = elim c.in-Option.is [
  | inl h ↦ rw h (c.let_value.ensures (env_of c.args.plan.now) c.args.depth)
  | inr h ↦ rw h (c.let_value.ensures (env_of c.args.plan.now) c.args.depth)
]
