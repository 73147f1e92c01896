use Rattle.emits.specs.Marks.{set_of}
use Rattle.steps.proofs.CheckLaws.{own_opening}
use Rattle.steps.proofs.matches.one_arm.Goals as goal

pub returns : goal.returns
returns c =
    let named = rw c.list.ensures at c.bind_all.ensures.names in
    own_opening (set_of c.args.bound.now) _ c.put_indent.ensures (rw (c.constraint_at-k.ensures, named) at c.one_arm_head.ensures) c.put_byte.ensures named
