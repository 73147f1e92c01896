use Rattle.std.proofs.Common.{refl}
use Rattle.emits.specs.Marks.{set_of}
use Rattle.steps.proofs.CheckLaws.{own_opening}
use Rattle.steps.proofs.matches.several_arms.Goals as goal

pub returns : goal.returns
returns c = own_opening (set_of c.args.bound.now) _ c.put_indent.ensures (rw c.constraint_at-k.ensures at c.match_head.ensures) c.put_byte.ensures refl
