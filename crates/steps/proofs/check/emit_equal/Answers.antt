use Rattle.std.proofs.Common.{refl}
use Rattle.codegen.specs.Block.{emit_check}
use Rattle.emits.specs.Marks.{set_of}
use Rattle.steps.proofs.CheckLaws.{own_opening}
use Rattle.steps.proofs.check.emit_equal.Goals as goal

pub returns : goal.returns
unfolding emit_check
returns c = λ l rs. own_opening (set_of c.args.bound.now) _ c.put_indent.ensures c.equal_head.ensures c.put_byte.ensures refl
