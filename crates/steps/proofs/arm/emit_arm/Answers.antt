use Rattle.std.proofs.Common.{⊎_elim}
use Rattle.codegen.specs.Block.{emit_arm}
use Rattle.steps.proofs.CheckLaws.{own_nothing}
use Rattle.steps.proofs.arm.emit_arm.Goals as goal

pub returns-in-OneArm : goal.returns-in-OneArm
unfolding emit_arm
returns-in-OneArm c = ⊎_elim (λ e. rw e own_nothing) (⊎_elim (λ e. rw e own_nothing) (λ e. rw e own_nothing)) c.in-OneArm.is
