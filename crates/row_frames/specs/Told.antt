-- What the declared types say in the definition's terms. Assumes nothing: these are definitions.
use Rattle.std.specs.Prelude as code
use Rattle.std.specs.Prelude.{Some, None}
use Rattle.std.proofs.Math.Option.{Option, some, none}
use Rattle.codegen.specs.Block as block
use Rattle.row_frames.specs.declared.Purpose.{Purpose}
use Rattle.row_frames.specs.declared.Purpose.TheVariants as p

abbrev pub purpose_told : Purpose → block.Purpose
purpose_told p.OneArm = block.one_arm
purpose_told (p.ArmsOf q) = block.arms_of q
purpose_told p.ArmBody = block.arm_body
purpose_told p.Body = block.body

abbrev pub opens_told : code.Option Purpose → Option block.Purpose
opens_told None = none
opens_told (Some p) = some (purpose_told p)
