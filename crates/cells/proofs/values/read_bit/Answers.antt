use Rattle.std.proofs.Common.{arith}
use Rattle.std.proofs.lemmas.Grind.{common_steps}
use Rattle.tokens.specs.Token.{told}
use Rattle.plan.specs.Layout.{◌⊛◌, bit}
use Rattle.cells.proofs.values.read_bit.Goals as goal

pub returns-then-equal : goal.returns-then-equal
unfolding bit ◌⊛◌ told
returns-then-equal c = grind (arith, common_steps)

pub returns : goal.returns
unfolding bit ◌⊛◌ told
returns c = grind (arith, common_steps)
