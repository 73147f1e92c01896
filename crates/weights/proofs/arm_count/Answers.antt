use Prim.Native.Nat.{◌-◌}
use mathlib.Core.Path.{sym, ◌∙◌}
use lib.Dec.{eqb}
use Rattle.std.proofs.Common.{rules}
use Rattle.plan.specs.Row.{level}
use Rattle.view.specs.Buffers.{words_of}
use Rattle.view.specs.BlockRows.{level_is}
use Rattle.weights.proofs.Laws.{arms_counted}
use Rattle.weights.proofs.arm_count.Goals as goal

pub returns : goal.returns
returns c =
    c.count_below.ensures (λ r. eqb (level r - c.args.level) 1) (λ r b k. rw (level_is (words_of c.args.plan.now r)) (search rules))
    ∙ sym (arms_counted c.args.level _)
