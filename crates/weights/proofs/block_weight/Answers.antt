use mathlib.Core.Path.{◌≡◌, sym, ◌∙◌}
use lib.Dec.{ltb}
use Rattle.std.proofs.Common.{rules}
use Rattle.rows.specs.View.{nth}
use Rattle.view.specs.Buffers.{words_of}
use Rattle.weights.proofs.Laws.{is_step, step_told, steps_counted}
use Rattle.weights.proofs.block_weight.Goals as goal

pub returns : goal.returns
returns c =
    c.count_below.ensures is_step (λ r b k. let e : b ≡ ltb (nth (words_of c.args.plan.now r) 1) 4 = search rules in e ∙ step_told (words_of c.args.plan.now r))
    ∙ sym (steps_counted c.args.level _)
