use Prim.Native.Nat.{◌+◌}
use mathlib.Core.Path.{◌∙◌}
use mathlib.Core.Bool.{true}
use native.Mathlib.Omega.{arith}
use Rattle.std.proofs.Common.{rules}
use Rattle.view.specs.Buffers.{words_of}
use Rattle.view.specs.BlockRows.{level_is}
use Rattle.weights.proofs.Laws.{none_below, all_counted}
use Rattle.weights.proofs.rows_below.Goals as goal

pub returns-then-end-r : goal.returns-then-end-r
returns-then-end-r c = none_below c.args.plan.now _ c.args.end (c.args.r + 1) (omega arith)

pub returns : goal.returns
returns c = rw (level_is (words_of c.args.plan.now c.args.r), ← c.word.ensures) (c.count_below.ensures (λ r. true) (λ r b k. search rules) ∙ all_counted _)
