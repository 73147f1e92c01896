use Prim.Native.Nat.{◌+◌, ◌≤◌}
use mathlib.Core.Path.{◌≡◌}
use mathlib.Core.Bool.{Bool}
use Rattle.plan.specs.Row.{Row}
use Rattle.rows.specs.View.{nth, block_of}
use Rattle.view.specs.Buffers.{words_of}
use Rattle.weights.proofs.Laws.{left}
use Rattle.weights.proofs.count_below.Given as goal

-- what is counted and what is left to count make the count of all
abbrev pub invariant-loop-r : goal.invariant-loop-r
invariant-loop-r g l = record {
  few : l.n ≤ l.r;
  same : (P : Row → Bool) → ((r : _) (b : Bool) → goal.F-post g l.is_counted r (nth (words_of l.plan r) 0) b → b ≡ P (block_of (words_of l.plan r)))
      → l.n + left l.plan l.level l.end P l.r ≡ left l.plan l.level l.end P l.from;
}
