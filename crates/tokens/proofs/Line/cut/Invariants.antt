use Prim.Native.Nat.{◌-◌, ◌≤◌}
use mathlib.Core.Path.{◌≡◌}
use lib.ListN.{length}
use Rattle.tokens.proofs.Laws.{Cutting}
use Rattle.tokens.proofs.Line.cut.Given as goal

abbrev pub invariant-loop-k : goal.invariant-loop-k
invariant-loop-k l = (l.i ≤ length l.text) × (l.k ≤ 9) × (length l.starts ≡ 10) × Cutting l.text l.starts l.k l.i

abbrev pub decreases-loop-k : goal.decreases-loop-k
decreases-loop-k l = length l.text - l.i
