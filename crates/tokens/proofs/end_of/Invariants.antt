use Prim.Native.Nat.{◌+◌}
use mathlib.Core.Path.{◌≡◌}
use lib.ListN.{drop}
use Rattle.tokens.specs.Token.{until}
use Rattle.tokens.proofs.end_of.Given as goal

abbrev pub invariant-loop-i : goal.invariant-loop-i
invariant-loop-i l = l.i + until l.b (drop l.i l.s) ≡ l.from + until l.b (drop l.from l.s)
