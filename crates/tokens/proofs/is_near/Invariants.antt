use Prim.Native.Nat.{◌+◌}
use mathlib.Core.Path.{◌≡◌}
use mathlib.Core.Bool.{false}
use lib.ListN.{drop}
use Rattle.tokens.specs.Token.{until}
use Rattle.tokens.proofs.is_near.Given as goal

abbrev pub invariant-loop-c : goal.invariant-loop-c
invariant-loop-c l = l.found ≡ false → until l.b (drop l.i l.s) ≡ l.c-index + until l.b (drop (l.i + l.c-index) l.s)
