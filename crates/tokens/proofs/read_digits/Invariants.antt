use Prim.Native.Nat.{◌≤◌}
use mathlib.Core.Path.{◌≡◌}
use lib.ListN.{drop}
use Rattle.plan.specs.Layout.{beyond}
use Rattle.tokens.specs.Token.{numeral}
use Rattle.tokens.proofs.read_digits.Given as goal

abbrev pub invariant-loop-c : goal.invariant-loop-c
invariant-loop-c l = (l.n ≤ beyond) × (numeral l.n (drop l.c-index l.t) ≡ numeral 0 l.t)
