use Prim.Native.Nat.{◌^◌, ◌<◌}
use mathlib.Core.Path.{◌≡◌}
use lib.ListN.{drop}
use Rattle.plan.specs.Layout.{hex_from}
use Rattle.tokens.proofs.hex_number.Given as goal

abbrev pub invariant-loop-c : goal.invariant-loop-c
invariant-loop-c l = (l.n < 16 ^ l.c-index) × (hex_from l.n (drop l.c-index l.t) ≡ hex_from 0 l.t)
