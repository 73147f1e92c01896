use mathlib.Core.Path.{◌≡◌}
use mathlib.Core.Bool.{◌&&◌}
use lib.ListN.{drop}
use Rattle.plan.specs.Layout.{hex_digits}
use Rattle.tokens.proofs.is_hex.Given as goal

abbrev pub invariant-loop-c : goal.invariant-loop-c
invariant-loop-c l = (l.hex && hex_digits (drop l.c-index l.t)) ≡ hex_digits l.t
