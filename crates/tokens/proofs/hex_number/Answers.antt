use native.Mathlib.Omega.{arith}
use Rattle.tokens.proofs.Laws.{hex_from_next, power_more, power_room}
use Rattle.tokens.proofs.hex_number.Goals as goal

pub overflow_mul-n : goal.overflow_mul-n
overflow_mul-n c = omega (arith, power_room c.loop-c.n 0 c.loop-c.c-index c.loop-c.invariant.0 (omega arith) (omega arith))

pub overflow_add-n : goal.overflow_add-n
overflow_add-n c = omega (arith, power_room c.loop-c.n c.hex_value.result c.loop-c.c-index c.loop-c.invariant.0 c.hex_value.ensures.1 (omega arith))

pub loop-c-preserved : goal.loop-c-preserved
loop-c-preserved c = (power_more c.loop-c.n c.hex_value.result c.loop-c.c-index c.loop-c.invariant.0 c.hex_value.ensures.1, rw c.hex_value.ensures.0 (grind (arith, hex_from_next, c.loop-c.invariant.1)))
