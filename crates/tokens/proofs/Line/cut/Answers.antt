use Prim.Native.Nat.{◌+◌}
use mathlib.Core.Path.{refl, ◌∙◌}
use mathlib.Core.List.{[], ◌∷◌}
use native.Mathlib.Omega.{arith}
use lib.ListN.{get_or, length-set}
use Rattle.tokens.proofs.Laws.{cutting_none, cutting_turn, cutting_more, space_counts}
use Rattle.tokens.proofs.Line.cut.Goals as goal

pub loop-k-init : goal.loop-k-init
loop-k-init c = (omega arith, omega arith, refl, cutting_none c.args.text.now (0 ∷ 0 ∷ 0 ∷ 0 ∷ 0 ∷ 0 ∷ 0 ∷ 0 ∷ 0 ∷ 0 ∷ []) (omega arith))

pub loop-k-preserved : goal.loop-k-preserved
loop-k-preserved c = let h = space_counts (get_or c.args.text.now c.loop-k.i 0) in (
  omega arith,
  omega (arith, c.from-k.ensures),
  length-set c.loop-k.starts (c.loop-k.k + 1) (c.loop-k.i + 1) ∙ c.loop-k.invariant.2,
  rw (c.from-k.ensures, h.0) (cutting_turn c.args.text.now c.loop-k.starts c.loop-k.k c.loop-k.i c.loop-k.invariant.3 (omega arith) (omega arith)),
)

pub returns-clause-count : goal.returns-clause-count
returns-clause-count c = (cutting_more c.args.text.now c.loop-k.starts c.loop-k.k c.loop-k.i c.loop-k.invariant.3 c.loop-k-test.false (omega arith) c.loop-k.invariant.0).0
