use Prim.Native.Nat.{◌-◌, ◌≤◌}
use lib.Dec.{eqb}
use lib.ListN.{length, drop}
use Rattle.std.specs.Prelude.{Option}
use Rattle.text.specs.Split.{split}
use Rattle.cells.specs.declared.values.Words.{Words}
use Rattle.cells.specs.Writes.{Writes}
use Rattle.cells.specs.Items.{items}
use Rattle.cells.specs.Lists.{list_number}
use Rattle.cells.proofs.lists.put_items.Given as goal

abbrev pub invariant-loop-i : goal.invariant-loop-i
invariant-loop-i l = (l.i ≤ length l.t) × ((r : Option Unit) (after : Words) → Writes (items (list_number l.list) (split (eqb 44) (drop l.i l.t))) l.words r after
    → Writes (items (list_number l.list) (split (eqb 44) l.t)) l.initial.words r after)

abbrev pub decreases-loop-i : goal.decreases-loop-i
decreases-loop-i l = length l.t - l.i
