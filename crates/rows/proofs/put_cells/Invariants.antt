use Prim.Native.Nat.{◌+◌}
use lib.Dec.{eqb}
use lib.ListN.{drop}
use Rattle.std.specs.Prelude.{Option}
use Rattle.text.specs.Split.{split}
use Rattle.cells.specs.declared.values.Words.{Words}
use Rattle.cells.specs.Writes.{Writes}
use Rattle.rows.specs.Cells.{cells}
use Rattle.rows.proofs.put_cells.Given as goal

abbrev pub invariant-loop-k : goal.invariant-loop-k
invariant-loop-k l = (r : Option Unit) (after : Words) → Writes (cells (drop l.k l.sorts) (split (eqb 32) l.line.text.now) (l.from + l.k)) l.words r after
    → Writes (cells l.sorts (split (eqb 32) l.line.text.now) l.from) l.initial.words r after
