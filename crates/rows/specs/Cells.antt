-- Values of one word each, one after the other. Assumes nothing: this is a definition.
use Rattle.std.specs.Prelude.{ℕ, ◌+◌, List, [], ◌∷◌}
use Rattle.std.proofs.Math.Option.{Option, some}
use Rattle.plan.specs.Layout.{at}
use Rattle.cells.specs.Words.{◌⧺◌, word}
use Rattle.cells.specs.Value.{cell}
use Rattle.cells.specs.Cell.{cell_number}
use Rattle.cells.specs.declared.values.Cell.{Cell}

-- the columns of a line from one on, each as the sort of cell at its place says
unfoldable pub cells : List Cell → List (List ℕ) → ℕ → Option (List ℕ)
cells [] vs from = some []
cells (c ∷ cs) vs from = word (cell (cell_number c) (at vs from)) ⧺ cells cs vs (from + 1)
