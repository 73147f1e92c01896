-- The sorts of values, as the numbers of `cell` and `wide`. Assumes nothing: these are definitions.
use Rattle.std.specs.Prelude.{ℕ}
use Rattle.cells.specs.declared.values.Cell.{Cell}
use Rattle.cells.specs.declared.values.Cell.TheVariants.{Unused, Number, Field, Bit, Function, Threshold}
use Rattle.cells.specs.declared.values.WideCell.{WideCell}
use Rattle.cells.specs.declared.values.WideCell.TheVariants.{Integer, Narrow}

abbrev pub cell_number : Cell → ℕ
cell_number Unused = 0
cell_number Number = 1
cell_number Field = 2
cell_number Bit = 3
cell_number Function = 4
cell_number Threshold = 5

abbrev pub wide_number : WideCell → ℕ
wide_number Integer = 6
wide_number (Narrow c) = cell_number c
