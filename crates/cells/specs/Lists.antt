-- The sorts of lists, as the numbers of `item` and `list_words`. Assumes nothing: these are definitions.
use Rattle.std.specs.Prelude.{ℕ, Option, Some, None}
use Rattle.cells.specs.declared.lists.ListOf.{ListOf}
use Rattle.cells.specs.declared.lists.ListOf.TheVariants.{Numbers, Fields, Patterns}

abbrev pub list_number : ListOf → ℕ
list_number Numbers = 1
list_number Fields = 2
list_number Patterns = 3

-- 0 for a list that has no items
abbrev pub sort_number : Option ListOf → ℕ
sort_number None = 0
sort_number (Some s) = list_number s
