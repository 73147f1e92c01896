-- The sorts of tables, as the numbers of `row_words`. Assumes nothing: these are definitions.
use Rattle.std.specs.Prelude.{ℕ}
use Rattle.rows.specs.declared.Table.{Table}
use Rattle.rows.specs.declared.Table.TheVariants.{Options, File, Sym, Pos, Types, Variants, Terms, Generated, Bindings, Block}

abbrev pub table_number : Table → ℕ
table_number Options = 0
table_number File = 1
table_number Sym = 2
table_number Pos = 3
table_number Types = 4
table_number Variants = 5
table_number Terms = 6
table_number Generated = 7
table_number Bindings = 8
table_number Block = 9
