use Rattle.std.proofs.Common.{refl, arith, rules}
use Rattle.layout.proofs.Laws.{row_some}
use Rattle.layout.proofs.Buffers.put_row.Goals as goal

pub overflow_cast-self : goal.overflow_cast-self
overflow_cast-self c = omega (arith, (row_some _ _ _ _ _ _ _ c.requires.0 c.requires.2 c.in_ok-put_row.ensures.wrote _ refl).1)

pub returns-clause-row : goal.returns-clause-row
returns-clause-row c = let w = row_some _ _ _ _ _ _ _ c.requires.0 c.requires.2 c.in_ok-put_row.ensures.wrote _ refl in
    record { words = let e = w.0 in search rules; few = w.1; row_end = refl; has_row = refl; table_end = refl; has_tables = refl }
