use Rattle.std.proofs.Common.{◌-◌, ◌≡◌}
use Rattle.layout.specs.Scan.{shaped}
use Rattle.layout.specs.View.{cuts, tables_of}
use Rattle.reader.proofs.levels.all_fit.Given as goal

abbrev pub invariant-loop-t : goal.invariant-loop-t
invariant-loop-t l = shaped l.t (cuts (cuts l.plan.words.now l.plan.rows.now 0 l.rows) l.plan.tables.now l.t (l.tables - l.t))
    ≡ shaped 0 (tables_of l.plan.words.now l.plan.rows.now l.plan.tables.now l.rows l.tables)
