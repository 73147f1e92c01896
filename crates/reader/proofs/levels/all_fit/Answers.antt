use Rattle.std.proofs.Common.{sym, ◌∙◌, arith}
use Rattle.std.proofs.Math.Nat.{sub-zero}
use Rattle.layout.specs.View.{cuts, tables_of}
use Rattle.reader.proofs.levels.Laws.{shaped_not, shaped_next, shaped_none}
use Rattle.view.proofs.Laws.{cuts_next}
use Rattle.view.proofs.Held.{cut_rows}
use Rattle.reader.proofs.levels.all_fit.Goals as goal

pub loop-t-init : goal.loop-t-init
unfolding tables_of
loop-t-init c = rw sub-zero

pub returns-then-not-table_fits : goal.returns-then-not-table_fits
returns-then-not-table_fits c = let e = cuts_next (cuts c.args.plan.now.words.now c.args.plan.now.rows.now 0 c.args.rows) c.args.plan.now.tables.now c.loop-t.t c.args.tables c.loop-t-test.true in
    let t = cut_rows c.args.plan.now.words.now c.args.plan.now.rows.now c.args.plan.now.tables.now c.args.rows c.loop-t.t _ _ c.first_row-from.ensures.0 c.first_row-to.ensures.0 (rw c.first_row-to.ensures.0 (c.requires.0.inside c.loop-t.t c.loop-t-test.true)) in
    sym (rw (e, t) (shaped_not _ _ _ (rw c.table_at.ensures at (sym c.table_fits.ensures ∙ c.if-not-table_fits.true)))) ∙ c.loop-t.invariant

pub loop-t-preserved : goal.loop-t-preserved
loop-t-preserved c = let e = cuts_next (cuts c.args.plan.now.words.now c.args.plan.now.rows.now 0 c.args.rows) c.args.plan.now.tables.now c.loop-t.t c.args.tables c.loop-t-test.true in
    let t = cut_rows c.args.plan.now.words.now c.args.plan.now.rows.now c.args.plan.now.tables.now c.args.rows c.loop-t.t _ _ c.first_row-from.ensures.0 c.first_row-to.ensures.0 (rw c.first_row-to.ensures.0 (c.requires.0.inside c.loop-t.t c.loop-t-test.true)) in
    sym (rw (e, t) (shaped_next _ _ _ (rw c.table_at.ensures at (sym c.table_fits.ensures ∙ c.if-not-table_fits.false)))) ∙ c.loop-t.invariant

pub returns : goal.returns
returns c = sym (shaped_none _ _ _ _ _ _ (omega arith)) ∙ c.loop-t.invariant
