use mathlib.Core.Path.{refl, ap, ◌∙◌}
use Rattle.std.proofs.lemmas.Iterator.{YieldsList-from_range}
use Rattle.std.proofs.lemmas.Iterator.Search.{all_from_yields_List}
use Rattle.plan.specs.Refusal.{every}
use Rattle.view.specs.Buffers.{words_of}
use Rattle.checks.proofs.Every.{every_row, rows_start}
use Rattle.checks.proofs.tables.all_rows.Goals as goal

pub returns : goal.returns
returns g c = λ P law.
    all_from_yields_List (λ r. P (words_of c.args.plan.now r)) _ _ _ c.all.ensures.ran (YieldsList-from_range _ _ _ refl refl) (λ x b q k. (g.met.F.Fn.1.step_stays _ _ _ _ k, law x b ((g.met.F.FnMut.1.post_iff _ _ _).1 (q, k))))
    ∙ every_row P c.args.plan.now.words.now c.args.plan.now.rows.now _ _
    ∙ ap (every P) (rows_start c.args.plan.now.words.now c.args.plan.now.rows.now c.args.plan.now.tables.now c.args.t _ _ c.row_range.ensures.first.0 c.row_range.ensures.end.0)
