use mathlib.Core.Path.{refl, ap, ◌∙◌}
use mathlib.Core.List.{map}
use lib.Dec.{ltb}
use lib.ListN.{drop}
use Rattle.std.proofs.Common.{rules}
use Rattle.std.proofs.lemmas.Iterator.{YieldsList-from_range}
use Rattle.std.proofs.lemmas.Iterator.Consumers.{YieldsList-from_enumerate}
use Rattle.std.proofs.lemmas.Iterator.Search.{all_from_yields_List}
use Rattle.plan.specs.Refusal.{every, sources_below}
use Rattle.rows.specs.View.{binding_of}
use Rattle.view.specs.Buffers.{words_of}
use Rattle.checks.proofs.Every.{rows_start}
use Rattle.checks.proofs.Marks.{all_sources}
use Rattle.checks.proofs.lower.all_below.Goals as goal

pub returns : goal.returns
returns c =
    all_from_yields_List (λ x. every (λ q. ltb q x.0) (drop 6 (words_of c.args.plan.now x.1))) _ _ _ c.all.ensures.ran
    (YieldsList-from_enumerate (YieldsList-from_range _ _ _ c.enumerate.ensures.source refl) c.enumerate.ensures.count) (λ x b q k. search rules)
    ∙ all_sources c.args.plan.now _ _ _
    ∙ ap (λ t. sources_below 0 (map binding_of t)) (rows_start c.args.plan.now.words.now c.args.plan.now.rows.now c.args.plan.now.tables.now c.args.t _ _ c.row_range.ensures.first.0 c.row_range.ensures.end.0)
