use Prim.Native.Nat.{◌-◌}
use mathlib.Core.Path.{refl, ap, sym, ◌∙◌}
use mathlib.Core.List.{map}
use Rattle.std.proofs.Common.{rules}
use Rattle.std.proofs.lemmas.Iterator.{YieldsList-from_range}
use Rattle.std.proofs.lemmas.Iterator.Search.{all_from_yields_List}
use Rattle.plan.specs.Refusal.{matches_armed}
use Rattle.rows.specs.View.{block_of}
use Rattle.checks.specs.Tests.{armed}
use Rattle.checks.proofs.Blocks.{all_armed}
use Rattle.checks.proofs.Every.{rows_start}
use Rattle.checks.proofs.arms.block_armed.Goals as goal

pub returns : goal.returns
returns c =
    all_from_yields_List (armed c.args.plan.now c.end_row-end.result) _ _ _ c.all.ensures.ran (YieldsList-from_range _ _ _ refl refl) (λ x b q k. search rules)
    ∙ all_armed c.args.plan.now _ _ _ (ap (λ m. m - c.row_range.result.start) (c.end_row-end.ensures.0 ∙ sym c.row_range.ensures.end.0))
    ∙ ap (λ t. matches_armed (map block_of t)) (rows_start c.args.plan.now.words.now c.args.plan.now.rows.now c.args.plan.now.tables.now c.args.t _ _ c.row_range.ensures.first.0 c.row_range.ensures.end.0)
