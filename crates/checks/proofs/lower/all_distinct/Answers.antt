use Prim.Native.Nat.{ℕ}
use mathlib.Core.Bool.{false}
use lib.ListN.{replicate}
use mathlib.Core.Option.{Option}
use mathlib.Core.Path.{◌≡◌, ap}
use mathlib.Core.List.{map}
use Rattle.std.proofs.Common.{rules, tests, refl, ◌∙◌}
use Rattle.std.proofs.lemmas.Iterator.{YieldsList-from_range}
use Rattle.plan.specs.Lookup.{argument_index}
use Rattle.rows.specs.View.{binding_of}
use Rattle.view.specs.Buffers.{words_of}
use Rattle.checks.specs.Within.{mark_new, marked, marks_new}
use Rattle.checks.proofs.Runs.{all_changing, all_marks}
use Rattle.checks.proofs.Every.{rows_start}
use Rattle.checks.proofs.lower.all_distinct.Goals as goal

pub returns : goal.returns
returns c =
    let i : ℕ → Option ℕ = λ r. argument_index (binding_of (words_of c.args.plan.now r)).binding in
    all_changing (λ m r. mark_new m (i r)) (λ m r. marked m (i r)) (λ f m. (f.0.now ≡ m) × (f.1.now ≡ c.args.plan.now)) _ _ (replicate 32 false) _ c.all.ensures.ran
    (YieldsList-from_range _ _ _ refl refl) (refl, refl) (λ f m x b q h k. search (rules, tests))
    ∙ all_marks c.args.plan.now (replicate 32 false) _ _
    ∙ ap (λ t. marks_new (replicate 32 false) (map binding_of t)) (rows_start c.args.plan.now.words.now c.args.plan.now.rows.now c.args.plan.now.tables.now c.args.t _ _ c.row_range.ensures.first.0 c.row_range.ensures.end.0)
