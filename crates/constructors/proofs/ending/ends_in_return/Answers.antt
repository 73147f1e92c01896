use Rattle.std.proofs.Common.{rules, tests, refl, ◌∙◌}
use lib.Dec.{eqb}
use Rattle.std.proofs.lemmas.Iterator.{YieldsList-from_range}
use Rattle.std.proofs.lemmas.Iterator.Consumers.{YieldsList-from_filter, fold_from_yields_List}
use Rattle.rows.specs.View.{nth}
use Rattle.view.specs.Buffers.{words_of}
use Rattle.constructors.specs.Ending.{returns_fold}
use Rattle.constructors.proofs.ending.ends_in_return.Goals as goal

pub returns : goal.returns
returns c =
    let p = c.args.plan.now in
    fold_from_yields_List _ (λ _ x. eqb (nth (words_of p x) 1) 3) _ _ c.fold.ensures.ran
    (YieldsList-from_filter _ (λ r. eqb (nth (words_of p r) 0) 0) (YieldsList-from_range _ _ _ c.filter.ensures.source refl) c.filter.ensures.closure (λ x b q k. search (rules, tests)))
    (λ a x b q k. search (rules, tests))
    ∙ returns_fold p.words.now p.rows.now c.args.last c.args.first _ _ refl
