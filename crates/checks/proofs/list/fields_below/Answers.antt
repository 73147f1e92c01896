use Rattle.std.proofs.Common.{rules, tests, ◌&&◌, ltb, ◌∙◌}
use Rattle.std.proofs.lemmas.Iterator.{YieldsList-from_slice}
use Rattle.std.proofs.lemmas.Iterator.Search.{all_from_yields_List}
use Rattle.rows.specs.View.{nth}
use Rattle.checks.proofs.Lists.{every_field}
use Rattle.checks.proofs.list.fields_below.Goals as goal

pub returns : goal.returns
returns c =
    all_from_yields_List (λ a. ltb (nth a 0) c.args.syms && ltb (nth a 1) c.args.types) _ _ _ c.all.ensures.ran (YieldsList-from_slice _ (c.iter.ensures.rest ∙ c.as_chunks.ensures.front)) (λ x b q k. search (rules, tests))
    ∙ every_field c.args.syms c.args.types c.args.list.now
