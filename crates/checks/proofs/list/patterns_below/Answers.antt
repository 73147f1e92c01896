use mathlib.Core.Path.{◌∙◌}
use Rattle.plan.specs.Refusal.{bound_below}
use Rattle.rows.specs.View.{pattern_of}
use Rattle.std.proofs.Common.{rules}
use Rattle.std.proofs.lemmas.Iterator.{YieldsList-from_slice}
use Rattle.std.proofs.lemmas.Iterator.Search.{all_from_yields_List}
use Rattle.checks.proofs.Every.{every_list}
use Rattle.checks.proofs.Lists.{every_pattern}
use Rattle.checks.proofs.list.patterns_below.Goals as goal

pub returns : goal.returns
returns c =
    all_from_yields_List (λ q. bound_below c.args.n (pattern_of q)) _ _ _ c.all.ensures.ran (YieldsList-from_slice _ c.iter.ensures.rest) (λ x b q k. search rules)
    ∙ every_list _ _ ∙ every_pattern c.args.n _
