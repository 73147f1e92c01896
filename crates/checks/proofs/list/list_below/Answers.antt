use mathlib.Core.Path.{◌∙◌}
use lib.Dec.{ltb}
use Rattle.std.proofs.Common.{rules}
use Rattle.std.proofs.lemmas.Iterator.{YieldsList-from_slice}
use Rattle.std.proofs.lemmas.Iterator.Search.{all_from_yields_List}
use Rattle.checks.proofs.Every.{every_list}
use Rattle.checks.proofs.list.list_below.Goals as goal

pub returns : goal.returns
returns c =
    all_from_yields_List (λ q. ltb q c.args.n) _ _ _ c.all.ensures.ran (YieldsList-from_slice _ c.iter.ensures.rest) (λ x b q k. search rules)
    ∙ every_list _ _
