use Rattle.std.proofs.Common.{[], ◌∷◌, ◌∙◌, rules}
use Rattle.std.proofs.lemmas.Iterator.{YieldsList-from_slice}
use Rattle.std.proofs.lemmas.Iterator.Search.{any_from_yields_List}
use Rattle.rows.specs.View.{pattern_of}
use Rattle.codegen.specs.Pattern.{skipped_some}
use Rattle.pattern.proofs.Laws.{any_skipped}
use Rattle.pattern.proofs.bind.skipped_some.Goals as goal

pub returns : goal.returns
unfolding skipped_some
returns c =
    any_from_yields_List (λ b. skipped_some (pattern_of b ∷ [])) _ _ _ c.any.ensures.ran (YieldsList-from_slice c.args.list.now cc) (λ x b q k. search rules)
    ∙ any_skipped _
