use mathlib.Core.Path.{refl, sym, ap, ◌∙◌}
use Rattle.std.proofs.Common.{rules}
use Rattle.std.proofs.lemmas.Iterator.{YieldsList-from_range}
use Rattle.std.proofs.lemmas.Iterator.Search.{position_from_yields_List}
use Rattle.std.proofs.lemmas.Iterator.Adapters.{position_from-zero}
use Rattle.constructors.specs.Arguments.{argument_at, found_mark, mark_found}
use Rattle.constructors.proofs.arguments.find_binding.Goals as goal

pub returns : goal.returns
returns c = λ m.
    let test = argument_at c.args.plan.now c.args.i in
    mark_found c.args.plan.now c.args.i 0 c.args.first _ m
    ∙ ap (λ r. found_mark r m) (sym (position_from_yields_List test _ _ _ c.position.ensures.ran (YieldsList-from_range _ _ _ refl refl) (λ x b q k. search rules) ∙ position_from-zero test _))
