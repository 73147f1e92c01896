use Rattle.std.proofs.Common.{rules, refl, ◌∙◌, arith}
use Rattle.std.proofs.lemmas.Iterator.{YieldsList-from_range, YieldsList-from_map}
use Rattle.std.proofs.lemmas.Iterator.Search.{all_from_yields_List}
use Rattle.checks.specs.Tests.{tables_at, generated_of}
use Rattle.checks.proofs.Tests.{terms_all, all_terms}
use Rattle.checks.proofs.tables.all_generated.Goals as goal

pub returns : goal.returns
returns g c = λ P law.
    all_from_yields_List (λ t. P (generated_of c.args.plan.now t)) _ _ _ c.all.ensures.ran
    (YieldsList-from_map _ tables_at (YieldsList-from_range _ _ _ c.map.ensures.source refl) c.map.ensures.closure (λ x b q k. search rules))
    (λ x b q k. (g.met.F.Fn.1.step_stays _ _ _ _ k, law x b ((g.met.F.FnMut.1.post_iff _ _ _).1 (q, k))))
    ∙ all_terms P c.args.plan.now 0 _ (omega (arith, c.generated_count.ensures.count))
    ∙ terms_all P c.args.plan.now
