use Rattle.std.proofs.Common.{rules, tests, refl, ◌∙◌}
use lib.Dec.{eqb}
use Rattle.std.proofs.lemmas.Iterator.{YieldsList-from_range, YieldsList-from_map}
use Rattle.std.proofs.lemmas.Iterator.Consumers.{YieldsList-at, YieldsList-from_filter, nth_from_yields_List}
use Rattle.plan.specs.Lookup.{field_count}
use Rattle.rows.specs.View.{nth, variant_of}
use Rattle.view.specs.Buffers.{words_of}
use Rattle.exists.proofs.Sorts.{count_found}
use Rattle.exists.proofs.lengths.scan_fields.Goals as goal

pub returns : goal.returns
returns c =
    let p = c.args.plan.now in
    c.unwrap_or.ensures
    ∙ count_found p.bytes.now p.words.now p.rows.now p.tables.now c.args.n _ _ c.args.k _ c.row_range.ensures.first.0 c.row_range.ensures.end.0
    (nth_from_yields_List c.nth.result c.nth.new.self c.args.k c.nth.ensures.ran
    (YieldsList-from_map _ (λ r. field_count (variant_of (words_of p r)).fields)
    (YieldsList-at c.map.ensures.source (YieldsList-from_filter _ (λ r. eqb (nth (words_of p r) 0) c.args.n) (YieldsList-from_range _ _ _ c.filter.ensures.source refl) c.filter.ensures.closure (λ x b q k. search (rules, tests))))
    c.map.ensures.closure (λ x b q k. search (rules, tests))))
