use mathlib.Core.Path.{refl, ◌∙◌}
use Rattle.std.proofs.Common.{rules}
use Rattle.std.proofs.lemmas.Iterator.{YieldsList-from_range}
use Rattle.std.proofs.lemmas.Iterator.Search.{all_from_yields_List}
use Rattle.plan.specs.Lookup.{variant_at}
use Rattle.view.specs.Buffers.{env_of}
use Rattle.codegen.specs.Items.{is_unit}
use Rattle.emit_items.proofs.Lists.{unit_all}
use Rattle.emit_items.proofs.internal_types.all_unit.Goals as goal

pub returns : goal.returns
returns c = λ v.
    all_from_yields_List (λ k. is_unit (variant_at (env_of c.args.plan.now) c.args.ty.0 k).fields) _ _ _ c.all.ensures.ran (YieldsList-from_range _ _ _ refl refl) (λ x b q k. search (rules, v))
    ∙ unit_all (env_of c.args.plan.now) c.args.ty.0 _ (c.variant_count.ensures.own v)
