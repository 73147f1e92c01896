use native.Mathlib.Omega.{arith}
use mathlib.Core.Path.{◌∙◌, ap}
use Rattle.plan.specs.Plan.{Variant}
use Rattle.sema.proofs.Laws.{variant_same, same_variants}
use Rattle.sema.proofs.types.TypeId.variant.Goals as goal

pub returns-clause-any : goal.returns-clause-any
returns-clause-any c = λ p s h.
    let row = rw (← c.variant_row-row.ensures) at (variant_same s h c.args.self.0 c.args.k (omega (arith, c.variant_count.ensures.any p s.index h))) in
    (ap (λ (v : Variant). v.name) (c.variant_at-variant.ensures ∙ row), rw c.list.ensures (ap (λ (v : Variant). v.fields) (c.variant_at-variant.ensures ∙ row)))

pub returns-clause-own : goal.returns-clause-own
returns-clause-own c = returns-clause-any c c.args.plan.now same_variants
