use Rattle.view.proofs.Plans.{environment_is}
use Rattle.view.specs.Buffers.{plan_of}
use mathlib.Core.Path.{sym, ◌∙◌}
use Rattle.codegen.specs.Items.{items}
use Rattle.emits.specs.Sinks.{◌⟫ₛ◌}
use Rattle.emit_items.proofs.Lists.{nopragmas_is}
use Rattle.emit_items.proofs.items.Goals as goal

pub returns-clause-shows : goal.returns-clause-shows
unfolding items
returns-clause-shows c = λ v.
    let p = c.args.plan.now in
    rw (environment_is p.words.now p.rows.now p.tables.now p.bytes.now)
    (c.generate_header.ensures.shows (plan_of p).options (nopragmas_is p c.row_at.ensures.own ∙ sym c.flag-nopragmas.ensures) ⟫ₛ c.generate_ctx_trait.ensures ⟫ₛ c.generate_internal_types.ensures.shows v)
