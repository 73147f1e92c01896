-- What is known of an accepted plan where its faults are found. Assumes nothing.
use Rattle.std.specs.Prelude.{◌<◌, ◌≡◌, true, ◌&&◌, List, [], ◌∷◌}
use Rattle.plan.specs.Plan.{Generated, Plan}
use Rattle.plan.specs.Row.{level}
use Rattle.plan.specs.Refusal.{every, row_most, at_most, list_most, environment_most, generated_most, within_most, sources_below, arguments_distinct, sources_lower}
use Rattle.splitting.specs.Cases.{and_left, and_right}
use Rattle.schedule_rules.specs.Passes.{Each, Passes, every_each, row_shallow}
use Rattle.schedule_rules.specs.Found.{Lower, lower_of}

-- of a generated term
pub record TermFits (g : Generated) : Type 0 where
  pub lower : Lower g.bindings
  pub shallow : Each (λ r. level r < 64) g.rows

terms_fit : (gs : List Generated) → every generated_most gs ≡ true → every (λ g. sources_below 0 g.bindings && arguments_distinct g.bindings) gs ≡ true → Each TermFits gs
unfolding every generated_most
terms_fit [] a b = tt
terms_fit (g ∷ gs) a b =
    let most : generated_most g ≡ true = and_left (generated_most g) _ a in
    let rows : every row_most g.rows ≡ true = and_right (every (λ x. at_most list_most x.sources) g.bindings) _ (and_right (at_most 2048 g.rows) _ (and_right (at_most 1024 g.bindings) _ most)) in
    let low : sources_below 0 g.bindings ≡ true = and_left (sources_below 0 g.bindings) _ (and_left (sources_below 0 g.bindings && arguments_distinct g.bindings) _ b) in (
      record { lower = lower_of g.bindings low; shallow = every_each row_most (λ r. level r < 64) row_shallow g.rows rows },
      terms_fit gs (and_right (generated_most g) _ a) (and_right (sources_below 0 g.bindings && arguments_distinct g.bindings) _ b),
    )

pub passes_fit : (p : Plan) → Passes p → Each TermFits p.generated
unfolding within_most sources_lower
passes_fit p x = terms_fit p.generated (and_right (at_most 64 p.generated) _ (and_right (environment_most p.env) _ x.most)) x.lower
