use Rattle.std.specs.Prelude.{Result, Err, Some, None}
use Rattle.std.proofs.Common.{rules, ℕ, ◌≡◌, sym, ◌∙◌, length-set, arith}
use Rattle.refusal.specs.declared.Refusal.{Refusal}
use Rattle.refusal.specs.declared.Refusal.TheVariants.{Layout}
use Rattle.reader.specs.declared.Held.{Held}
use Rattle.reader.proofs.Laws.{reading_long, reading_byte, says_bad, says_index, says_not, says_read, says_refused, says_held, first_zero}
use Rattle.reader.proofs.read_into.Goals as goal

pub returns-then-plan-gt-LONGEST-clause-says : goal.returns-then-plan-gt-LONGEST-clause-says
returns-then-plan-gt-LONGEST-clause-says c = says_refused _ _ _ _ _ (reading_long _ c.if-plan-gt-LONGEST.true)

pub returns-then-not-all_allowed-clause-says : goal.returns-then-not-all_allowed-clause-says
returns-then-not-all_allowed-clause-says c = says_refused _ _ _ _ _ (reading_byte _ c.if-plan-gt-LONGEST.false (sym c.all_allowed.ensures ∙ c.if-not-all_allowed.true))

pub returns-in_err-filled-clause-says : goal.returns-in_err-filled-clause-says
returns-in_err-filled-clause-says c =
    let q : ◌≡◌ {A = Result Held Refusal} c.from_residual.result (Err Layout) = search rules in
    let none : c.fill.result ≡ None = search rules in
    rw q (says_refused _ _ _ _ _ (says_bad _ c.if-plan-gt-LONGEST.false (sym c.all_allowed.ensures ∙ c.if-not-all_allowed.false) _ _ _ _ _ _ (rw none at c.fill.ensures.fill)))

pub all_fit-requires : goal.all_fit-requires
all_fit-requires c = let some : c.fill.result ≡ Some c.in_ok-filled.filled = search rules in
    let few = rw some at c.fill.ensures.whole in
    (rw c.view_of-laid.ensures.3 (says_index _ c.if-plan-gt-LONGEST.false (sym c.all_allowed.ensures ∙ c.if-not-all_allowed.false) _ _ _ _ _ _ _ _ _ (rw some at c.fill.ensures.fill) (first_zero c.args.buffers.now.rows.now (omega arith)) (first_zero c.args.buffers.now.tables.now (omega arith))), omega (arith, few), omega (arith, few), omega (arith, few))

pub returns-then-not-all_fit-clause-says : goal.returns-then-not-all_fit-clause-says
returns-then-not-all_fit-clause-says c =
    let some : c.fill.result ≡ Some c.in_ok-filled.filled = search rules in
    let v = c.view_of-laid.ensures in
    says_refused _ _ _ _ _ (says_not _ c.if-plan-gt-LONGEST.false (sym c.all_allowed.ensures ∙ c.if-not-all_allowed.false) _ _ _ _ _ _ _ _ _ (rw some at c.fill.ensures.fill) (first_zero c.args.buffers.now.rows.now (omega arith)) (first_zero c.args.buffers.now.tables.now (omega arith))
    (rw (v.1, v.2, v.3) at (sym c.all_fit.ensures ∙ c.if-not-all_fit.true)))

pub returns-clause-says : goal.returns-clause-says
returns-clause-says c = let some : c.fill.result ≡ Some c.in_ok-filled.filled = search rules in
    let few = rw some at c.fill.ensures.whole in
    let v = c.view_of-laid.ensures in
    let allowed = sym c.all_allowed.ensures ∙ c.if-not-all_allowed.false in
    let row = first_zero c.args.buffers.now.rows.now (omega arith) in
    let table = first_zero c.args.buffers.now.tables.now (omega arith) in
    says_held _ _ _ _ _ _ (says_read _ c.if-plan-gt-LONGEST.false allowed _ _ _ _ _ _ _ _ _ (rw some at c.fill.ensures.fill) row table (rw (v.1, v.2, v.3) at (sym c.all_fit.ensures ∙ c.if-not-all_fit.false)))
    (says_index _ c.if-plan-gt-LONGEST.false allowed _ _ _ _ _ _ _ _ _ (rw some at c.fill.ensures.fill) row table) few.3 few.1 few.2 (omega (arith, few, length-set {A = ℕ}))
