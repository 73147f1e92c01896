use Rattle.std.proofs.Common.{◌≡◌, rules, refl, arith}
use Rattle.std.specs.Prelude.{Err}
use Rattle.refusals.specs.Answered.{Indexes}
use Rattle.refusals.proofs.Laws.{says_early, held, says_late, says_held, late}
use Rattle.refusals.proofs.read_into.Goals as goal

pub returns-in_err-held-clause-says : goal.returns-in_err-held-clause-says
returns-in_err-held-clause-says c = let q : c.from_residual.result ≡ Err c.in_err-held.field-0.0 = search rules in
    rw q (says_early _ _ _ _ _ c.in_err-held.ensures.says)

pub returns-in_err-held-clause-indexes : goal.returns-in_err-held-clause-indexes
unfolding Indexes
returns-in_err-held-clause-indexes c = let q : c.from_residual.result ≡ Err c.in_err-held.field-0.0 = search rules in rw q tt

pub plan_held-laid-requires : goal.plan_held-laid-requires
plan_held-laid-requires c = held _ _ _ _ _ c.in_ok-held.ensures.says

pub returns-in_err-judge-clause-says : goal.returns-in_err-judge-clause-says
returns-in_err-judge-clause-says c =
    let q : c.from_residual-in_err-judge.result ≡ Err c.in_err-judge.field-0.0 = search rules in
    let v = c.plan_held-laid.ensures in
    rw q (says_late _ _ _ _ _ c.in_ok-held.ensures.says _ (rw (v.0, v.1, v.2, v.3) at c.in_err-judge.ensures.number) _ refl)

pub returns-in_err-judge-clause-indexes : goal.returns-in_err-judge-clause-indexes
unfolding Indexes
returns-in_err-judge-clause-indexes c = let q : c.from_residual-in_err-judge.result ≡ Err c.in_err-judge.field-0.0 = search rules in rw q tt

pub returns-in_err-judge-clause-keeps : goal.returns-in_err-judge-clause-keeps
returns-in_err-judge-clause-keeps c =
    let q : c.from_residual-in_err-judge.result ≡ Err c.in_err-judge.field-0.0 = search rules in
    let v = c.plan_held-laid.ensures in
    let l = late _ _ _ _ _ c.in_ok-held.ensures.says _ (rw (v.0, v.1, v.2, v.3) at c.in_err-judge.ensures.number) _ refl in
    rw q (λ h. absurd (omega (arith, l)), λ h. absurd (omega (arith, l)), λ h. absurd (omega (arith, l)))

pub returns-in_err-judge-clause-keeps_index : goal.returns-in_err-judge-clause-keeps_index
returns-in_err-judge-clause-keeps_index c =
    let q : c.from_residual-in_err-judge.result ≡ Err c.in_err-judge.field-0.0 = search rules in
    let v = c.plan_held-laid.ensures in
    let l = late _ _ _ _ _ c.in_ok-held.ensures.says _ (rw (v.0, v.1, v.2, v.3) at c.in_err-judge.ensures.number) _ refl in
    rw q (λ h. absurd (omega (arith, l)))

pub returns-clause-says : goal.returns-clause-says
returns-clause-says c =
    let v = c.plan_held-laid.ensures in
    says_held _ _ _ _ _ c.in_ok-held.ensures.says _ (rw (v.0, v.1, v.2, v.3) at c.in_ok-judge.ensures.number) refl

pub returns-clause-indexes : goal.returns-clause-indexes
unfolding Indexes
returns-clause-indexes c = let v = c.plan_held-laid.ensures in rw (v.1, v.2, v.3) at c.in_ok-judge.ensures.indexed
