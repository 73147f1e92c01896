use mathlib.Core.Path.{sym, ◌∙◌}
use mathlib.Core.Bool.{false, ◌&&◌}
use lib.ListN.{replicate}
use Rattle.std.proofs.Common.{rules}
use Rattle.plan.specs.Refusal.{sources_below}
use Rattle.checks.specs.Within.{marks_new}
use Rattle.checks.proofs.Marks.{lower_tests}
use Rattle.checks.proofs.Bytes.{few_any, lower_any}
use Rattle.checks.proofs.lower.sources_lower.Goals as goal

pub returns-clause-own : goal.returns-clause-own
returns-clause-own c = λ few. c.all_generated.ensures (λ g. sources_below 0 g.bindings && marks_new (replicate 32 false) g.bindings) (search rules) ∙ lower_tests c.args.plan.now few

pub returns-clause-any : goal.returns-clause-any
returns-clause-any c = λ bytes few. returns-clause-own c (sym (few_any c.args.plan.now bytes) ∙ few) ∙ sym (lower_any c.args.plan.now bytes)
