use mathlib.Core.Path.{refl}
use Rattle.std.proofs.Common.{rules}
use Rattle.plan.specs.Refusal.{is_struct}
use Rattle.exists.proofs.Sorts.{type_tested}
use Rattle.exists.proofs.counts.struct_exists.Goals as goal

pub returns-clause-any : goal.returns-clause-any
returns-clause-any c = type_tested c.args.plan.now c.args.n is_struct (λ t. refl) _ _ c.declared_type.ensures c.is_some_and.ensures (λ t ws q. search rules)

pub returns-clause-own : goal.returns-clause-own
returns-clause-own c = returns-clause-any c c.args.plan.now.bytes.now
