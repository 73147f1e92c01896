use mathlib.Core.Logic.{inl, inr}
use Rattle.codegen.specs.ReturnKind.{by_return_kind}
use Rattle.steps.specs.ReturnLines.{no_lines}
use Rattle.steps.proofs.returns.put_limit.Goals as goal

pub returns-in-Iterator : goal.returns-in-Iterator
unfolding by_return_kind
returns-in-Iterator c = rw c.in-Iterator.is c.put_overflow.ensures

pub returns-in-Option : goal.returns-in-Option
unfolding by_return_kind
returns-in-Option c = elim c.in-Option.is [
  | inl h ↦ rw h (λ env. no_lines)
  | inr h ↦ rw h (λ env. no_lines)
]
