use mathlib.Core.Path.{sym, ◌∙◌}
use native.Mathlib.Omega.{arith}
use Rattle.tokens.specs.Token.{told}
use Rattle.plan.specs.Layout.{number, ◌⊛◌, function_kind}
use Rattle.cells.proofs.values.Laws.{told_none, told_some, number_small}
use Rattle.cells.proofs.values.read_function_kind.Goals as goal

pub returns-then-equal : goal.returns-then-equal
unfolding function_kind ◌⊛◌ told
returns-then-equal c = rw (sym c.equal.ensures ∙ c.if-equal.true)

pub returns-then-equal-2 : goal.returns-then-equal-2
unfolding function_kind ◌⊛◌ told
returns-then-equal-2 c = rw (sym c.equal.ensures ∙ c.if-equal.false, sym c.equal-2.ensures ∙ c.if-equal-2.true)

pub returns-in_err-n : goal.returns-in_err-n
unfolding function_kind ◌⊛◌ told
returns-in_err-n c = rw (sym c.equal.ensures ∙ c.if-equal.false, sym c.equal-2.ensures ∙ c.if-equal-2.false, told_none (number c.args.t.now) (sym c.in_err-n.was ∙ c.read_number.ensures)) c.from_residual.ensures

pub overflow_add-result : goal.overflow_add-result
overflow_add-result c = omega (arith, number_small _ _ (told_some (number c.args.t.now) _ (sym c.in_ok-n.was ∙ c.read_number.ensures)))

pub returns : goal.returns
unfolding function_kind ◌⊛◌ told
returns c = rw (sym c.equal.ensures ∙ c.if-equal.false, sym c.equal-2.ensures ∙ c.if-equal-2.false, told_some (number c.args.t.now) _ (sym c.in_ok-n.was ∙ c.read_number.ensures))
