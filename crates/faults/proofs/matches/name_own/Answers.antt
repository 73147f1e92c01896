use Rattle.std.proofs.Common.{sym, ◌∙◌}
use Rattle.view.specs.Buffers.{words_of, env_of}
use Rattle.emits.specs.Marks.{set_of}
use Rattle.faults.proofs.RowLaws.{ready_fresh, own_none, own_constant, own_asked}
use Rattle.faults.proofs.matches.name_own.Goals as goal

pub returns-then-not-bind_all-clause-found : goal.returns-then-not-bind_all-clause-found
returns-then-not-bind_all-clause-found c = record {
  is = λ l. own_none _ (set_of c.args.names.now.bound) c.args.q (words_of c.args.names.now.bindings.plan.now c.args.r) (rw c.list.ensures at (sym c.bind_all.ensures.names ∙ c.bind_all.ensures.same c.if-not-bind_all.true));
}

pub invariant_of-names-then-is_constant : goal.invariant_of-names-then-is_constant
invariant_of-names-then-is_constant c = record { ready = ready_fresh (c.raise.ensures.fresh c.args.names.now.ready.latest) }

pub returns-then-is_constant-clause-found : goal.returns-then-is_constant-clause-found
returns-then-is_constant-clause-found c = record {
  is = λ l. own_constant _ (set_of c.args.names.now.bound) c.args.q (words_of c.args.names.now.bindings.plan.now c.args.r) (rw c.constraint_at.ensures at (sym c.is_constant.ensures ∙ c.if-is_constant.true));
}

pub invariant_of-names-2 : goal.invariant_of-names-2
invariant_of-names-2 c = record { ready = ready_fresh (c.raise-2.ensures.fresh c.uses_own-found.ensures.latest) }

pub returns-clause-found : goal.returns-clause-found
returns-clause-found c = record {
  is = λ l. c.uses_own-found.ensures.found.is l
      ∙ rw (c.bind_all.ensures.names, c.list.ensures) (own_asked _ (set_of c.args.names.now.bound) c.args.q (words_of c.args.names.now.bindings.plan.now c.args.r) (env_of c.args.names.now.bindings.plan.now) (rw c.constraint_at.ensures at (sym c.is_constant.ensures ∙ c.if-is_constant.false)));
}
