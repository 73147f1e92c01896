use Rattle.std.proofs.Common.{sym, ◌∙◌}
use Rattle.faults.proofs.ExprLaws.{finds_name, finds_call, finds_through, left_found, left_next, left_lower, left_none}
use Rattle.faults.proofs.written.+expr_holds_source_holds.Goals as goal

pub expr_holds-returns-then-contains : goal.expr_holds-returns-then-contains
expr_holds-returns-then-contains t c = finds_name c.args.question.now c.args.bindings.now c.args.b (sym c.contains.ensures ∙ c.if-contains.true) c.asks_name.ensures

pub expr_holds-returns : goal.expr_holds-returns
expr_holds-returns t c = finds_through c.args.question.now c.args.bindings.now c.args.b (sym c.contains.ensures ∙ c.if-contains.false) (sym c.if-asks_call.false ∙ c.asks_call.ensures) c.source_holds-yes.ensures c.keep-2.ensures.number c.keep-2.ensures.answers c.keep-2.ensures.same

pub expr_holds-returns-then-asks_call : goal.expr_holds-returns-then-asks_call
expr_holds-returns-then-asks_call t c = finds_call c.args.question.now c.args.bindings.now c.args.b (sym c.contains.ensures ∙ c.if-contains.false) (sym c.if-asks_call.true ∙ c.asks_call.ensures) c.keep.ensures.number c.keep.ensures.answers c.keep.ensures.same

pub source_holds-loop-word-preserved-then-b-q : goal.source_holds-loop-word-preserved-then-b-q
source_holds-loop-word-preserved-then-b-q t c = left_lower (rw c.sources-word-items.ensures at c.loop-word-test.true) c.loop-word.invariant (rw c.sources-word-items.ensures at c.if-b-q.true)

pub source_holds-returns-then-expr_holds : goal.source_holds-returns-then-expr_holds
source_holds-returns-then-expr_holds t c = left_found (rw c.sources-word-items.ensures at c.loop-word-test.true) c.loop-word.invariant (rw (c.sources-word-items.ensures, c.if-expr_holds.true) at c.expr_holds.ensures)

pub source_holds-loop-word-preserved : goal.source_holds-loop-word-preserved
source_holds-loop-word-preserved t c = left_next (rw c.sources-word-items.ensures at c.loop-word-test.true) c.loop-word.invariant (rw (c.sources-word-items.ensures, c.if-expr_holds.false) at c.expr_holds.ensures)

pub source_holds-returns : goal.source_holds-returns
source_holds-returns t c = left_none (rw c.sources-word-items.ensures at c.loop-word-test.false) c.loop-word.invariant
