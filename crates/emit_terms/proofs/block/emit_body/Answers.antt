use Rattle.std.proofs.Common.{sym, ◌∙◌}
use Rattle.checks.specs.Terms.{block_rows}
use Rattle.emit_terms.specs.Term.{few_written, all_written}
use Rattle.emit_terms.proofs.block.emit_body.Goals as goal

pub returns-then-is_shallow : goal.returns-then-is_shallow
returns-then-is_shallow c = few_written c.begin_body-context.ensures (block_rows c.args.body.now.bindings.plan.now c.args.block c.row_range-rows.ensures.first.0 c.row_range-rows.ensures.end.0) (sym c.is_shallow.ensures ∙ c.if-is_shallow.true) c.emit_with.ensures

pub returns-else-is_shallow : goal.returns-else-is_shallow
returns-else-is_shallow c = all_written c.begin_body-context.ensures (block_rows c.args.body.now.bindings.plan.now c.args.block c.row_range-rows.ensures.first.0 c.row_range-rows.ensures.end.0) c.emit_with-else-is_shallow.ensures
