use Rattle.std.proofs.Common.{refl}
use Rattle.blocks.specs.Row.{ends_row, ends_none}
use Rattle.blocks.proofs.row.emit_rest.Goals as goal

pub returns-in_err-purpose : goal.returns-in_err-purpose
returns-in_err-purpose c = rw c.from_residual.ensures (ends_none (rw c.in_err-purpose.was at c.emit_case.ensures) refl)

pub returns : goal.returns
returns c = ends_row _ (rw c.in_ok-purpose.was at c.emit_case.ensures) refl c.splits_at-splits.ensures c.begin_closure.ensures
