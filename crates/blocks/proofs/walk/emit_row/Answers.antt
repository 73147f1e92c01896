use Rattle.row_frames.specs.Told.{purpose_told}
use Rattle.steps.proofs.CheckLaws.{own_nested}
use Rattle.blocks.specs.Row.{row_kept}
use Rattle.blocks.proofs.walk.emit_row.Goals as goal

pub returns : goal.returns
returns c = row_kept (purpose_told c.args.purpose) c.args.r c.args.last (own_nested c.emit_bind_order.ensures.own) c.emit_bind_order.ensures.nesting c.emit_rest.ensures c.save_scope.ensures
