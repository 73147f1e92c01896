use Rattle.std.proofs.Common.{◌≡◌, ◌+◌, ◌-◌, ◌*◌, length}
use Rattle.row_frames.specs.Stack.{open_frames}
use Rattle.blocks.specs.Loop.{Walking}
use Rattle.blocks.proofs.walk.emit_rows.Given as goal

abbrev pub invariant-rows : goal.invariant-rows
invariant-rows l = record {
  walking : Walking l.body l.first l.last l.initial.w l.initial.context.is_ref l.initial.context.is_bound (open_frames l.stack.frames.now l.stack.top) l.stack.top l.r l.w l.context;
  places : length l.stack.frames.now ≡ length l.initial.stack.frames.now;
}

abbrev pub decreases-rows : goal.decreases-rows
decreases-rows l = 2 * (l.last - l.r) + l.stack.top
