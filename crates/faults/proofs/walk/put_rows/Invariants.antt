use Rattle.std.proofs.Common.{◌≡◌, ◌+◌, ◌-◌, ◌*◌, length}
use Rattle.row_frames.specs.Stack.{open_frames}
use Rattle.faults.specs.Walk.{Walking}
use Rattle.faults.proofs.walk.put_rows.Given as goal

abbrev pub invariant-rows : goal.invariant-rows
invariant-rows l = Walking l.initial.names.bindings l.term l.rows.start l.rows.end l.initial.w (open_frames l.stack.frames.now l.stack.top) l.r l.names l.w × (length l.stack.frames.now ≡ length l.initial.stack.frames.now)

abbrev pub decreases-rows : goal.decreases-rows
decreases-rows l = 2 * (l.rows.end - l.r) + length (open_frames l.stack.frames.now l.stack.top)
