use Rattle.std.proofs.Common.{arith, ◌∙◌, ◌+◌, length-set}
use Rattle.row_frames.specs.Stack.{open_frames}
use Rattle.row_frames.specs.StackLaws.{last_low, length_open, open_set, can_push, pushed_over}
use Rattle.faults.specs.Walk.{walking_past, walking_done, walking_crowded, walking_close, walking_row, follows_some, follows_none}
use Rattle.faults.proofs.walk.put_rows.Goals.{in-Some, in_default}
use Rattle.faults.proofs.walk.put_rows.Goals as goal

pub rows-preserved-then-level-frame : goal.rows-preserved-then-level-frame
rows-preserved-then-level-frame c = rw (c.pop.ensures.frames, c.pop.ensures.places) (walking_close c.rows.invariant.0 c.last-frame.ensures c.if-r-rows.true (omega (arith, c.cell-level.ensures, c.if-level-frame.true)) c.restore.ensures.bindings c.restore.ensures.names, c.rows.invariant.1)

pub returns-then-stack-top : goal.returns-then-stack-top
returns-then-stack-top c = walking_crowded c.rows.invariant.0 c.if-r-rows.true (last_low c.rows.stack.stacked) (omega (arith, c.rows.invariant.1, length_open c.rows.stack.frames.now c.rows.stack.top c.rows.stack.stacked.room, c.if-stack-top.true)) (omega (arith, c.last-frame.ensures.level, c.cell-level.ensures, c.if-level-frame.false))

pub push-requires : goal.push-requires
push-requires c = can_push c.rows.stack.frames.now c.rows.stack.top _ c.if-stack-top.false (omega (arith, c.last-frame.ensures.level, c.if-level-frame.false))

pub rows-smaller : goal.rows-smaller
rows-smaller c =
    elim c.match-s.branch [
      | in-Some w ↦ rw (w.stack-is, pushed_over c.rows.stack.frames.now _ c.if-stack-top.false w.push.ensures) (omega (arith, c.if-r-rows.true))
      | in_default w ↦ rw (w.stack-is, open_set c.rows.stack.frames.now (c.rows.stack.top + 1) _ c.rows.stack.top (omega arith) c.rows.stack.stacked.room) (omega (arith, c.if-r-rows.true))
    ]

pub rows-preserved : goal.rows-preserved
rows-preserved c =
    let frames = c.rows.stack.frames.now in
    let d = c.rows.stack.top in
    let fs = open_frames frames d in
    let s = c.judge_row-s.result in
    let deeper = rw (c.last-frame.ensures.level, c.cell-level.ensures) at c.if-level-frame.false in
    let judged = rw c.last-frame.ensures.purpose at c.judge_row-s.ensures in
    let places = length-set frames (d + 1) _ ∙ c.rows.invariant.1 in
    elim c.match-s.branch [
      | in-Some w ↦ (
        rw (w.stack-is, pushed_over frames _ c.if-stack-top.false w.push.ensures, c.cell-level.ensures) (walking_row (last_low c.rows.stack.stacked) c.rows.invariant.0 s c.if-r-rows.true deeper judged c.put_row.ensures (follows_some fs c.rows.names c.rows.r c.args.rows.now.end s judged _ w.in-Some.is)),
        rw w.stack-is (w.push.ensures.places ∙ places),
      )
      | in_default w ↦ (
        rw (w.stack-is, open_set frames (d + 1) _ d (omega arith) c.rows.stack.stacked.room) (walking_row (last_low c.rows.stack.stacked) c.rows.invariant.0 s c.if-r-rows.true deeper judged c.put_row.ensures (follows_none fs c.rows.names c.rows.r s w.in_default.is)),
        rw w.stack-is places,
      )
    ]

pub returns-else-r-rows : goal.returns-else-r-rows
returns-else-r-rows c = walking_done c.rows.invariant.0 c.if-r-rows.false

pub returns-after-rows : goal.returns-after-rows
returns-after-rows c = walking_past c.rows.invariant.0 c.rows-test.false
