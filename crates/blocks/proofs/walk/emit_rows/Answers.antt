use Rattle.std.specs.Prelude.{min}
use Rattle.std.proofs.Common.{◌≡◌, ◌+◌, ◌<◌, refl, ap, ◌∙◌, length, length-set, arith}
use Rattle.row_frames.specs.Stack.{open_frames, last_level}
use Rattle.row_frames.specs.StackLaws.{length_open, open_set, can_push, last_low, pushed_over, one_less}
use Rattle.blocks.specs.Stack.{row_level}
use Rattle.blocks.specs.Loop.{walking_start, walking_past, walking_done, walking_full, walking_close, walking_none, walking_some}
use Rattle.blocks.proofs.walk.emit_rows.Goals.{in-Some, in_default}
use Rattle.blocks.proofs.walk.emit_rows.Goals as goal

pub rows-init : goal.rows-init
rows-init c =
    let s = c.args.stack.now in
    let none : s.top ≡ 0 = omega (arith, length_open s.frames.now s.top s.stacked.room, ap length c.requires.none) in
    record { walking = walking_start c.requires.none none c.requires.starts refl refl; places = refl }

pub returns : goal.returns
returns c = walking_past c.rows.invariant.walking c.rows-test.false

pub returns-then-d-eq0 : goal.returns-then-d-eq0
returns-then-d-eq0 c = walking_done c.rows.invariant.walking c.last-frame.ensures c.if-d-eq0.true c.next_level-next.ensures.level c.if-next-frame.true

pub pop-requires : goal.pop-requires
pop-requires c = omega (arith, last_low c.rows.stack.stacked, c.rows.invariant.walking.count)

pub rows-smaller-then-next-frame : goal.rows-smaller-then-next-frame
rows-smaller-then-next-frame c =
    let s = c.pop.new.self in
    let left : s.top < c.rows.stack.top = omega (arith, length_open s.frames.now s.top s.stacked.room, ap length c.pop.ensures.frames, one_less (open_frames c.rows.stack.frames.now c.rows.stack.top) (omega (arith, last_low c.rows.stack.stacked, c.rows.invariant.walking.count)), c.rows.invariant.walking.count) in
    omega arith

pub rows-preserved-then-next-frame : goal.rows-preserved-then-next-frame
rows-preserved-then-next-frame c =
    let s = c.pop.new.self in
    record {
      walking = walking_close c.rows.invariant.walking (last_low c.rows.stack.stacked) (omega arith) c.last-frame.ensures c.next_level-next.ensures.level c.if-next-frame.true c.close_frame.ensures c.pop.ensures.frames (length_open s.frames.now s.top s.stacked.room);
      places = ap length c.pop.ensures.places ∙ c.rows.invariant.places;
    }

pub returns-then-min-d : goal.returns-then-min-d
returns-then-min-d c =
    let m : c.min.result ≡ min (length c.rows.stack.frames.now) 65 = c.min.ensures in
    walking_full c.rows.invariant.walking c.next_level-next.ensures.level (last_low c.rows.stack.stacked) (c.next_level-next.ensures.there (omega arith)) (omega (arith, m, c.rows.invariant.places, c.if-min-d.true)) (omega (arith, c.last-frame.ensures.level))

pub push-requires : goal.push-requires
push-requires c =
    let m : c.min.result ≡ min (length c.rows.stack.frames.now) 65 = c.min.ensures in
    can_push _ _ _ (omega (arith, m)) (omega (arith, c.last-frame.ensures.level))

pub rows-smaller : goal.rows-smaller
rows-smaller c =
    let m : c.min.result ≡ min (length c.rows.stack.frames.now) 65 = c.min.ensures in
    let room : c.rows.stack.top + 1 < length c.rows.stack.frames.now = omega (arith, m) in
    elim c.match-emit_row.branch [
      | in-Some w ↦
          let s = w.push.new.self in
          let more : s.top ≡ c.rows.stack.top + 1 = omega (arith, length_open s.frames.now s.top s.stacked.room, ap length (pushed_over _ _ room w.push.ensures), c.rows.invariant.walking.count) in
          rw w.stack-is (omega (arith, more, c.next_level-next.ensures.there (omega arith)))
      | in_default w ↦ rw w.stack-is (omega (arith, c.next_level-next.ensures.there (omega arith)))
    ]

pub rows-preserved : goal.rows-preserved
rows-preserved c =
    let m : c.min.result ≡ min (length c.rows.stack.frames.now) 65 = c.min.ensures in
    let room : c.rows.stack.top + 1 < length c.rows.stack.frames.now = omega (arith, m) in
    let there = c.next_level-next.ensures.there (omega arith) in
    let deeper : last_level (open_frames c.rows.stack.frames.now c.rows.stack.top) < c.next_level-next.result = omega (arith, c.last-frame.ensures.level) in
    let lower : c.rows.stack.top < length c.rows.stack.frames.now = omega arith in
    let above : c.rows.stack.top < c.rows.stack.top + 1 = omega arith in
    let here = c.next_level-next.ensures.level ∙ row_level c.args.body.now.bindings.plan.now.words.now c.args.body.now.bindings.plan.now.rows.now c.rows.r c.args.last there in
    elim c.match-emit_row.branch [
      | in-Some w ↦
          let s = w.push.new.self in
          record {
            walking = rw (w.stack-is, w.context-is) (walking_some c.rows.invariant.walking there (last_low c.rows.stack.stacked) _ (omega (arith, m)) deeper here (rw (c.last-frame.ensures.purpose, w.in-Some.is) at c.emit_row.ensures) refl refl w.new-own.ensures.row w.new-own.ensures.closure w.begin_frame-context.ensures (pushed_over _ _ room w.push.ensures) (length_open s.frames.now s.top s.stacked.room));
            places = rw w.stack-is (w.push.ensures.places ∙ length-set _ _ _ ∙ c.rows.invariant.places);
          }
      | in_default w ↦
          record {
            walking = rw (w.stack-is, w.context-is, open_set) (walking_none c.rows.invariant.walking there (last_low c.rows.stack.stacked) (rw here at deeper) (rw (c.last-frame.ensures.purpose, w.in_default.is) at c.emit_row.ensures));
            places = rw w.stack-is (length-set _ _ _ ∙ c.rows.invariant.places);
          }
    ]
