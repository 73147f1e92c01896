use Rattle.std.proofs.Common.{◌+◌, ◌-◌, ◌≤◌, ◌≡◌, [], ◌∷◌, map, length, take}
use Rattle.plan.specs.Layout.{nested, steps}
use Rattle.rows.specs.View.{block_of}
use Rattle.layout.specs.View.{cuts}
use Rattle.reader.specs.Level.{below_at}
use Rattle.reader.proofs.levels.levels_fit.Given as goal

abbrev pub invariant-loop-r : goal.invariant-loop-r
invariant-loop-r l = record {
  depth : l.levels.depth ≤ l.r - l.from + 1;
  room : l.to + 2 ≤ length l.levels.above.now;
  nests : nested (map below_at (take l.levels.depth l.levels.above.now)) (map block_of (cuts l.plan.words.now l.plan.rows.now l.r (l.to - l.r)))
      ≡ nested (steps ∷ []) (map block_of (cuts l.plan.words.now l.plan.rows.now l.from (l.to - l.from)));
}
