use Rattle.std.proofs.Common.{◌≡◌, false, drop}
use Rattle.rows.specs.View.{patterns_in}
use Rattle.codegen.specs.Pattern.{bind_all}
use Rattle.emits.specs.Marks.{set_of}
use Rattle.row_frames.proofs.bind_all.Given as goal

abbrev pub invariant-loop-word : goal.invariant-loop-word
invariant-loop-word l =
    (bind_all (patterns_in (drop l.word-index l.list)) (set_of l.bound) ≡ bind_all (patterns_in l.list) (set_of l.initial.bound)) × (l.is_new ≡ false → set_of l.bound ≡ set_of l.initial.bound)
