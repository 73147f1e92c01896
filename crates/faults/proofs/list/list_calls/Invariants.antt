use Rattle.std.proofs.Common.{drop}
use Rattle.view.specs.Buffers.{words_of}
use Rattle.emits.specs.Marks.{set_of}
use Rattle.faults.specs.Kept.{SameAnswers}
use Rattle.faults.specs.Ready.{Ready}
use Rattle.faults.proofs.RowLaws.{Listing}
use Rattle.faults.proofs.list.list_calls.Given as goal

abbrev pub invariant-loop-word : goal.invariant-loop-word
invariant-loop-word l = Ready l.bindings (set_of l.bound) l.kept × Listing l.bindings (drop 7 (words_of l.bindings.plan.now l.r)) (set_of l.initial.bound) (set_of l.bound) l.word-index l.found × SameAnswers l.initial.kept l.kept
