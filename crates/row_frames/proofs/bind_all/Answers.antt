use Rattle.std.proofs.Common.{refl, sym, ◌∙◌, arith}
use Rattle.codegen.specs.Pattern.{bind_all}
use Rattle.emits.specs.Marks.{set_of}
use Rattle.row_frames.specs.Patterns.{bind_word, bind_end}
use Rattle.row_frames.proofs.Laws.{insert_there, or_left, or_right}
use Rattle.row_frames.proofs.bind_all.Goals.{in-Some, in_default}
use Rattle.row_frames.proofs.bind_all.Goals as goal

pub loop-word-preserved : goal.loop-word-preserved
unfolding bind_all
loop-word-preserved c =
    elim c.match-pattern_of.branch [
      | in-Some w ↦ rw (w.bound-is, w.is_new-is) (
        bind_word c.args.list.now c.loop-word.word-index (set_of c.loop-word.bound) _ c.loop-word-test.true (rw (← c.pattern_of.ensures, w.in-Some.is) w.insert-is_new.ensures.marks) ∙ c.loop-word.invariant.0,
        λ q. w.insert-is_new.ensures.marks
            ∙ insert_there (set_of c.loop-word.bound) w.in-Some.binding (sym w.insert-is_new.ensures.is_new ∙ or_right c.loop-word.is_new w.insert-is_new.result q)
            ∙ c.loop-word.invariant.1 (or_left c.loop-word.is_new w.insert-is_new.result q),
      )
      | in_default w ↦ rw (w.bound-is, w.is_new-is) (bind_word c.args.list.now c.loop-word.word-index (set_of c.loop-word.bound) _ c.loop-word-test.true (rw (← c.pattern_of.ensures, w.in_default.is) refl) ∙ c.loop-word.invariant.0, c.loop-word.invariant.1)
    ]

pub returns-clause-names : goal.returns-clause-names
returns-clause-names c = sym (bind_end c.args.list.now c.loop-word.word-index (set_of c.loop-word.bound) (omega (arith, c.loop-word-test.false))) ∙ c.loop-word.invariant.0
