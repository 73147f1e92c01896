use Rattle.codegen.specs.Block.{emit_check}
use Rattle.emits.specs.Marks.{set_of}
use Rattle.body.specs.Told.{env_in}
use Rattle.body.specs.Words.{words_say}
use Rattle.steps.proofs.CheckLaws.{own_opening, odd_loop}
use Rattle.steps.proofs.check.emit_loop.Goals as goal

pub returns : goal.returns
unfolding emit_check
returns c = λ refs l rs.
    own_opening (set_of c.args.bound.now) _ c.put_indent.ensures (words_say (odd_loop _ _) (rw (c.word_in-q.ensures, c.sources.ensures) at (c.loop_head.ensures (env_in c.args.body.now)))) c.put_byte.ensures c.insert.ensures.marks
