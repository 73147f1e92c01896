use Rattle.std.proofs.Common.{◌∙◌}
use Rattle.sema.specs.Fields.{fields_read}
use Rattle.pattern.proofs.Laws.{field_turn, field_end}
use Rattle.pattern.proofs.fields.field_patterns.Goals as goal

pub loop-i-preserved : goal.loop-i-preserved
loop-i-preserved c = (
  λ n. field_turn (fields_read c.args.f.now) c.args.list.now c.loop-i.i c.loop-i-test.true (c.loop-i.invariant.0 n) (rw c.pattern_of.ensures at (c.field_pattern.ensures.plain n)),
  c.field_pattern.ensures.odd ∙ c.loop-i.invariant.1,
)

pub returns-clause-plain : goal.returns-clause-plain
returns-clause-plain c = λ n. (c.loop-i.invariant.0 n).ends _ _ (field_end (fields_read c.args.f.now) c.loop-i.i c.args.list.now c.loop-i.i c.loop-i-test.false)
