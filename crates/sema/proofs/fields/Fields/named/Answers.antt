use Rattle.sema.proofs.Laws.{field_there, field_past}
use Rattle.std.proofs.Common.{arith, ◌∙◌}
use Rattle.std.proofs.lemmas.List.{get_or_default}
use Rattle.sema.proofs.fields.Fields.named.Goals as goal

pub returns-in-Some : goal.returns-in-Some
returns-in-Some c = field_there c.args.self.now.list.now c.args.i c.as_chunks.ensures.front (c.in-Some.ensures.lookup.1 ∙ get_or_default c.as_chunks.result.0.now c.args.i _ _ (omega (arith, c.in-Some.ensures.lookup)))

pub returns-in-None : goal.returns-in-None
returns-in-None c = field_past c.args.self.now.list.now c.args.i c.as_chunks.ensures.front (omega (arith, c.in-None.ensures.lookup))
