use Rattle.steps.proofs.returns.ReturnLaws.{lines_limit}
use Rattle.steps.proofs.returns.put_overflow.Goals as goal

pub returns : goal.returns
returns c = λ env. lines_limit c.put_indent.ensures c.put_bytes.ensures c.put_iter_overflow_action.ensures c.put_bytes-2.ensures c.put_byte.ensures
