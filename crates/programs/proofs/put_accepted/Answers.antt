use borrow.Author.Rules.{rules}
use Rattle.text.specs.Writes.{writes_then}
use Rattle.programs.specs.Printed.{accepted_line}
use Rattle.programs.proofs.Laws.{line_put, accepted_length}
use Rattle.programs.proofs.put_accepted.Goals as goal

pub returns : goal.returns
unfolding accepted_line
returns c = line_put c.new-w.ensures.room c.new-w.ensures.start.0 (writes_then c.put_bytes.ensures c.put_byte.ensures) accepted_length (search rules)
