use Rattle.std.proofs.Common.{refl}
use Rattle.codegen.specs.Block.{lets}
use Rattle.body.specs.Lines.{lines_words}
use Rattle.body.specs.Words.{line_sink}
use Rattle.steps.proofs.lets.emit_let.Goals as goal

pub returns : goal.returns
unfolding lets
returns c = record {
  same = line_sink c.put_indent.ensures c.let_line.ensures.same c.put_byte.ensures;
  lines = λ d f i fs t. lines_words t c.put_indent.ensures (c.let_line.ensures.words d f) c.put_byte.ensures;
  frame = λ x r. refl;
  bound = λ x r. c.insert.ensures.marks;
}
