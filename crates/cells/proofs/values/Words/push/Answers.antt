use mathlib.Core.Path.{refl}
use Rattle.cells.proofs.values.Laws.{writes_word}
use Rattle.cells.proofs.values.Words.push.Goals as goal

pub returns-then-self : goal.returns-then-self
returns-then-self c = writes_word c.if-self.true refl refl refl
