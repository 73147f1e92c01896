-- The set that marks stand for. Assumes nothing.
use Rattle.std.specs.Prelude.{Bool, List}
use Rattle.codegen.specs.Writer.{Marks}

-- one mark for each binding
unfoldable pub set_of : List Bool → Marks
set_of marks = marks
