-- The same of `Words` of the code.
use Rattle.std.specs.Prelude.{ℕ, ◌≡◌, List, Option, Some, None}
use Rattle.std.proofs.Math.Option as math
use Rattle.cells.specs.Words.{Wrote}
use Rattle.cells.specs.declared.values.Words.{Words}

-- where the words end that a writer wrote, if it wrote them
abbrev pub ended : Option Unit → ℕ → Option ℕ
ended None k = None
ended (Some u) k = Some k

-- what a writer does with these words: the buffer stays the same one
pub record Writes (w : math.Option (List ℕ)) (x : Words) (r : Option Unit) (x' : Words) : Type 0 where
  pub buffer : x'.out.ghost_name ≡ x.out.ghost_name
  pub wrote : Wrote x.out.now (Some x.at) w (ended r x'.at) x'.out.now
