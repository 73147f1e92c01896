-- The rows of a block from a row up to another, as the buffers hold them. Assumes nothing: this is a definition.
use Rattle.std.specs.Prelude.{ℕ, ◌-◌, List, map}
use Rattle.plan.specs.Row.{Row}
use Rattle.rows.specs.View.{block_of}
use Rattle.layout.specs.View.{cuts}
use Rattle.view.specs.declared.buffers.Plan.{Plan}

abbrev pub rows_between : Plan → ℕ → ℕ → List Row
rows_between p from end = map block_of (cuts p.words.now p.rows.now from (end - from))
