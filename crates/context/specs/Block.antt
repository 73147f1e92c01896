-- What the steps of one block do to the state. Assumes nothing.
use Rattle.std.specs.Prelude.{ℕ, ◌≡◌, Bool, cond}
use Rattle.codegen.specs.Writer.{insert}
use Rattle.emits.specs.Marks.{set_of}
use Rattle.context.specs.Context.{counted}
use Rattle.context.specs.declared.body_context.BodyContext.{BodyContext}

-- the binding is marked, the names are those from before the block, and one more closure has a number
pub record BlockSteps (s : BodyContext) (b : ℕ) (is_ref : Bool) (r : BodyContext) : Type 0 where
  pub refs : set_of r.is_ref ≡ cond is_ref (insert (set_of s.is_ref) b) (set_of s.is_ref)
  pub bound : set_of r.is_bound ≡ set_of s.is_bound
  pub nesting : r.nesting ≡ counted s.nesting
