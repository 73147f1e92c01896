-- What closes a frame of the stack does. Assumes nothing: these are definitions.
use Rattle.std.specs.Prelude.{ℕ, ◌≡◌}
use Rattle.text.specs.Writes.{Writes}
use Rattle.text.specs.declared.sink.Sink.{Sink}
use Rattle.context.specs.Closing.{closure_told, block_text}
use Rattle.context.specs.Laws.{is_several}
use Rattle.context.specs.Steps.{altered}
use Rattle.context.specs.declared.body_context.BodyContext.{BodyContext}
use Rattle.row_frames.specs.Told.{purpose_told}
use Rattle.row_frames.specs.declared.stack.Frame.{Frame}
use Rattle.blocks.specs.Nesting.{Ended}
use Rattle.blocks.specs.declared.walk.RowFrame.{RowFrame}

-- the frame f closes, around which d are open: its last lines are written, and the bindings have names that had them where it opened
pub record Closed (f : Frame RowFrame) (d : ℕ) (w : Sink) (s : BodyContext) (w' : Sink) (s' : BodyContext) : Type 0 where
  pub nesting : Ended s.nesting d (closure_told f.own.closure) s'.nesting
  pub context : s' ≡ altered s f.bound s'.nesting
  pub text : Writes (block_text s'.nesting.depth s'.nesting.in_closure (closure_told f.own.closure) (is_several (purpose_told f.purpose))) w w'
