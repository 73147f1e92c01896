-- What a row writes itself: the definition's `Own`, as code writes it. Assumes nothing: these are definitions.
use Rattle.std.specs.Prelude.{ℕ, ◌≡◌, Bool, List}
use Rattle.std.proofs.Math.Option.{Option, some, none}
use Rattle.text.specs.Writes.{SameSink}
use Rattle.text.specs.declared.sink.Sink.{Sink}
use Rattle.codegen.specs.Writer.{Marks}
use Rattle.codegen.specs.Block as block
use Rattle.codegen.specs.Block.{Purpose, Own, Lets, Frame}
use Rattle.emits.specs.Marks.{set_of}
use Rattle.body.specs.declared.Body.{Body}
use Rattle.body.specs.Told.{env_in, body_told, Fits}
use Rattle.body.specs.Lines.{LinesLead}

-- From the sink w and the marks of references `refs`, what a row's `o` says of the body leads to w', refs' and the names bound': its lines
-- are written inside such frames, where the lines are not too deep; that the lent buffer and the room are the same, which frame it opens,
-- and which bindings have names after it, hold wherever the writing is, the last two for every `Body` of the definition.
pub record WritesOwn (deep : Type 0) (b : Body) (inside : List Frame → Type 0) (o : block.Body → Marks → Own) (w : Sink) (refs : List Bool) (opens : Option Purpose) (w' : Sink) (refs' bound' : List Bool) : Type 0 where
  pub same : SameSink w w'
  pub lines : deep → Fits b → (i : ℕ) (fs : List Frame) → inside fs → LinesLead (env_in b) (some i) fs (λ r. (o (body_told b) r).lines) (λ r. (o (body_told b) r).refs) w (set_of refs) w' (set_of refs')
  pub frame : (c : block.Body) (r : Marks) → opens ≡ (o c r).frame
  pub bound : (c : block.Body) (r : Marks) → set_of bound' ≡ (o c r).bound

-- a row's lets as its own lines: they open no frame
abbrev pub lets_own : Lets → Own
lets_own l = record { lines = l.lines; refs = l.refs; outside = l.bound; bound = l.bound; frame = none }
