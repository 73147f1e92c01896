-- What code does that writes words of a line. Assumes nothing.
use Rattle.std.specs.Prelude.{◌≡◌, ℕ, ◌+◌, ◌<◌, Bool, List}
use Rattle.std.proofs.Common.{◌∙◌}
use Rattle.text.specs.Writes.{SameSink, Writes}
use Rattle.text.specs.declared.sink.Sink.{Sink}
use Rattle.codegen.specs.Piece.{Piece, odd_pieces}
use Rattle.codegen.specs.Writer.{Writer, say, ◌▸◌}
use Rattle.emits.specs.Marks.{set_of}
use Rattle.emits.specs.Sinks.{Shows}
use Rattle.emits.specs.Runs.{Emits, emits_say, emits_sink, emits_then}
use Rattle.body.specs.declared.Body.{Body}
use Rattle.body.specs.Told.{env_in, Fits}

-- the lines of an expression of binding b, which begins on a line of this depth, are no deeper than a number counts: each is a step deeper
-- for a source, which is below its binding
abbrev pub HasDepth : ℕ → ℕ → Type 0
HasDepth depth b = depth + b < 4611686018427387904

-- from the sink w and the marks of references `refs`, the writer v leads to w' and refs' on a line of this depth, where the lines are not
-- too deep; that the lent buffer and the room are the same holds wherever the writing is
pub record WritesWords (deep : Type 0) (b : Body) (depth : ℕ) (v : Writer) (w : Sink) (refs : List Bool) (w' : Sink) (refs' : List Bool) : Type 0 where
  pub same : SameSink w w'
  pub words : deep → Fits b → Emits (env_in b) depth v w (set_of refs) w' (set_of refs')

-- a line: its indentation, what stands on it, its end
pub line_sink : {s t : List ℕ} {w w₁ w₂ w' : Sink} → Writes s w w₁ → SameSink w₁ w₂ → Writes t w₂ w' → SameSink w w'
line_sink x y z = (z.buffer ∙ y.0 ∙ x.buffer, z.size ∙ y.1 ∙ x.size, z.end ∙ y.2 ∙ x.end)

module _ {deep : Type 0} {b : Body} {depth : ℕ} {w : Sink} {refs : List Bool} {w' : Sink} {refs' : List Bool} where
  -- what no premise is needed for
  pub words_emits : {v : Writer} → Emits (env_in b) depth v w (set_of refs) w' (set_of refs') → WritesWords deep b depth v w refs w' refs'
  words_emits p = record { same = emits_sink p; words = λ d f. p }

  -- lines that are not too deep here are not too deep there
  pub words_deep : {deep' : Type 0} {v : Writer} → (deep' → deep) → WritesWords deep b depth v w refs w' refs' → WritesWords deep' b depth v w refs w' refs'
  words_deep h p = record { same = p.same; words = λ d. p.words (h d) }

  infixr 5 ◌⟫ᵥ◌
  pub ◌⟫ᵥ◌ : {u v : Writer} {w₁ : Sink} {refs₁ : List Bool} → WritesWords deep b depth u w refs w₁ refs₁ → WritesWords deep b depth v w₁ refs₁ w' refs' → WritesWords deep b depth (u ▸ v) w refs w' refs'
  p ⟫ᵥ q = record { same = (q.same.0 ∙ p.same.0, q.same.1 ∙ p.same.1, q.same.2 ∙ p.same.2); words = λ d f. emits_then (p.words d f) (q.words d f) }

pub words_say : {deep : Type 0} {b : Body} {depth : ℕ} {ps : List Piece} {w w' : Sink} {refs : List Bool} → odd_pieces ps ≡ 0 → Shows (env_in b) depth ps w w' → WritesWords deep b depth (say ps) w refs w' refs
words_say z p = words_emits (emits_say z p)
