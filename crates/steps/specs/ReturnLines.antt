-- The lines of a return that go by no mark. Assumes nothing.
use Rattle.std.specs.Prelude.{refl, List, [], ◌∷◌, ℕ}
use Rattle.std.proofs.Math.Option.{Option}
use Rattle.text.specs.Writes.{SameSink}
use Rattle.text.specs.declared.sink.Sink.{Sink}
use Rattle.plan.specs.Plan.{Environment}
use Rattle.codegen.specs.Piece.{fix, pos}
use Rattle.codegen.specs.Writer.{Marks}
use Rattle.codegen.specs.Block.{Line, Frame, words, overflow}
use Rattle.body.specs.Lines.{LinesLead, lines_none}

-- where the rule stands
abbrev pub rule_lines : ℕ → List Line
rule_lines p = words (fix "// Rule at " refl ∷ pos p ∷ fix "." refl ∷ []) ∷ []

abbrev pub overflow_lines : List Line
overflow_lines = overflow ∷ []

-- the lines ls of a row, or of none, lead from the sink w to w' inside such frames; that the lent buffer and the room are the same holds
-- anywhere
pub record WritesLines (env : Environment) (inside : List Frame → Type 0) (ls : List Line) (w w' : Sink) : Type 0 where
  pub same : SameSink w w'
  pub lines : (i : Option ℕ) (fs : List Frame) (q : Marks) → inside fs → LinesLead env i fs (λ x. ls) (λ x. x) w q w' q

pub no_lines : {env : Environment} {inside : List Frame → Type 0} {w : Sink} → WritesLines env inside [] w w
no_lines = record { same = (refl, refl, refl); lines = λ i fs q s. lines_none }
