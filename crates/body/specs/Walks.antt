-- What code does to a `Sink` that writes parts, or all that is left of a walk over rows: `PartsEmit` and `WalkEmits` of a `Sink`. Assumes
-- nothing.
use Rattle.std.specs.Prelude.{◌≡◌, ℕ, Bool, List, ◌++◌, length}
use Rattle.std.proofs.Common.{◌∙◌}
use Rattle.text.specs.Writes.{Writes}
use Rattle.text.specs.declared.sink.Sink.{Sink}
use Rattle.plan.specs.Plan.{Environment}
use Rattle.plan.specs.Row.{Row}
use Rattle.codegen.specs.Writer.{Marks}
use Rattle.codegen.specs.Block.{Body, State, Part, text_of, odds_of}
use Rattle.emits.specs.Rows.{PartsEmit, WalkEmits, ◌⟫ₚ◌}
use Rattle.context.specs.Laws.{parts_puts}

-- from the sink w, the parts lead to w'; the lent buffer and the room are the same
pub record WritesParts (env : Environment) (ps : List Part) (w w' : Sink) : Type 0 where
  pub buffer : w'.out.ghost_name ≡ w.out.ghost_name
  pub size : length w'.out.now ≡ length w.out.now
  pub end : w'.end ≡ w.end
  pub parts : PartsEmit {S = Unit {0}} w.end env ps w.out.now w.at w.odd (tt {0}) w'.out.now w'.at w'.odd (tt {0})

pub parts_then : {env : Environment} {ps qs : List Part} {w w₁ w₂ : Sink} → WritesParts env ps w w₁ → WritesParts env qs w₁ w₂ → WritesParts env (ps ++ qs) w w₂
parts_then p q = record { buffer = q.buffer ∙ p.buffer; size = q.size ∙ p.size; end = q.end ∙ p.end; parts = p.parts ⟫ₚ (rw p.end at q.parts) }

-- bytes that are put are the parts that they are the text of
pub parts_text : {env : Environment} {ps : List Part} {w w' : Sink} → odds_of ps ≡ 0 → Writes (text_of env ps) w w' → WritesParts env ps w w'
parts_text z p = record { buffer = p.buffer; size = p.size; end = p.end; parts = rw p.odd (parts_puts z p.puts) }

-- from the sink w and the marks q, all that is left of the walk leads to w'
pub record WritesWalk (env : Environment) (c : Body) (splits : ℕ → Bool) (s : State) (i : ℕ) (rs : List Row) (w : Sink) (q : Marks) (w' : Sink) : Type 0 where
  pub buffer : w'.out.ghost_name ≡ w.out.ghost_name
  pub size : length w'.out.now ≡ length w.out.now
  pub end : w'.end ≡ w.end
  pub walk : WalkEmits w.end env c splits s i rs w.out.now w.at w.odd q w'.out.now w'.at w'.odd
