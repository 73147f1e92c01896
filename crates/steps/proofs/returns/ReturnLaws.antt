-- The lines of a return. Assumes nothing.
use Rattle.std.specs.Prelude.{◌≡◌, refl, ℕ, ◌*◌, List, [], ◌∷◌, true}
use Prim.Native.String.{String}
use Rattle.text.specs.Codes.{codes}
use Rattle.text.specs.Sink.{spaces}
use Rattle.text.specs.Writes.{Writes, writes_then}
use Rattle.text.specs.declared.sink.Sink.{Sink}
use Rattle.plan.specs.Plan.{Environment}
use Rattle.codegen.specs.Piece.{Piece, plain, fix, odd_piece, odd_pieces}
use Rattle.codegen.specs.Writer.{Marks, said, say}
use Rattle.codegen.specs.ReturnKind as kind
use Rattle.codegen.specs.ReturnKind.{ReturnKind, by_return_kind}
use Rattle.codegen.specs.Block.{words, closures}
use Rattle.emits.specs.Sinks.{Shows, shows_fix, shows_none}
use Rattle.emits.specs.Runs.{Emits, emits_say, shows_sink}
use Rattle.context.specs.Closing.{overflow_action}
use Rattle.context.specs.Laws.{action_is}
use Rattle.context.specs.declared.body_context.Nesting.{Nesting}
use Rattle.body.specs.Told.{StandsAt, StandsIn}
use Rattle.body.specs.Lines.{lines_words, lines_overflow}
use Rattle.body.specs.Words.{line_sink}
use Rattle.steps.specs.ReturnLines.{overflow_lines, WritesLines}

-- one of two fixed texts, by the kind of return
pub emits_by_kind : {env : Environment} {d : ℕ} {w w' : Sink} {r : Marks} (k : ReturnKind) (many one : String) (p : plain (codes many) ≡ true) (q : plain (codes one) ≡ true)
    → Writes (by_return_kind k (codes many) (codes one) (codes one)) w w' → Emits env d (say (by_return_kind k (fix many p) (fix one q) (fix one q) ∷ [])) w r w' r
unfolding by_return_kind odd_pieces odd_piece
emits_by_kind kind.Iterator many one p q x = emits_say refl (shows_fix x shows_none)
emits_by_kind kind.Option many one p q x = emits_say refl (shows_fix x shows_none)
emits_by_kind kind.Plain many one p q x = emits_say refl (shows_fix x shows_none)

module _ {env : Environment} {w w₁ w₂ w' : Sink} where
  -- fixed pieces as a line
  pub lines_pieces : {d : ℕ} {ps : List Piece} → odd_pieces ps ≡ 0 → Writes (spaces (4 * d)) w w₁ → Shows env d ps w₁ w₂ → Writes (10 ∷ []) w₂ w' → WritesLines env (StandsAt d) (words ps ∷ []) w w'
  unfolding said
  lines_pieces {ps = ps} z x y t = record { same = line_sink x (shows_sink y) t; lines = λ i fs q h. lines_words {v = say ps} h x (emits_say z y) t }

  pub lines_limit : {n : Nesting} {w₃ w₄ : Sink} → Writes (spaces (4 * n.depth)) w w₁ → Writes (codes "if returns.len() >= MAX_ISLE_RETURNS { ") w₁ w₂ → Writes (overflow_action n.in_closure) w₂ w₃ → Writes (codes " }") w₃ w₄ → Writes (10 ∷ []) w₄ w' → WritesLines env (StandsIn n) overflow_lines w w'
  lines_limit x a b c t = record {
    same = let y = writes_then a (writes_then b c) in line_sink x (y.buffer, y.size, y.end) t;
    lines = λ i fs q s. lines_overflow s.depth x (writes_then a (writes_then (rw (s.closure, ← action_is (closures fs)) at b) c)) t;
  }
