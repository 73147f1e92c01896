-- A literal, with the count of odd ones, and a text after a byte. Assumes nothing.
use Rattle.std.specs.Prelude.{List, [], ◌∷◌, ℕ, cond}
use Rattle.std.proofs.Common.{add-zero}
use Rattle.std.proofs.Math.Option.{Option}
use Rattle.text.specs.Writes.{Writes, writes_then}
use Rattle.text.specs.declared.sink.Sink.{Sink}
use Rattle.literal.specs.declared.builtin_type.IntType.{IntType}
use Rattle.literal.specs.Literal.{literal, odd}
use Rattle.plan.specs.Plan.{Environment}
use Rattle.codegen.specs.Piece.{lit, odd_piece, odd_pieces}
use Rattle.codegen.specs.Writer.{Marks, say}
use Rattle.emits.specs.Sinks.{shows_none, shows_lit}
use Rattle.emits.specs.Runs.{Emits, Counted, emits_counted}

-- a literal of the integer type t
pub emits_lit : {env : Environment} {d : ℕ} {q : Marks} {w w₁ w' : Sink} {t : Option IntType} {n : ℕ} → Writes (literal t n) w w₁ → Counted (cond (odd t n) 1 0) w₁ w' → Emits env d (say (lit t n ∷ [])) w q w' q
unfolding odd_pieces odd_piece
emits_lit p c = emits_counted (shows_lit p shows_none) (rw add-zero c)

pub writes_byte : {b : ℕ} {t : List ℕ} {w w₁ w' : Sink} → Writes (b ∷ []) w w₁ → Writes t w₁ w' → Writes (b ∷ t) w w'
writes_byte p q = writes_then p q
