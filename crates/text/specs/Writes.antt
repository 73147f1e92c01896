-- `Puts` of a `Sink` of the code: the buffer, the position and one more than the room stand in one value. Assumes nothing.
use Rattle.std.specs.Prelude.{ℕ, ◌+◌, ◌≤◌, ◌≡◌, refl, List, [], ◌++◌, length}
use Rattle.std.proofs.Common.{◌∙◌, subst, arith}
use Rattle.text.specs.Sink.{Puts}
use Rattle.text.specs.SinkLaws.{◌then◌, puts_nil, puts_past}
use Rattle.text.specs.declared.sink.Sink.{Sink}

-- the lent buffer is the same one and as long as it was, and the room is the same
abbrev pub SameSink : Sink → Sink → Type 0
SameSink w w' = (w'.out.ghost_name ≡ w.out.ghost_name) × (length w'.out.now ≡ length w.out.now) × (w'.end ≡ w.end)

-- the text t more; the lent buffer, its length, the room and the count of odd literals are the same
pub record Writes (t : List ℕ) (w w' : Sink) : Type 0 where
  pub buffer : w'.out.ghost_name ≡ w.out.ghost_name
  pub size : length w'.out.now ≡ length w.out.now
  pub end : w'.end ≡ w.end
  pub odd : w'.odd ≡ w.odd
  pub puts : Puts w.end t w.out.now w.at w'.out.now w'.at

-- the empty text
pub writes_nil : {w : Sink} → Writes [] w w
writes_nil = record { buffer = refl; size = refl; end = refl; odd = refl; puts = puts_nil }

-- a text that has no room
pub writes_over : {t : List ℕ} {w : Sink} → w.end ≤ w.at + length t → Writes t w (record { out = w.out; at = w.end; end = w.end; odd = w.odd })
writes_over h = record { buffer = refl; size = refl; end = refl; odd = refl; puts = puts_past h (omega arith) }

-- one text after another
pub writes_then : {s t : List ℕ} {w w₁ w₂ : Sink} → Writes s w w₁ → Writes t w₁ w₂ → Writes (s ++ t) w w₂
writes_then {s} {t} {w} {w₁} {w₂} p q = record {
  buffer = q.buffer ∙ p.buffer;
  size = q.size ∙ p.size;
  end = q.end ∙ p.end;
  odd = q.odd ∙ p.odd;
  puts = p.puts then (subst (λ (e : ℕ). Puts e t w₁.out.now w₁.at w₂.out.now w₂.at) p.end q.puts);
}
