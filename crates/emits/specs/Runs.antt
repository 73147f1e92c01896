-- What code does to a `Sink` that writes as the definition says: `Emits env d v w r w' r'` says that from the sink w and the marks of
-- references r, the writer v, at depth d, leads to w' and r'; past the room it says nothing but that it stays there. It is all that a
-- caller of a writing function has to know. Assumes nothing.
use Rattle.std.specs.Prelude.{◌≡◌, refl, Bool, List, ℕ, ◌≤◌, length}
use Rattle.std.proofs.Common.{ap, ◌∙◌, subst}
use Rattle.text.specs.Writes.{SameSink, Writes}
use Rattle.text.specs.declared.sink.Sink.{Sink}
use Rattle.plan.specs.Plan.{Environment}
use Rattle.codegen.specs.Piece.{Piece, odd_pieces}
use Rattle.codegen.specs.Writer.{Marks, contains, insert, Writer, say, mark, ask, ◌▸◌}
use Rattle.emits.specs.Emits as at
use Rattle.emits.specs.Emits.{Counts, counts_none}
use Rattle.emits.specs.Sinks.{Shows}

-- the lent buffer and the room are the same
pub record Emits (env : Environment) (d : ℕ) (v : Writer) (w : Sink) (r : Marks) (w' : Sink) (r' : Marks) : Type 0 where
  pub buffer : w'.out.ghost_name ≡ w.out.ghost_name
  pub size : length w'.out.now ≡ length w.out.now
  pub end : w'.end ≡ w.end
  pub emits : at.Emits w.end env d v w.out.now w.at w.odd r w'.out.now w'.at w'.odd r'

-- What has no odd literals leads there from any count of them on, which stays: `Emits` goes by the sink's own count alone, and says nothing of
-- the bytes where that has come to the room.
abbrev pub EmitsPlain : Environment → ℕ → Writer → Sink → Marks → Sink → Marks → Type 0
EmitsPlain env d v w r w' r' = (n : ℕ) → Emits env d v (record w { odd = n }) r (record w' { odd = n }) r'

-- k more odd literals: nothing else changes
pub record Counted (k : ℕ) (w w' : Sink) : Type 0 where
  pub buffer : w'.out.ghost_name ≡ w.out.ghost_name
  pub bytes : w'.out.now ≡ w.out.now
  pub at : w'.at ≡ w.at
  pub end : w'.end ≡ w.end
  pub counts : Counts w.end k w.odd w'.odd

-- the sink, whatever is written
pub emits_sink : {env : Environment} {d : ℕ} {v : Writer} {w : Sink} {r : Marks} {w' : Sink} {r' : Marks} → Emits env d v w r w' r' → SameSink w w'
emits_sink p = (p.buffer, p.size, p.end)

pub shows_sink : {env : Environment} {d : ℕ} {ps : List Piece} {w w' : Sink} → Shows env d ps w w' → SameSink w w'
shows_sink p = (p.is.buffer, p.is.size, p.is.end)

-- ONE AFTER THE OTHER

pub emits_then : {env : Environment} {d : ℕ} {u v : Writer} {w : Sink} {r : Marks} {w₁ : Sink} {r₁ : Marks} {w₂ : Sink} {r₂ : Marks}
    → Emits env d u w r w₁ r₁ → Emits env d v w₁ r₁ w₂ r₂ → Emits env d (u ▸ v) w r w₂ r₂
emits_then {env} {d} {u} {v} {w} {r} {w₁} {r₁} {w₂} {r₂} p q = record {
  buffer = q.buffer ∙ p.buffer;
  size = q.size ∙ p.size;
  end = q.end ∙ p.end;
  emits = at.◌⟫◌ p.emits (subst (λ (e : ℕ). at.Emits e env d v w₁.out.now w₁.at w₁.odd r₁ w₂.out.now w₂.at w₂.odd r₂) p.end q.emits);
}

infixr 5 ◌⟫◌
pub ◌⟫◌ : {env : Environment} {d : ℕ} {u v : Writer} {w : Sink} {r : Marks} {w₁ : Sink} {r₁ : Marks} {w₂ : Sink} {r₂ : Marks}
    → Emits env d u w r w₁ r₁ → Emits env d v w₁ r₁ w₂ r₂ → Emits env d (u ▸ v) w r w₂ r₂
p ⟫ q = emits_then p q

-- PIECES

-- pieces of which k literals are odd, counted after they were put
pub emits_counted : {env : Environment} {d : ℕ} {ps : List Piece} {w w₁ w' : Sink} {r : Marks} → Shows env d ps w w₁ → Counted (odd_pieces ps) w₁ w' → Emits env d (say ps) w r w' r
emits_counted {env} {d} {ps} {w} {w₁} {w'} {r} p c = record {
  buffer = c.buffer ∙ p.is.buffer;
  size = ap length c.bytes ∙ p.is.size;
  end = c.end ∙ p.is.end;
  emits = rw (c.bytes, c.at) (at.emits_say (record { is = p.is.puts }) (subst (λ (n : ℕ). Counts w.end (odd_pieces ps) n w'.odd) p.is.odd (subst (λ (e : ℕ). Counts e (odd_pieces ps) w₁.odd w'.odd) p.is.end c.counts)));
}

-- pieces without odd literals
pub emits_say : {env : Environment} {d : ℕ} {ps : List Piece} {w w' : Sink} {r : Marks} → odd_pieces ps ≡ 0 → Shows env d ps w w' → Emits env d (say ps) w r w' r
emits_say {ps = ps} q p = emits_counted p (record { buffer = refl; bytes = refl; at = refl; end = refl; counts = rw q counts_none })

-- what has no odd literals, from the count n on, and from the sink's own
pub writes_plain : {t : List ℕ} {w w' : Sink} (n : ℕ) → Writes t w w' → Writes t (record w { odd = n }) (record w' { odd = n })
writes_plain n p = record { buffer = p.buffer; size = p.size; end = p.end; odd = refl; puts = p.puts }

pub shows_plain : {env : Environment} {d : ℕ} {ps : List Piece} {w w' : Sink} (n : ℕ) → Shows env d ps w w' → Shows env d ps (record w { odd = n }) (record w' { odd = n })
shows_plain n p = record { is = writes_plain n p.is }

pub emits_plain : {env : Environment} {d : ℕ} {v : Writer} {w : Sink} {r : Marks} {w' : Sink} {r' : Marks} → EmitsPlain env d v w r w' r' → w'.odd ≡ w.odd → Emits env d v w r w' r'
emits_plain {w = w} p h = let e = p w.odd in record { buffer = e.buffer; size = e.size; end = e.end; emits = rw h e.emits }

-- MARKS

pub emits_mark : {env : Environment} {d b : ℕ} {w : Sink} {r : Marks} → Emits env d (mark b) w r w (insert r b)
emits_mark = record { buffer = refl; size = refl; end = refl; emits = at.emits_mark }

-- what is written goes by a mark
pub emits_ask : {env : Environment} {d b : ℕ} {f : Bool → Writer} {w : Sink} {r : Marks} {w' : Sink} {r' : Marks} (x : Bool) → contains r b ≡ x → Emits env d (f x) w r w' r' → Emits env d (ask b f) w r w' r'
emits_ask x q p = record { buffer = p.buffer; size = p.size; end = p.end; emits = at.emits_ask x q p.emits }

-- past the room nothing is known, and nothing need be done
pub emits_past : {env : Environment} {d : ℕ} {v : Writer} {w : Sink} {r r' : Marks} → w.end ≤ w.at → Emits env d v w r w r'
emits_past h = record { buffer = refl; size = refl; end = refl; emits = at.emits_past h h }

-- A LOOP that writes from the front: what is left to write, v at the present place, ends where v₀ from the start does.
pub record Rest (env : Environment) (d : ℕ) (v₀ : Writer) (w₀ : Sink) (r₀ : Marks) (v : Writer) (w : Sink) (r : Marks) : Type 0 where
  pub ends : (w' : Sink) (r' : Marks) → Emits env d v w r w' r' → Emits env d v₀ w₀ r₀ w' r'

module _ {env : Environment} {d : ℕ} {v₀ : Writer} {w₀ : Sink} {r₀ : Marks} where
  pub rest_all : Rest env d v₀ w₀ r₀ v₀ w₀ r₀
  rest_all = record { ends = λ w' r' p. p }

  pub rest_more : {u v : Writer} {w : Sink} {r : Marks} {w₁ : Sink} {r₁ : Marks} → Rest env d v₀ w₀ r₀ (u ▸ v) w r → Emits env d u w r w₁ r₁ → Rest env d v₀ w₀ r₀ v w₁ r₁
  rest_more g p = record { ends = λ w' r' q. g.ends w' r' (emits_then p q) }
