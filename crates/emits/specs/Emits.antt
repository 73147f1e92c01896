-- What code does that writes as the definition says. `Emits e env d w o at n r o' at' n' r'` says: from the buffer o, the position at,
-- the odd count n and the marks of references r, the writer w, at depth d, leads to o', at', n' and r'; past the room, e less one,
-- it says nothing but that it stays there. It is all that a caller of a writing function has to know. Assumes nothing.
use Rattle.std.specs.Prelude.{◌≡◌, refl, Bool, List, [], ◌∷◌, ◌++◌, ℕ, ◌+◌, ◌≤◌, ◌<◌, length}
use Rattle.std.proofs.Common.{sym, ap, ◌∙◌, append_assoc, add-zero, zero-add, add_assoc, arith, length-append}
use Rattle.std.proofs.lemmas.List.Edits.{sets}
use Rattle.text.specs.Sink.{view, put, Puts}
use Rattle.text.specs.SinkLaws.{view_held, view_past, sets_append}
use Rattle.plan.specs.Plan.{Environment}
use Rattle.codegen.specs.Piece.{Piece, render, odd_pieces}
use Rattle.codegen.specs.Writer.{Marks, contains, insert, Writer, said, say, mark, ask, ◌▸◌}
use Rattle.emits.specs.Place.{Place, over, here, place, place_over, count_over, place_cases, with_sink, place_sink}

unfoldable pub run : ℕ → Environment → ℕ → Writer → Place Marks → Place Marks
run e env d w over = over
run e env d w (here o at n r) =
    let t = render env d (said w r).pieces in
    place e (sets o at t) (at + length t) (n + odd_pieces (said w r).pieces) (said w r).refs

pub record Emits (e : ℕ) (env : Environment) (d : ℕ) (w : Writer) (o : List ℕ) (at n : ℕ) (r : Marks) (o' : List ℕ) (at' n' : ℕ) (r' : Marks) : Type 0 where
  pub is : place e o' at' n' r' ≡ run e env d w (place e o at n r)

-- ONE AFTER THE OTHER

pub render_append : (env : Environment) (d : ℕ) (ps qs : List Piece) → render env d (ps ++ qs) ≡ render env d ps ++ render env d qs
unfolding render
render_append env d [] qs = refl
render_append env d (p ∷ ps) qs = rw (render_append env d ps qs, append_assoc)

pub odd_append : (ps qs : List Piece) → odd_pieces (ps ++ qs) ≡ odd_pieces ps + odd_pieces qs
unfolding odd_pieces
odd_append [] qs = sym (zero-add _)
odd_append (p ∷ ps) qs = rw (odd_append ps qs) (sym (add_assoc _ _ _))

run_run : (e : ℕ) (env : Environment) (d : ℕ) (v w : Writer) (x : Place Marks) → run e env d w (run e env d v x) ≡ run e env d (v ▸ w) x
unfolding run said
run_run e env d v w over = refl
run_run e env d v w (here o at n r) =
    place_cases (λ x. run e env d w x ≡ run e env d (v ▸ w) (here o at n r)) e (sets o at (render env d (said v r).pieces)) (at + length (render env d (said v r).pieces)) (n + odd_pieces (said v r).pieces) (said v r).refs
    (λ h g. rw (render_append, sets_append, length-append, odd_append, ← add_assoc, ← add_assoc))
    (λ h. sym (place_over e _ _ _ _ (rw (render_append, length-append) (omega arith))))
    (λ h. sym (count_over e _ _ _ _ (rw odd_append (omega arith))))

infixr 5 ◌⟫◌
pub ◌⟫◌ : {e : ℕ} {env : Environment} {d : ℕ} {v w : Writer} {o : List ℕ} {at n : ℕ} {r : Marks} {o₁ : List ℕ} {at₁ n₁ : ℕ} {r₁ : Marks} {o₂ : List ℕ} {at₂ n₂ : ℕ} {r₂ : Marks}
    → Emits e env d v o at n r o₁ at₁ n₁ r₁ → Emits e env d w o₁ at₁ n₁ r₁ o₂ at₂ n₂ r₂ → Emits e env d (v ▸ w) o at n r o₂ at₂ n₂ r₂
◌⟫◌ {e} {env} {d} {v} {w} p q = record { is = q.is ∙ ap (run e env d w) p.is ∙ run_run e env d v w _ }

-- PIECES

-- the bytes of pieces
pub record Shows (e : ℕ) (env : Environment) (d : ℕ) (ps : List Piece) (o : List ℕ) (at : ℕ) (o' : List ℕ) (at' : ℕ) : Type 0 where
  pub is : Puts e (render env d ps) o at o' at'

-- a count of odd literals that stops at the room
pub record Counts (e k n n' : ℕ) : Type 0 where
  pub below : n < e → n' ≡ n + k
  pub above : e ≤ n → e ≤ n'

pub counts_none : {e n : ℕ} → Counts e 0 n n
counts_none {e} {n} = record { below = λ g. sym (add-zero n); above = λ g. g }

pub counts_one : {e n : ℕ} → n < e → Counts e 1 n (n + 1)
counts_one h = record { below = λ g. refl; above = λ g. absurd (omega arith) }

pub counts_full : {e k n : ℕ} → e ≤ n → Counts e k n n
counts_full h = record { below = λ g. absurd (omega arith); above = λ g. g }

-- pieces, and how many of their literals are odd
pub emits_say : {e : ℕ} {env : Environment} {d : ℕ} {ps : List Piece} {o : List ℕ} {at n : ℕ} {r : Marks} {o' : List ℕ} {at' n' : ℕ} → Shows e env d ps o at o' at' → Counts e (odd_pieces ps) n n' → Emits e env d (say ps) o at n r o' at' n' r
unfolding run said with_sink put
emits_say {e} {env} {d} {ps} {o} {at} {n} {r} {o'} {at'} {n'} p c = record {
  is = place_sink e n' r o' at' ∙ ap (with_sink e n' r) p.is.is
      ∙ place_cases (λ w. with_sink e n' r (put e (render env d ps) (view e o at)) ≡ run e env d (say ps) w) e o at n r
      (λ h g. rw (view_held e o at h, ← c.below g) (sym (place_sink e n' r (sets o at (render env d ps)) (at + length (render env d ps)))))
      (λ h. rw (view_past e o at h))
      (λ h. sym (ap (with_sink e n' r) p.is.is) ∙ sym (place_sink e n' r o' at') ∙ count_over e o' at' n' r (c.above h));
}

-- MARKS

pub emits_mark : {e : ℕ} {env : Environment} {d b : ℕ} {o : List ℕ} {at n : ℕ} {r : Marks} → Emits e env d (mark b) o at n r o at n (insert r b)
unfolding run said render odd_pieces
emits_mark {e} {env} {d} {b} {o} {at} {n} {r} = record { is = place_cases (λ w. place e o at n (insert r b) ≡ run e env d (mark b) w) e o at n r (λ h g. simp add-zero) (λ h. place_over e o at n (insert r b) h) (λ h. count_over e o at n (insert r b) h) }

-- what is written goes by a mark
pub emits_ask : {e : ℕ} {env : Environment} {d b : ℕ} {f : Bool → Writer} {o : List ℕ} {at n : ℕ} {r : Marks} {o' : List ℕ} {at' n' : ℕ} {r' : Marks} (v : Bool) → contains r b ≡ v → Emits e env d (f v) o at n r o' at' n' r' → Emits e env d (ask b f) o at n r o' at' n' r'
unfolding run said
emits_ask {e} {env} {d} {b} {f} {o} {at} {n} {r} v q p = record { is = p.is ∙ place_cases (λ w. run e env d (f v) w ≡ run e env d (ask b f) w) e o at n r (λ h g. ap (λ (x : Bool). run e env d (f x) (here o at n r)) (sym q)) (λ h. refl) (λ h. refl) }

-- past the room nothing is known, and nothing need be done
pub emits_past : {e : ℕ} {env : Environment} {d : ℕ} {w : Writer} {o : List ℕ} {at n : ℕ} {r : Marks} {o' : List ℕ} {at' n' : ℕ} {r' : Marks} → e ≤ at → e ≤ at' → Emits e env d w o at n r o' at' n' r'
unfolding run
emits_past {e} {env} {d} {w} {o} {at} {n} {r} {o'} {at'} {n'} {r'} h g = record { is = rw (place_over e o at n r h, place_over e o' at' n' r' g) }
