-- Laws of the sink. A caller uses `puts-nil`, `_then_` and `puts-past`; a reader, `puts-fit`, `puts-written`, `puts-room` and `puts-over`.
use Rattle.std.specs.Prelude.{ℕ, zero, suc, ◌+◌, ◌-◌, ◌≤◌, ◌<◌, min, ◌≡◌, refl, Bool, true, false, List, [], ◌∷◌, ◌++◌, ltb, length, set, take, drop, get_or}
use Rattle.std.proofs.Common.{sym, ap, ◌∙◌, add-zero, add-suc, suc-add, add_assoc, add-one, arith, length-append, length-set, length-drop, drop_of_length-le, take-suc, take_all, length-take-le, lt-ltb, le-ltb, ltb-true, ltb-false, zero-add}
use Rattle.std.proofs.lemmas.List.{length-replicate, get_or-replicate}
use Rattle.std.proofs.lemmas.List.Edits.{sets, sets-eq}
use Rattle.std.proofs.Math.Seq.{length-sets, set_out, take-nil}
use Rattle.text.specs.Sink.{Sink, past, held, view, put, Puts, spaces}

-- The view of a position below the room, and of one past it.
pub view_held : (e : ℕ) (o : List ℕ) (at : ℕ) → at < e → view e o at ≡ held o at
unfolding view
view_held e o at h = rw (lt-ltb at e h)

pub view_past : (e : ℕ) (o : List ℕ) (at : ℕ) → e ≤ at → view e o at ≡ past
unfolding view
view_past e o at h = rw (le-ltb at e h)

-- Stores one after another.
pub sets_append : (o : List ℕ) (at : ℕ) (s t : List ℕ) → sets o at (s ++ t) ≡ sets (sets o at s) (at + length s) t
sets_append o at [] t = rw add-zero
sets_append o at (x ∷ s) t = rw (add-suc, ← suc-add) (sets_append (set o at x) (suc at) s t)

sets_suc : (o : List ℕ) (at i : ℕ) (s : List ℕ) → i < length s → sets o at (take (i + 1) s) ≡ set (sets o at (take i s)) (at + i) (get_or s i 0)
sets_suc o at i s h = rw (add-one, take-suc s i 0 h, sets_append, length-take-le i s (omega arith))

-- stores past the buffer's end change nothing
pub sets_out : (o : List ℕ) (at : ℕ) (t : List ℕ) → length o ≤ at → sets o at t ≡ o
sets_out o at [] h = refl
sets_out o at (x ∷ t) h = rw (set_out o at x h) (sets_out o (suc at) t (omega arith))

-- so of a text only as many bytes count as the buffer has a place for
pub sets_take : (o : List ℕ) (at n : ℕ) (t : List ℕ) → min (length t) (length o - at) ≤ n → sets o at (take n t) ≡ sets o at t
sets_take o at zero [] h = refl
sets_take o at zero (x ∷ t) h = sym (sets_out o at (x ∷ t) (omega arith))
sets_take o at (suc n) [] h = refl
sets_take o at (suc n) (x ∷ t) h = sets_take (set o at x) (suc at) n t (rw length-set (omega arith))

-- the first n bytes of a buffer, at the start of another one
pub sets_front : (n : ℕ) (d o : List ℕ) → n ≤ length d → n ≤ length o → sets o 0 (take n d) ≡ take n d ++ drop n o
sets_front n d o h g = let l : length (take n d) ≡ n = length-take-le n d h in let z : 0 + n ≡ n = zero-add n in rw (l, z) at (sets-eq (take n d) o 0 (rw (l, z) g))

put_put : (e : ℕ) (s t : List ℕ) (v : Sink) → put e t (put e s v) ≡ put e (s ++ t) v
unfolding put
put_put e s t past = refl
put_put e s t (held o at) = go (ltb (at + length s) e) refl
  where
    go : (b : Bool) → ltb (at + length s) e ≡ b → put e t (view e (sets o at s) (at + length s)) ≡ view e (sets o at (s ++ t)) (at + length (s ++ t))
    go true h = rw (view_held e (sets o at s) (at + length s) (ltb-true (at + length s) e h), sets_append, length-append, ← add_assoc)
    go false h =
        let le : e ≤ at + length s = ltb-false (at + length s) e h in
        rw (view_past e (sets o at s) (at + length s) le, view_past e (sets o at (s ++ t)) (at + length (s ++ t)) (rw length-append (omega arith)))

put_held : (e : ℕ) (t o : List ℕ) (at : ℕ) → at < e → put e t (view e o at) ≡ view e (sets o at t) (at + length t)
unfolding put
put_held e t o at h = rw (view_held e o at h)

put_past : (e : ℕ) (t o : List ℕ) (at : ℕ) → e ≤ at + length t → put e t (view e o at) ≡ past
unfolding put
put_past e t o at h = go (ltb at e) refl
  where
    go : (b : Bool) → ltb at e ≡ b → put e t (view e o at) ≡ past
    go true q = rw (view_held e o at (ltb-true at e q), view_past e (sets o at t) (at + length t) h)
    go false q = rw (view_past e o at (ltb-false at e q))

-- From a position below `e`: each byte that has a place in the buffer is stored, and all are counted.
pub puts_held : {e : ℕ} {t o : List ℕ} {at : ℕ} {o' : List ℕ} {at' : ℕ} → at < e → o' ≡ sets o at t → at' ≡ at + length t → Puts e t o at o' at'
puts_held {e} {t} {o} {at} h q r = record { is = rw (put_held e t o at h, q, r) }

-- A text that does not fit: any position past the room will do.
pub puts_past : {e : ℕ} {t o : List ℕ} {at : ℕ} {o' : List ℕ} {at' : ℕ} → e ≤ at + length t → e ≤ at' → Puts e t o at o' at'
puts_past {e} {t} {o} {at} {o'} {at'} h g = record { is = view_past e o' at' g ∙ sym (put_past e t o at h) }

-- The empty text.
pub puts_nil : {e : ℕ} {o : List ℕ} {at : ℕ} → Puts e [] o at o at
puts_nil {e} {o} {at} = go (ltb at e) refl
  where
    go : (b : Bool) → ltb at e ≡ b → Puts e [] o at o at
    go true q = puts_held (ltb-true at e q) refl (sym (add-zero at))
    go false q = puts_past (omega (arith, ltb-false at e q)) (ltb-false at e q)

-- One text after another.
infixr 5 ◌then◌
pub ◌then◌ : {e : ℕ} {s t o : List ℕ} {at : ℕ} {o₁ : List ℕ} {at₁ : ℕ} {o₂ : List ℕ} {at₂ : ℕ} → Puts e s o at o₁ at₁ → Puts e t o₁ at₁ o₂ at₂ → Puts e (s ++ t) o at o₂ at₂
◌then◌ {e} {s} {t} {o} {at} p q = record { is = q.is ∙ ap (put e t) p.is ∙ put_put e s t (view e o at) }

-- What `Puts` says, in full.
module _ {e : ℕ} {t o : List ℕ} {at : ℕ} {o' : List ℕ} {at' : ℕ} (p : Puts e t o at o' at') where
  -- a text that does not fit leads past the room
  pub puts_over : e ≤ at + length t → e ≤ at'
  puts_over h = go (ltb at' e) refl
    where
      go : (b : Bool) → ltb at' e ≡ b → e ≤ at'
      go true q = absurd (let y : held o' at' ≡ past = sym (view_held e o' at' (ltb-true at' e q)) ∙ p.is ∙ put_past e t o at h in let z : ◌≡◌ {A = ℕ} 0 1 = cc in omega arith)
      go false q = ltb-false at' e q

  -- a final position below `e` shows that the text did fit
  pub puts_room : at' < e → at + length t < e
  puts_room h = go (ltb (at + length t) e) refl
    where
      go : (b : Bool) → ltb (at + length t) e ≡ b → at + length t < e
      go true q = ltb-true (at + length t) e q
      go false q = absurd (omega (arith, puts_over (ltb-false (at + length t) e q)))

  -- a text that fits is put: the position, and the buffer
  pub puts_fit : at + length t < e → (at' ≡ at + length t) × (o' ≡ sets o at t)
  puts_fit h = go (ltb at' e) refl
    where
      same : view e o' at' ≡ held (sets o at t) (at + length t)
      same = p.is ∙ put_held e t o at (omega arith) ∙ view_held e (sets o at t) (at + length t) h

      go : (b : Bool) → ltb at' e ≡ b → (at' ≡ at + length t) × (o' ≡ sets o at t)
      go true q = let y : held o' at' ≡ held (sets o at t) (at + length t) = sym (view_held e o' at' (ltb-true at' e q)) ∙ same in ((cc), (cc))
      go false q = absurd (let y : past ≡ held (sets o at t) (at + length t) = sym (view_past e o' at' (ltb-false at' e q)) ∙ same in let z : ◌≡◌ {A = ℕ} 0 1 = cc in omega arith)

  -- where the buffer has room for it, the text stands there whole, and the bytes before and after it are unchanged
  pub puts_written : at + length t < e → at + length t ≤ length o → o' ≡ take at o ++ t ++ drop (at + length t) o
  puts_written h g = (puts_fit h).1 ∙ sets-eq t o at g

  -- and it is as long as before
  pub puts_length : at + length t < e → length o' ≡ length o
  puts_length h = ap length (puts_fit h).1 ∙ length-sets o at t

-- A copying loop: the first i bytes of the text t are stored from `at` on, which makes o₁ of o.
pub record Stores (o : List ℕ) (at : ℕ) (t : List ℕ) (i : ℕ) (o₁ : List ℕ) : Type 0 where
  pub is : o₁ ≡ sets o at (take i t)

pub stores_none : {o : List ℕ} {at : ℕ} {t : List ℕ} → Stores o at t 0 o
stores_none = record { is = refl }

module _ {o : List ℕ} {at : ℕ} {t : List ℕ} {i : ℕ} {o₁ : List ℕ} (p : Stores o at t i o₁) where
  pub stores_length : length o₁ ≡ length o
  stores_length = ap length p.is ∙ length-sets o at (take i t)

  pub stores_more : {x : ℕ} → i < length t → x ≡ get_or t i 0 → Stores o at t (i + 1) (set o₁ (at + i) x)
  stores_more {x} h q = record { is = rw (sets_suc o at i t h, p.is, q) }

  pub stores_all : min (length t) (length o - at) ≤ i → o₁ ≡ sets o at t
  stores_all g = p.is ∙ sets_take o at i t g

-- Runs of spaces.
pub length_spaces : (n : ℕ) → length (spaces n) ≡ n
unfolding spaces
length_spaces n = length-replicate n 32

pub space_at : (n i : ℕ) → i < n → 32 ≡ get_or (spaces n) i 0
unfolding spaces
space_at n i h = sym (get_or-replicate n i 32 0 h)

-- Parts of a text: none past its end, and none of more than it has.
pub part_none : {A : Type 0} (n k : ℕ) (t : List A) → length t ≤ k → take n (drop k t) ≡ []
part_none n k t h = rw (drop_of_length-le t h, take-nil n)

pub part_cut : {A : Type 0} (n m k : ℕ) (t : List A) → length t ≤ k + n → length t ≤ k + m → take n (drop k t) ≡ take m (drop k t)
part_cut n m k t h g = all n h ∙ sym (all m g)
  where
    all : (i : ℕ) → length t ≤ k + i → take i (drop k t) ≡ drop k t
    all i h = take_all i (drop k t) (rw length-drop (omega arith))
