-- Where a writer stands: a buffer, a position, a count of odd literals and the marks of references, as one value.
-- Past the room nothing is known of any of them. Assumes nothing.
use Rattle.std.specs.Prelude.{◌≡◌, Bool, ◌&&◌, List, ℕ, ◌≤◌, ◌<◌}
use Rattle.std.proofs.Math.Path.{refl}
use Rattle.std.proofs.Math.Bool.{true, false, cond}
use Rattle.std.proofs.Math.Dec.{ltb}
use borrow.Author.Tests.{lt-ltb, le-ltb, ltb-true, ltb-false}
use Rattle.text.specs.Sink.{Sink, past, held, view}
use Rattle.text.specs.SinkLaws.{view_held, view_past}

-- `S` is what else changes on the way
pub data Place (S : Type 0) : Type 0 where
  over : Place S
  here : List ℕ → ℕ → ℕ → S → Place S

module _ {S : Type 0} where
  -- what a buffer, a position, a count and a state stand for; e is one more than the room. A text that fits has fewer odd literals
  -- than bytes, so a count that is not below e is past the room too.
  unfoldable pub place : ℕ → List ℕ → ℕ → ℕ → S → Place S
  place e o at n s = cond (ltb at e && ltb n e) (here o at n s) over

  pub place_here : (e : ℕ) (o : List ℕ) (at n : ℕ) (s : S) → at < e → n < e → place e o at n s ≡ here o at n s
  unfolding place
  place_here e o at n s h g = rw (lt-ltb at e h, lt-ltb n e g)

  pub place_over : (e : ℕ) (o : List ℕ) (at n : ℕ) (s : S) → e ≤ at → place e o at n s ≡ over
  unfolding place
  place_over e o at n s h = rw (le-ltb at e h)

  pub count_over : (e : ℕ) (o : List ℕ) (at n : ℕ) (s : S) → e ≤ n → place e o at n s ≡ over
  unfolding place
  count_over e o at n s h = go (ltb at e) (ltb n e) (le-ltb n e h)
    where
      go : (a b : Bool) → b ≡ false → cond (a && b) (here o at n s) over ≡ over
      go true true q = cc
      go true false q = refl
      go false b q = refl

  -- the cases of a place
  pub place_cases : (P : Place S → Type 0) (e : ℕ) (o : List ℕ) (at n : ℕ) (s : S) → (at < e → n < e → P (here o at n s)) → (e ≤ at → P over) → (e ≤ n → P over) → P (place e o at n s)
  place_cases P e o at n s f g k = go (ltb at e) (ltb n e) refl refl
    where
      go : (a b : Bool) → ltb at e ≡ a → ltb n e ≡ b → P (place e o at n s)
      go true true p q = rw (place_here e o at n s (ltb-true at e p) (ltb-true n e q)) (f (ltb-true at e p) (ltb-true n e q))
      go false b p q = rw (place_over e o at n s (ltb-false at e p)) (g (ltb-false at e p))
      go true false p q = rw (count_over e o at n s (ltb-false n e q)) (k (ltb-false n e q))

  -- a sink with a count and a state
  unfoldable pub with_sink : ℕ → ℕ → S → Sink → Place S
  with_sink e n s past = over
  with_sink e n s (held o at) = place e o at n s

  pub place_sink : (e n : ℕ) (s : S) (o : List ℕ) (at : ℕ) → place e o at n s ≡ with_sink e n s (view e o at)
  unfolding with_sink
  place_sink e n s o at = go (ltb at e) refl
    where
      go : (a : Bool) → ltb at e ≡ a → place e o at n s ≡ with_sink e n s (view e o at)
      go true q = rw (view_held e o at (ltb-true at e q))
      go false q = rw (view_past e o at (ltb-false at e q)) (place_over e o at n s (ltb-false at e q))
