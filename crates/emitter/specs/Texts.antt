-- A text with its count, put into a buffer from its start: what fits is there, and what doesn't fit is seen not to. Assumes nothing.
use Rattle.std.specs.Prelude.{ℕ, ◌+◌, ◌≤◌, ◌<◌, Bool, List, [], ◌++◌, drop, leb, Option}
use Rattle.std.specs.Bool.{then_some}
use Rattle.std.proofs.Math.Path.{◌≡◌, refl, sym, ap}
use Rattle.std.proofs.Common.{◌∙◌, append-nil, arith, zero-add, add-zero, add_assoc, length-append}
use Rattle.std.proofs.Math.Bool.{true, false}
use Rattle.std.proofs.Math.Dec.{ltb}
use borrow.Author.Tests.{ltb-true, ltb-false}
use Rattle.std.proofs.Math.ListN.{length}
use Rattle.std.proofs.lemmas.List.Edits.{sets, sets-eq}
use Rattle.text.specs.Sink.{Puts}
use Rattle.text.specs.SinkLaws.{sets_append, puts_fit, puts_over}
use Rattle.codegen.specs.Block.{Part, text_of, odds_of}
use Rattle.plan.specs.Plan.{Environment}
use Rattle.emits.specs.Place.{Place, over, here, place, place_here, place_over, count_over, place_cases}
use Rattle.emits.specs.Rows.{PartsEmit, run_parts}
use Rattle.text.specs.declared.sink.Sink.{Sink}
use Rattle.body.specs.Walks.{WritesParts}
use Rattle.emitter.specs.declared.Text.{Text}

-- a text of which k literals are odd
unfoldable pub run_text : ℕ → List ℕ → ℕ → Place (Unit {0}) → Place (Unit {0})
run_text e t k over = over
run_text e t k (here o at n s) = place e (sets o at t) (at + length t) (n + k) (tt {0})

pub record Texts (e : ℕ) (t : List ℕ) (k : ℕ) (o : List ℕ) (at n : ℕ) (o' : List ℕ) (at' n' : ℕ) : Type 0 where
  pub is : place {S = Unit {0}} e o' at' n' (tt {0}) ≡ run_text e t k (place e o at n (tt {0}))

texts_parts : {e : ℕ} {env : Environment} {ps : List Part} {o : List ℕ} {at n : ℕ} {o' : List ℕ} {at' n' : ℕ} → PartsEmit {S = Unit {0}} e env ps o at n (tt {0}) o' at' n' (tt {0}) → Texts e (text_of env ps) (odds_of ps) o at n o' at' n'
unfolding run_parts run_text
texts_parts {e} {env} {ps} {o} {at} {n} p = record { is = p.is ∙ place_cases (λ x. run_parts e env ps (tt {0}) x ≡ run_text e (text_of env ps) (odds_of ps) x) e o at n (tt {0}) (λ h g. refl) (λ h. refl) (λ h. refl) }

-- bytes put before a text that has the literals
pub puts_texts : {e : ℕ} {s t : List ℕ} {k : ℕ} {o : List ℕ} {o₁ : List ℕ} {at₁ : ℕ} {o' : List ℕ} {at' n' : ℕ} → Puts e s o 0 o₁ at₁ → Texts e t k o₁ at₁ 0 o' at' n' → Texts e (s ++ t) k o 0 0 o' at' n'
unfolding run_text
puts_texts {e} {s} {t} {k} {o} {o₁} {at₁} {o'} {at'} {n'} p q = record { is = q.is ∙ go (ltb (length s) e) refl }
  where
    go : (b : Bool) → ltb (length s) e ≡ b → run_text e t k (place e o₁ at₁ 0 (tt {0})) ≡ run_text e (s ++ t) k (place e o 0 0 (tt {0}))
    go true h =
        let f : length s < e = ltb-true (length s) e h in
        let z : 0 + length s ≡ length s = zero-add (length s) in
        let w : (at₁ ≡ 0 + length s) × (o₁ ≡ sets o 0 s) = puts_fit p (rw z f) in
        rw (w.0, w.1, place_here e (sets o 0 s) (0 + length s) 0 (tt {0}) (omega arith) (omega arith), place_here e o 0 0 (tt {0}) (omega arith) (omega arith), sets_append, length-append, add_assoc)
    go false h =
        let f : e ≤ length s = ltb-false (length s) e h in
        let z : 0 + length s ≡ length s = zero-add (length s) in
        rw (place_over e o₁ at₁ 0 (tt {0}) (puts_over p (rw z f)))
        (place_cases (λ x. over ≡ run_text e (s ++ t) k x) e o 0 0 (tt {0})
        (λ g g'. sym (place_over e _ _ _ _ (rw length-append (omega arith))))
        (λ g. refl) (λ g. refl))

texts_nil : {e : ℕ} {o : List ℕ} {at : ℕ} → Texts e [] 0 o at 0 o at 0
unfolding run_text
texts_nil {e} {o} {at} = record { is = place_cases (λ x. place e o at 0 (tt {0}) ≡ run_text e [] 0 x) e o at 0 (tt {0}) (λ h g. rw (add-zero at) refl) (λ h. place_over e o at 0 (tt {0}) h) (λ h. count_over e o at 0 (tt {0}) h) }

-- bytes without literals
pub texts_puts : {e : ℕ} {s o : List ℕ} {o' : List ℕ} {at' : ℕ} → Puts e s o 0 o' at' → Texts e s 0 o 0 0 o' at' 0
texts_puts {e} {s} p = let z : s ++ [] ≡ s = append-nil s in rw z at (puts_texts p texts_nil)

-- WHAT A TEXT FROM THE START LEADS TO

module _ {e : ℕ} {t : List ℕ} {k : ℕ} {o : List ℕ} {o' : List ℕ} {at' n' : ℕ} (p : Texts e t k o 0 0 o' at' n') (le : k ≤ length t) where
  -- a position and a count below e show that the text fits
  pub texts_room : at' < e → n' < e → length t < e
  unfolding run_text
  texts_room h g = go (ltb (length t) e) refl
    where
      go : (b : Bool) → ltb (length t) e ≡ b → length t < e
      go true q = ltb-true (length t) e q
      go false q = absurd (
          let f : e ≤ length t = ltb-false (length t) e q in
          let y : here o' at' n' (tt {0}) ≡ over = sym (place_here e o' at' n' (tt {0}) h g) ∙ p.is ∙ place_cases (λ x. run_text e t k x ≡ over) e o 0 0 (tt {0}) (λ a b. place_over e _ _ _ _ (omega arith)) (λ a. refl) (λ a. refl) in
          let z : ◌≡◌ {A = ℕ} 0 1 = cc in omega arith)

  -- a text that fits is put, and its count is true
  pub texts_fit : length t < e → (at' ≡ length t) × (n' ≡ k) × (o' ≡ sets o 0 t)
  unfolding run_text
  texts_fit h = read (ltb at' e) (ltb n' e) refl refl
    where
      same : place e o' at' n' (tt {0}) ≡ here (sets o 0 t) (0 + length t) (0 + k) (tt {0})
      same = p.is ∙ ap (run_text e t k) (place_here e o 0 0 (tt {0}) (omega arith) (omega arith)) ∙ place_here e _ _ _ _ (omega arith) (omega arith)

      read : (a b : Bool) → ltb at' e ≡ a → ltb n' e ≡ b → (at' ≡ length t) × (n' ≡ k) × (o' ≡ sets o 0 t)
      read true true a b =
          let y : here o' at' n' (tt {0}) ≡ here (sets o 0 t) (0 + length t) (0 + k) (tt {0}) = sym (place_here e o' at' n' (tt {0}) (ltb-true at' e a) (ltb-true n' e b)) ∙ same in
          let q : at' ≡ 0 + length t = cc in let r : n' ≡ 0 + k = cc in (omega arith, omega arith, cc)
      read false b a q = absurd (let y : over ≡ here (sets o 0 t) (0 + length t) (0 + k) (tt {0}) = sym (place_over e o' at' n' (tt {0}) (ltb-false at' e a)) ∙ same in let z : ◌≡◌ {A = ℕ} 0 1 = cc in omega arith)
      read true false a b = absurd (let y : over ≡ here (sets o 0 t) (0 + length t) (0 + k) (tt {0}) = sym (count_over e o' at' n' (tt {0}) (ltb-false n' e b)) ∙ same in let z : ◌≡◌ {A = ℕ} 0 1 = cc in omega arith)

  -- where the buffer has room for it, the text stands there, and the bytes after it are unchanged
  pub texts_written : length t < e → length t ≤ length o → o' ≡ t ++ drop (length t) o
  texts_written h g = (texts_fit h).2 ∙ (let z : 0 + length t ≡ length t = zero-add (length t) in rw z at (sets-eq t o 0 (omega arith)))

-- OF A SINK

-- nothing is put yet
pub record Starts (w : Sink) : Type 0 where
  pub at : w.at ≡ 0
  pub odd : w.odd ≡ 0

-- the text t, of which k literals are odd; the lent buffer and the room are the same
pub record WritesText (t : List ℕ) (k : ℕ) (w w' : Sink) : Type 0 where
  pub buffer : w'.out.ghost_name ≡ w.out.ghost_name
  pub size : length w'.out.now ≡ length w.out.now
  pub end : w'.end ≡ w.end
  pub texts : Texts w.end t k w.out.now w.at w.odd w'.out.now w'.at w'.odd

-- parts are their text
pub parts_written : {env : Environment} {ps : List Part} {w w' : Sink} → WritesParts env ps w w' → WritesText (text_of env ps) (odds_of ps) w w'
parts_written x = record { buffer = x.buffer; size = x.size; end = x.end; texts = texts_parts x.parts }

-- a text that was put from a buffer's start: its length and count, where it fits the room, and then, where it fits the buffer too, it stands there
pub record Measured (t : List ℕ) (k room : ℕ) (o o' : List ℕ) (r : Option Text) : Type 0 where
  pub result : r ≡ then_some (leb (length t) room) (record { length = length t; count = k })
  pub bytes : length t ≤ room → length t ≤ length o → o' ≡ t ++ drop (length t) o
