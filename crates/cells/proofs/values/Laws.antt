-- Laws of the words that are written, and of the values. Assumes nothing.
use Prim.Native.Nat.{ℕ, zero, suc, ◌+◌, ◌≤◌, ◌<◌, min}
use mathlib.Core.Path.{◌≡◌, refl, sym, ap, ◌∙◌}
use mathlib.Core.Bool.{Bool, true, false, cond, not, ◌&&◌}
use mathlib.Core.List.{List, [], ◌∷◌, ◌++◌, append-nil, append_assoc}
use mathlib.Core.Option.{Option, some, none}
use native.Mathlib.Omega.{arith}
use native.Mathlib.Numerals.{add-one}
use lib.Dec.{eqb, ltb}
use lib.ListN.{length, take, set, drop, length-append, length-set, length-drop}
use lib.Seq.{take-suc-set, take_all, drop-drop}
use borrow.Author.Tests.{eq-eqb, ne_eqb}
use Rattle.text.specs.Split.{null}
use Rattle.plan.specs.Layout.{◌⊛◌, digits, decimal_from, beyond, number, hex_digit, hex_digits, hex_from}
use Rattle.tokens.specs.Token.{hex_numeral, told}
use Rattle.std.specs.Prelude as code
use Rattle.std.specs.Prelude.{Some, None}
use Rattle.cells.specs.Words.{◌⧺◌, word, Holds, Wrote}
use Rattle.cells.specs.Writes.{Writes}
use Rattle.cells.specs.declared.values.Words.{Words}
use Rattle.cells.specs.Cell.{cell_number}
use Rattle.cells.specs.declared.values.Cell.{Cell}
use Rattle.cells.specs.declared.values.Cell.TheVariants.{Unused, Number, Field, Bit, Function, Threshold}
use Rattle.cells.specs.Value.{cell, wide_words, pad, integer, wide, kind_word}

-- words after words

holds_then : (old mid new : List ℕ) (p q r : code.Option ℕ) (a b : Option (List ℕ)) → length mid ≡ length old
    → Holds old p a q mid → Holds mid q b r new → Holds old p (a ⧺ b) r new
unfolding Holds ◌⧺◌
holds_then old mid new None q r a b s f g = from_no q f g where
  from_no : (q : code.Option ℕ) → q ≡ None → Holds mid q b r new → r ≡ None
  from_no None f g = g
  from_no (Some k) f g = let z : ◌≡◌ {A = ℕ} 0 1 = cc in absurd (omega arith)
holds_then old mid new (Some k) q r none b s f g = from_no q f g where
  from_no : (q : code.Option ℕ) → q ≡ None → Holds mid q b r new → r ≡ None
  from_no None f g = g
  from_no (Some k) f g = let z : ◌≡◌ {A = ℕ} 0 1 = cc in absurd (omega arith)
holds_then old mid new (Some k) None r (some ws) none s f g = g
holds_then old mid new (Some k) (Some j) r (some ws) none s f g = g
holds_then old mid new (Some k) None r (some ws) (some vs) s f g =
    λ room. let z : ◌≡◌ {A = ℕ} 0 1 = cc (f (omega (arith, simp length-append at room))).0 in absurd (omega arith)
holds_then old mid new (Some k) (Some j) r (some ws) (some vs) s f g =
    λ room.
    let n : k + (length ws + length vs) ≤ length old = simp length-append at room in
    let h = f (omega arith) in
    let e : j ≡ k + length ws = cc h.0 in
    let m = g (omega arith) in
    let d : k + length (ws ++ vs) ≡ j + length vs = rw length-append (omega arith) in
    (m.0 ∙ ap Some (sym d), rw d (m.1 ∙ rw (e, h.1, append_assoc)))

wrote_then : {old mid new : List ℕ} {p q r : code.Option ℕ} {a b : Option (List ℕ)} → Wrote old p a q mid → Wrote mid q b r new → Wrote old p (a ⧺ b) r new
wrote_then f g = record { size = g.size ∙ f.size; holds = holds_then _ _ _ _ _ _ _ _ f.size f.holds g.holds }

-- no words
pub writes_none : {x : Words} {w : Option (List ℕ)} → w ≡ none → Writes w x None x
unfolding Holds
writes_none {x} {w} e = rw e (record { buffer = refl; wrote = record { size = refl; holds = refl } })

pub writes_nothing : {x : Words} {u : Unit} → Writes (some []) x (Some u) x
unfolding Holds
writes_nothing {x} = record { buffer = refl; wrote = record { size = refl; holds = λ room. let z : x.at + 0 ≡ x.at = omega arith in rw (z, append-nil) (refl, refl) } }

pub writes_full : {x : Words} {n : ℕ} → length x.out.now ≤ x.at → Writes (some (n ∷ [])) x None x
unfolding Holds
writes_full h = record { buffer = refl; wrote = record { size = refl; holds = λ room. absurd (omega arith) } }

pub writes_word : {x x' : Words} {n : ℕ} {u : Unit} → x.at < length x.out.now → x'.out.ghost_name ≡ x.out.ghost_name → x'.out.now ≡ set x.out.now x.at n
    → x'.at ≡ x.at + 1 → Writes (some (n ∷ [])) x (Some u) x'
unfolding Holds
writes_word {x} {x'} {n} h g s e =
    record { buffer = g; wrote = record { size = ap length s ∙ length-set x.out.now x.at n; holds = λ room. rw (e, s) (refl, rw (add-one, take-suc-set)) } }

-- one writer after another, and one that stops before another
pub writes_then : {a b : Option (List ℕ)} {x y z : Words} {u : Unit} {r : code.Option Unit} → Writes a x (Some u) y → Writes b y r z → Writes (a ⧺ b) x r z
writes_then p q = record { buffer = q.buffer ∙ p.buffer; wrote = wrote_then p.wrote q.wrote }

infixr 24 ◌⟫◌
pub ◌⟫◌ : {a b : Option (List ℕ)} {x y z : Words} {u : Unit} {r : code.Option Unit} → Writes a x (Some u) y → Writes b y r z → Writes (a ⧺ b) x r z
p ⟫ q = writes_then p q

pub writes_stop : {a : Option (List ℕ)} (b : Option (List ℕ)) {x y : Words} {r : code.Option Unit} → r ≡ None → Writes a x None y → Writes (a ⧺ b) x r y
unfolding Holds
writes_stop b e p = rw e (record { buffer = p.buffer; wrote = wrote_then p.wrote (record { size = refl; holds = refl }) })

-- a number that the code read
pub word_none : (o : Option ℕ) → None ≡ told o → word o ≡ none
unfolding told word
word_none none e = refl
word_none (some v) e = let z : ◌≡◌ {A = ℕ} 0 1 = cc in absurd (omega arith)

pub word_some : (o : Option ℕ) (v : ℕ) → Some v ≡ told o → word o ≡ some (v ∷ [])
unfolding told word
word_some none v e = let z : ◌≡◌ {A = ℕ} 0 1 = cc in absurd (omega arith)
word_some (some u) v e = ap (λ (n : ℕ). some (n ∷ [])) (cc)

-- the number of a kind that was read by its name
pub kind_read : (n k m : ℕ) → Some m ≡ told (kind_word n k) → (k ≡ m) × (word (kind_word n m) ≡ some (m ∷ []))
unfolding told kind_word word
kind_read n k m e = by_test (ltb k n) refl e where
  by_test : (t : Bool) → ltb k n ≡ t → Some m ≡ told (cond t (some k) none) → (k ≡ m) × (word (cond (ltb m n) (some m) none) ≡ some (m ∷ []))
  by_test true q e = let z : k ≡ m = cc in (z, rw (← z, q))
  by_test false q e = let z : ◌≡◌ {A = ℕ} 0 1 = cc in absurd (omega arith)

pub told_none : (o : Option ℕ) → None ≡ told o → o ≡ none
unfolding told
told_none none e = refl
told_none (some v) e = let z : ◌≡◌ {A = ℕ} 0 1 = cc in absurd (omega arith)

pub told_some : (o : Option ℕ) (v : ℕ) → Some v ≡ told o → o ≡ some v
unfolding told
told_some none v e = let z : ◌≡◌ {A = ℕ} 0 1 = cc in absurd (omega arith)
told_some (some u) v e = ap some (cc)

pub number_small : (s : List ℕ) (v : ℕ) → number s ≡ some v → v ≤ beyond
unfolding number
number_small [] v e = let z : ◌≡◌ {A = ℕ} 0 1 = cc in absurd (omega arith)
number_small (c ∷ s) v e = by_test (digits (c ∷ s) && not (eqb c 48 && not (null s))) (decimal_from 0 (c ∷ s)) e where
  by_test : (b : Bool) (n : ℕ) → cond b (some (min beyond n)) none ≡ some v → v ≤ beyond
  by_test true n e = let z : min beyond n ≡ v = cc in omega arith
  by_test false n e = let z : ◌≡◌ {A = ℕ} 0 1 = cc in absurd (omega arith)

-- hexadecimal digits of two texts, one after the other

pub hex_append : (s t : List ℕ) → hex_digits (s ++ t) ≡ (hex_digits s && hex_digits t)
unfolding hex_digits
hex_append [] t = refl
hex_append (c ∷ s) t = rw (hex_append s t) (and_group (hex_digit c) (hex_digits s) (hex_digits t)) where
  and_group : (a b d : Bool) → (a && (b && d)) ≡ ((a && b) && d)
  and_group true b d = refl
  and_group false b d = refl

-- eight digits at a place
abbrev pub eight : List ℕ → ℕ → List ℕ
eight t i = take 8 (drop i t)

split_at : (n : ℕ) (t : List ℕ) → take n t ++ drop n t ≡ t
split_at zero t = refl
split_at (suc n) [] = refl
split_at (suc n) (c ∷ t) = ap (λ (l : List ℕ). c ∷ l) (split_at n t)

pub in_eights : (t : List ℕ) → length t ≡ 32 → t ≡ eight t 0 ++ (eight t 8 ++ (eight t 16 ++ eight t 24))
in_eights t h =
    let a : drop 24 t ≡ eight t 24 = sym (take_all 8 (drop 24 t) (rw length-drop (omega arith))) in
    let b : drop 16 t ≡ eight t 16 ++ drop 24 t = sym (split_at 8 (drop 16 t)) ∙ rw drop-drop in
    let d : drop 8 t ≡ eight t 8 ++ drop 16 t = sym (split_at 8 (drop 8 t)) ∙ rw drop-drop in
    sym (split_at 8 t) ∙ ap (λ (l : List ℕ). take 8 t ++ l) (d ∙ ap (λ (l : List ℕ). eight t 8 ++ l) (b ∙ ap (λ (l : List ℕ). eight t 16 ++ l) a))

-- an integer's value, read eight digits at a time
pub integer_words : (t : List ℕ) → length t ≡ 32
    → word (hex_numeral 0 (eight t 24)) ⧺ (word (hex_numeral 0 (eight t 16)) ⧺ (word (hex_numeral 0 (eight t 8)) ⧺ word (hex_numeral 0 (eight t 0))))
    ≡ some wide_words ⊛ integer t
unfolding integer hex_numeral word ◌⧺◌ ◌⊛◌
integer_words t h =
    let e : hex_digits t ≡ (hex_digits (eight t 0) && (hex_digits (eight t 8) && (hex_digits (eight t 16) && hex_digits (eight t 24)))) =
    ap hex_digits (in_eights t h) ∙ simp hex_append in
    rw (eq-eqb _ _ h, e) (by_tests (hex_digits (eight t 0)) (hex_digits (eight t 8)) (hex_digits (eight t 16)) (hex_digits (eight t 24))
    (hex_from 0 (eight t 0)) (hex_from 0 (eight t 8)) (hex_from 0 (eight t 16)) (hex_from 0 (eight t 24))) where
      by_tests : (a b c d : Bool) (w x y z : ℕ)
          → word (cond d (some z) none) ⧺ (word (cond c (some y) none) ⧺ (word (cond b (some x) none) ⧺ word (cond a (some w) none)))
          ≡ some wide_words ⊛ cond (a && (b && (c && d))) (some (record { low = z; v1 = y; v2 = x; v3 = w })) none
      by_tests true true true true w x y z = refl
      by_tests true true true false w x y z = refl
      by_tests true true false true w x y z = refl
      by_tests true true false false w x y z = refl
      by_tests true false true true w x y z = refl
      by_tests true false true false w x y z = refl
      by_tests true false false true w x y z = refl
      by_tests true false false false w x y z = refl
      by_tests false true true true w x y z = refl
      by_tests false true true false w x y z = refl
      by_tests false true false true w x y z = refl
      by_tests false true false false w x y z = refl
      by_tests false false true true w x y z = refl
      by_tests false false true false w x y z = refl
      by_tests false false false true w x y z = refl
      by_tests false false false false w x y z = refl

-- a value that is not an integer's
wide_other : (sort : ℕ) (t : List ℕ) → (sort ≡ 6 → ⊥) → word (cell sort t) ⧺ (some (0 ∷ []) ⧺ (some (0 ∷ []) ⧺ some (0 ∷ []))) ≡ some wide_words ⊛ wide sort t
unfolding wide word ◌⧺◌ ◌⊛◌
wide_other sort t h = rw (ne_eqb _ _ h) (by_cell (cell sort t)) where
  by_cell : (o : Option ℕ) → word o ⧺ (some (0 ∷ []) ⧺ (some (0 ∷ []) ⧺ some (0 ∷ []))) ≡ some wide_words ⊛ (some pad ⊛ o)
  by_cell none = refl
  by_cell (some n) = refl

pub narrow_words : (s : Cell) (t : List ℕ) → word (cell (cell_number s) t) ⧺ (some (0 ∷ []) ⧺ (some (0 ∷ []) ⧺ some (0 ∷ []))) ≡ some wide_words ⊛ wide (cell_number s) t
narrow_words s t = wide_other (cell_number s) t (λ q. omega (arith, below s)) where
  below : (s : Cell) → cell_number s < 6
  below Unused = omega arith
  below Number = omega arith
  below Field = omega arith
  below Bit = omega arith
  below Function = omega arith
  below Threshold = omega arith
