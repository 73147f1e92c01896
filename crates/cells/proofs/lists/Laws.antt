-- Laws of the lists' definitions. Assumes nothing.
use Prim.Native.Nat.{ℕ, ◌+◌, ◌-◌, ◌≤◌, ◌<◌}
use mathlib.Core.Path.{◌≡◌, refl, sym, ap, ◌∙◌}
use mathlib.Core.Bool.{Bool, true, false}
use mathlib.Core.List.{List, [], ◌∷◌, append-nil}
use mathlib.Core.Option.{Option, some, none}
use native.Mathlib.Omega.{arith}
use lib.Dec.{eqb, leb}
use lib.ListN.{length, take, drop, get_or}
use borrow.Author.Tests.{eq-eqb, ne_eqb, leb-true, leb-false}
use Rattle.text.specs.Split.{split, same}
use Rattle.plan.specs.Layout.{◌⊛◌, number, field, pattern_binding}
use Rattle.tokens.specs.Token.{until}
use Rattle.tokens.proofs.Laws.{split_more, split_last, parts_some}
use Rattle.std.specs.Prelude as code
use Rattle.std.specs.Option.{is_some, IfSome, IfNone}
use Rattle.cells.specs.Words.{◌⧺◌, word}
use Rattle.cells.specs.Writes.{Writes}
use Rattle.cells.specs.declared.values.Words.{Words}
use Rattle.cells.proofs.values.Laws.{writes_stop}
use Rattle.cells.specs.Items.{unbound, pattern_word, field_words, item, items}

pub field_two : (t : List ℕ) (n : ℕ) → n + 1 ≡ length (split (eqb 58) t) → n ≡ 1
    → word (number (get_or (split (eqb 58) t) 0 [])) ⧺ word (number (get_or (split (eqb 58) t) 1 [])) ≡ some field_words ⊛ field t
unfolding field word ◌⧺◌ ◌⊛◌
field_two t n e h = rw (eq-eqb (length (split (eqb 58) t)) 2 (omega arith)) (by_numbers (number (get_or (split (eqb 58) t) 0 [])) (number (get_or (split (eqb 58) t) 1 []))) where
  by_numbers : (a b : Option ℕ) → word a ⧺ word b ≡ some field_words ⊛ (some (λ n t. record { name = n; ty = t }) ⊛ a ⊛ b)
  by_numbers none b = refl
  by_numbers (some a) none = refl
  by_numbers (some a) (some b) = refl

pub field_other : (t : List ℕ) (n : ℕ) → n + 1 ≡ length (split (eqb 58) t) → (n ≡ 1 → ⊥) → some field_words ⊛ field t ≡ none
unfolding field ◌⊛◌
field_other t n e h = rw (ne_eqb (length (split (eqb 58) t)) 2 (λ q. h (omega arith)))

-- what is known of an answer that is there, and of one that is not
pub some_found : (o : code.Option ℕ) (P : ℕ → Type 0) → true ≡ is_some o → IfSome o P → (i : ℕ) × P i
some_found code.None P e h = let z : ◌≡◌ {A = ℕ} 0 1 = cc in absurd (omega arith)
some_found (code.Some i) P e h = (i, h)

pub none_found : (o : code.Option ℕ) (Q : Type 0) → false ≡ is_some o → IfNone o Q → Q
none_found code.None Q e h = h
none_found (code.Some i) Q e h = let z : ◌≡◌ {A = ℕ} 0 1 = cc in absurd (omega arith)

-- a field by the colon at e, the first one, and the one at f after it
module _ (t : List ℕ) (e : ℕ) (here : e ≡ 0 + until 58 t) where
  pub field_none : e ≡ length t → some field_words ⊛ field t ≡ none
  field_none h = field_other t 0 (sym (ap length (split_last 58 t 0 e here h))) (λ q. omega arith)

  module _ (f : ℕ) (more : e < length t) (next : f ≡ e + 1 + until 58 (drop (e + 1) t)) where
    pub field_more : f < length t → some field_words ⊛ field t ≡ none
    field_more h =
        let d = split_more 58 t 0 e here more ∙ ap (λ (l : List (List ℕ)). take (e - 0) t ∷ l) (split_more 58 t (e + 1) f next h) in
        field_other t (length (split (eqb 58) t) - 1) (omega (arith, ap length d)) (λ q. omega (arith, ap length d, parts_some (eqb 58) (drop (f + 1) t)))

    pub field_at : f ≡ length t → word (number (take e t)) ⧺ word (number (take (length t - (e + 1)) (drop (e + 1) t))) ≡ some field_words ⊛ field t
    field_at h =
        let d : split (eqb 58) t ≡ take (e - 0) t ∷ take (length t - (e + 1)) (drop (e + 1) t) ∷ [] =
        split_more 58 t 0 e here more ∙ ap (λ (l : List (List ℕ)). take (e - 0) t ∷ l) (split_last 58 t (e + 1) (length t) (sym h ∙ next) refl) in
        let z : e - 0 ≡ e = omega arith in
        rw z at (rw d at (field_two t 1 (sym (ap length d)) refl))

-- the items from i on, by the item up to the comma at e
words_nil : (w : Option (List ℕ)) → w ⧺ some [] ≡ w
unfolding ◌⧺◌
words_nil none = refl
words_nil (some w) = ap some (append-nil w)

module _ (sort : ℕ) (s : List ℕ) (i e : ℕ) (here : e ≡ i + until 44 (drop i s)) where
  pub items_last : e ≡ length s → items sort (split (eqb 44) (drop i s)) ≡ item sort (take (e - i) (drop i s))
  unfolding items
  items_last h = rw (split_last 44 s i e here h) (words_nil _)

  pub items_more : e < length s → items sort (split (eqb 44) (drop i s)) ≡ item sort (take (e - i) (drop i s)) ⧺ items sort (split (eqb 44) (drop (e + 1) s))
  unfolding items
  items_more h = rw (split_more 44 s i e here h)

  -- an item that cannot be written stops the list
  pub items_stop : e ≤ length s → {x y : Words} {r : code.Option Unit} → r ≡ code.None → Writes (item sort (take (e - i) (drop i s))) x code.None y
      → Writes (items sort (split (eqb 44) (drop i s))) x r y
  items_stop l {x} {y} {r} n w = by_test (leb (length s) e) refl where
    by_test : (t : Bool) → leb (length s) e ≡ t → Writes (items sort (split (eqb 44) (drop i s))) x r y
    by_test true g = rw (n, items_last (omega (arith, leb-true (length s) e g))) w
    by_test false g = rw (items_more (leb-false (length s) e g)) (writes_stop _ n w)

pub items_none : (s : List ℕ) → items 0 (split (eqb 44) s) ≡ none
unfolding items item ◌⧺◌
items_none s = by_parts (split (eqb 44) s) (parts_some (eqb 44) s) where
  by_parts : (ps : List (List ℕ)) → 0 < length ps → items 0 ps ≡ none
  by_parts [] h = absurd (omega arith)
  by_parts (p ∷ ps) h = refl

pub pattern_unbound : (t : List ℕ) → same t (95 ∷ []) ≡ true → some pattern_word ⊛ pattern_binding t ≡ some unbound
unfolding pattern_binding ◌⊛◌
pattern_unbound t h = rw h

pub pattern_number : (t : List ℕ) → same t (95 ∷ []) ≡ false → some pattern_word ⊛ pattern_binding t ≡ number t
unfolding pattern_binding ◌⊛◌
pattern_number t h = rw h (by_number (number t)) where
  by_number : (o : Option ℕ) → some pattern_word ⊛ (some some ⊛ o) ≡ o
  by_number none = refl
  by_number (some n) = refl
