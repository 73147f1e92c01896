-- Patterns from a word of a row on, one by one. Assumes nothing.
use Rattle.std.specs.Prelude.{Some, None, slice_get, ◌≡◌, refl, Bool, true, false, cond, ◌||◌, List, [], ◌∷◌, ◌++◌, ℕ, suc, ◌+◌, ◌≤◌, ◌<◌, length, drop}
use Rattle.std.specs.List.{list_any}
use Rattle.std.proofs.Common.{arith}
use Rattle.std.proofs.lemmas.Option.{same_Some}
use Rattle.std.proofs.Math.Option.{Option, some, none}
use Rattle.text.specs.Codes.{codes}
use Rattle.text.specs.Writes.{Writes}
use Rattle.text.specs.declared.sink.Sink.{Sink}
use Rattle.plan.specs.Plan.{Fields, Environment}
use Rattle.rows.specs.View.{nth, pattern_of, patterns_in}
use Rattle.codegen.specs.Piece.{fix, unbrace, break, odd_piece, odd_pieces}
use Rattle.codegen.specs.Writer.{Marks, Writer, contains, insert, said, mark, ask, ◌▸◌, nothing}
use Rattle.codegen.specs.Sema.{is_ref, field_type}
use Rattle.codegen.specs.Pattern.{skipped_some, field_patterns, emit_fields}
use Rattle.emits.specs.Sinks.{Shows, shows_none, shows_brace}
use Rattle.emits.specs.Runs.{Emits, Rest, ◌⟫◌, emits_say, emits_mark, emits_ask, rest_more}
use Rattle.expr_parts.specs.EmitsLaws.{rest_same}
use Rattle.expr_parts.proofs.Laws.{emits_nothing}
use Rattle.row_frames.specs.Patterns.{patterns_cons, patterns_end}

-- `_`

pub any_skipped : (ws : List ℕ) → list_any (λ b. skipped_some (pattern_of b ∷ [])) ws ≡ skipped_some (patterns_in ws)
unfolding skipped_some patterns_in
any_skipped [] = refl
any_skipped (b ∷ ws) = by (pattern_of b) (any_skipped ws)
  where
    by : (p : Option ℕ) → list_any (λ y. skipped_some (pattern_of y ∷ [])) ws ≡ skipped_some (patterns_in ws) → (skipped_some (p ∷ []) || list_any (λ y. skipped_some (pattern_of y ∷ [])) ws) ≡ skipped_some (p ∷ patterns_in ws)
    by none h = refl
    by (some b) h = h

-- FIELDS

field_cons : (e : Environment) (f : Fields) (i : ℕ) (p : Option ℕ) (ps : List (Option ℕ)) (q : Marks) → said (field_patterns e f i (p ∷ []) ▸ field_patterns e f (suc i) ps) q ≡ said (field_patterns e f i (p ∷ ps)) q
unfolding field_patterns said
field_cons e f i none ps q = refl
field_cons e f i (some b) ps q = go (is_ref e (field_type f i)) refl
  where
    go : (t : Bool) → is_ref e (field_type f i) ≡ t → said (field_patterns e f i (some b ∷ []) ▸ field_patterns e f (suc i) ps) q ≡ said (field_patterns e f i (some b ∷ ps)) q
    go true h = rw h
    go false h = rw h

-- the field of word i of a list, then those after it
field_word : (e : Environment) (f : Fields) (ws : List ℕ) (i : ℕ) (q : Marks) → i < length ws
    → said (field_patterns e f i (pattern_of (nth ws i) ∷ []) ▸ field_patterns e f (i + 1) (patterns_in (drop (i + 1) ws))) q ≡ said (field_patterns e f i (patterns_in (drop i ws))) q
field_word e f ws i q h =
    let z : i + 1 ≡ suc i = omega arith in
    rw (patterns_cons ws i h, z) (field_cons e f i (pattern_of (nth ws i)) (patterns_in (drop (suc i) ws)) q)

module _ {env : Environment} {d : ℕ} {w : Sink} {r : Marks} where
  -- a turn of the loop over the fields, and its end
  pub field_turn : {v₀ : Writer} {w₀ : Sink} {r₀ : Marks} {w₁ : Sink} {r₁ : Marks} (f : Fields) (ws : List ℕ) (i : ℕ) → i < length ws
      → Rest env d v₀ w₀ r₀ (field_patterns env f i (patterns_in (drop i ws))) w r → Emits env d (field_patterns env f i (pattern_of (nth ws i) ∷ [])) w r w₁ r₁
      → Rest env d v₀ w₀ r₀ (field_patterns env f (i + 1) (patterns_in (drop (i + 1) ws))) w₁ r₁
  field_turn f ws i h x p = rest_more (rest_same (field_word env f ws i r h) x) p

  pub field_end : (f : Fields) (i : ℕ) (ws : List ℕ) (k : ℕ) → length ws ≤ k → Emits env d (field_patterns env f i (patterns_in (drop k ws))) w r w r
  unfolding field_patterns
  field_end f i ws k h = rw (patterns_end ws k h) emits_nothing

  -- no pattern at all
  pub emits_no_fields : (f : Fields) (ws : List ℕ) → length ws ≡ 0 → Emits env d (emit_fields env f (patterns_in ws)) w r w r
  unfolding emit_fields patterns_in
  emits_no_fields f [] h = emits_nothing
  emits_no_fields f (x ∷ ws) h = absurd (omega arith)

odd_last : (v : Bool) → odd_pieces (cond v (break 1 ∷ fix ".." refl ∷ []) [] ++ (break 0 ∷ unbrace ∷ [])) ≡ 0
unfolding odd_pieces odd_piece
odd_last true = refl
odd_last false = refl

-- fields between braces
pub emits_fields : {env : Environment} {d : ℕ} {w : Sink} {r : Marks} {w₁ w₂ : Sink} {r₂ : Marks} {w₃ : Sink} (f : Fields) (ws : List ℕ) (v : Bool) → (length ws ≡ 0 → ⊥) → v ≡ skipped_some (patterns_in ws) → Writes (codes " {") w w₁
    → Emits env d (field_patterns env f 0 (patterns_in ws)) w₁ r w₂ r₂ → Shows env d (cond v (break 1 ∷ fix ".." refl ∷ []) [] ++ (break 0 ∷ unbrace ∷ [])) w₂ w₃ → Emits env d (emit_fields env f (patterns_in ws)) w r w₃ r₂
unfolding emit_fields patterns_in odd_pieces odd_piece
emits_fields f [] v h g p x s = absurd (h refl)
emits_fields f (b ∷ ws) v h g p x s = emits_say refl (shows_brace p shows_none) ⟫ x ⟫ rw (← g) (emits_say (odd_last v) s)

-- CONSTRAINTS

-- the first word of a list, and that there is none
pub patterns_first : (x : ℕ) (ws : List ℕ) → Some x ≡ slice_get ws 0 → patterns_in ws ≡ pattern_of x ∷ patterns_in (drop 1 ws)
unfolding patterns_in
patterns_first x [] h = cc
patterns_first x (y ∷ ws) h = rw (same_Some _ _ h)

pub patterns_none : (ws : List ℕ) → None ≡ slice_get ws 0 → patterns_in ws ≡ []
unfolding patterns_in
patterns_none [] h = refl
patterns_none (y ∷ ws) h = cc

-- inside `Some(` and `)`: the binding is a reference if the source is one
pub emits_given : {env : Environment} {d : ℕ} {w : Sink} {r r' : Marks} {q b : ℕ} (x : Bool) → contains r q ≡ x → r' ≡ cond x (insert r b) r → Emits env d (ask q (λ y. cond y (mark b) nothing)) w r w r'
emits_given true h g = rw g (emits_ask true h emits_mark)
emits_given false h g = rw g (emits_ask false h emits_nothing)
