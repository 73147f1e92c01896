-- Patterns from a word of a row on, one by one. Assumes nothing.
use Rattle.std.specs.Prelude.{ℕ, ◌+◌, ◌≤◌, ◌<◌, ◌≡◌, refl, List, [], ◌∷◌, length, drop}
use Rattle.std.proofs.Common.{sym, add-one, drop_of_length-le, drop-cons}
use Rattle.std.proofs.Math.Option.{Option, some, none}
use Rattle.codegen.specs.Pattern.{bind_all}
use Rattle.codegen.specs.Writer.{Marks, insert}
use Rattle.cells.specs.Items.{unbound}
use Rattle.rows.specs.View.{nth, pattern_of, patterns_in}
use Rattle.view.specs.BlockRows.{pattern_none, pattern_some}

-- A ROW'S PATTERNS

pub patterns_cons : (ws : List ℕ) (k : ℕ) → k < length ws → patterns_in (drop k ws) ≡ pattern_of (nth ws k) ∷ patterns_in (drop (k + 1) ws)
unfolding patterns_in
patterns_cons ws k h = rw (add-one, drop-cons ws k 0 h)

pub patterns_end : (ws : List ℕ) (k : ℕ) → length ws ≤ k → patterns_in (drop k ws) ≡ []
unfolding patterns_in
patterns_end ws k h = rw (drop_of_length-le ws h)

-- BINDINGS

bind_cons : (p : Option ℕ) (ps : List (Option ℕ)) (m : Marks) → bind_all (p ∷ ps) m ≡ bind_all ps (bind_all (p ∷ []) m)
unfolding bind_all
bind_cons none ps m = refl
bind_cons (some b) ps m = refl

pub bind_none : (b : ℕ) (m : Marks) → b ≡ unbound → m ≡ bind_all (pattern_of b ∷ []) m
unfolding bind_all
bind_none b m h = rw (pattern_none b h)

pub bind_some : (b : ℕ) (m : Marks) → (b ≡ unbound → ⊥) → insert m b ≡ bind_all (pattern_of b ∷ []) m
unfolding bind_all
bind_some b m h = rw (pattern_some b h)

-- the binding of word k, then those after it
pub bind_word : (ws : List ℕ) (k : ℕ) (m m' : Marks) → k < length ws → m' ≡ bind_all (pattern_of (nth ws k) ∷ []) m → bind_all (patterns_in (drop (k + 1) ws)) m' ≡ bind_all (patterns_in (drop k ws)) m
bind_word ws k m m' h q = rw (q, patterns_cons ws k h) (sym (bind_cons (pattern_of (nth ws k)) (patterns_in (drop (k + 1) ws)) m))

pub bind_end : (ws : List ℕ) (k : ℕ) (m : Marks) → length ws ≤ k → bind_all (patterns_in (drop k ws)) m ≡ m
unfolding bind_all
bind_end ws k m h = rw (patterns_end ws k h)
