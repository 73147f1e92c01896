-- Words that a text says, and where they are written. Assumes nothing: these are definitions.
use Rattle.std.specs.Prelude.{ℕ, ◌+◌, ◌≤◌, ◌≡◌, List, [], ◌∷◌, ◌++◌, length, take}
use Rattle.std.proofs.Math.Option.{Option, some, none}
use Rattle.std.specs.Prelude as code
use Rattle.std.specs.Prelude.{Some, None}

-- words after words
infixr 30 ◌⧺◌
unfoldable pub ◌⧺◌ : Option (List ℕ) → Option (List ℕ) → Option (List ℕ)
none ⧺ w = none
some v ⧺ none = none
some v ⧺ some w = some (v ++ w)

-- one word
unfoldable pub word : Option ℕ → Option (List ℕ)
word none = none
word (some n) = some (n ∷ [])

-- From a place of `old`, or from nowhere: with room for the words, `new` holds them from there on and the answer is where they end.
-- Where there are no words, or no place, the answer says so.
unfoldable pub Holds : List ℕ → code.Option ℕ → Option (List ℕ) → code.Option ℕ → List ℕ → Type 0
Holds old None w r new = r ≡ None
Holds old (Some k) none r new = r ≡ None
Holds old (Some k) (some ws) r new = k + length ws ≤ length old → (r ≡ Some (k + length ws)) × (take (k + length ws) new ≡ take k old ++ ws)

-- all that a caller of a writer has to know
pub record Wrote (old : List ℕ) (at : code.Option ℕ) (w : Option (List ℕ)) (r : code.Option ℕ) (new : List ℕ) : Type 0 where
  pub size : length new ≡ length old
  pub holds : Holds old at w r new
