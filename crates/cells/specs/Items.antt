-- Lists of a row, as words. Assumes nothing: these are definitions.
use Rattle.std.specs.Prelude.{ℕ, cond, List, [], ◌∷◌, eqb}
use Rattle.std.proofs.Math.Option.{Option, some, none}
use Rattle.text.specs.Split.{split}
use Rattle.plan.specs.Plan.{Field}
use Rattle.plan.specs.Layout.{◌⊛◌, number, is, field, pattern_binding}
use Rattle.cells.specs.Words.{◌⧺◌, word}

-- `_` is a word above every number
abbrev pub unbound : ℕ
unbound = 65537

abbrev pub pattern_word : Option ℕ → ℕ
pattern_word none = unbound
pattern_word (some n) = n

abbrev pub field_words : Field → List ℕ
field_words f = f.name ∷ f.ty ∷ []

-- An item of a list. The sorts: 1 a number, 2 `sym:type`, 3 an arm's binding; a list of another sort has no items
unfoldable pub item : ℕ → List ℕ → Option (List ℕ)
item sort t =
    cond (eqb sort 1) (word (number t))
    (cond (eqb sort 2) (some field_words ⊛ field t)
    (cond (eqb sort 3) (word (some pattern_word ⊛ pattern_binding t)) none))

unfoldable pub items : ℕ → List (List ℕ) → Option (List ℕ)
items sort [] = some []
items sort (p ∷ ps) = item sort p ⧺ items sort ps

unfoldable pub list_words : ℕ → List ℕ → Option (List ℕ)
list_words sort t = cond (is "-" t) (some []) (items sort (split (eqb 44) t))
