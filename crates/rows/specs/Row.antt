-- The words of a row of each table. Assumes nothing: these are definitions.
use Rattle.std.specs.Prelude.{ℕ, ◌+◌, ◌≤◌, cond, List, [], ◌∷◌, eqb, length, get_or}
use Rattle.std.proofs.Math.Option.{Option, some, none}
use Rattle.text.specs.Codes.{codes}
use Rattle.text.specs.Split.{split}
use Rattle.plan.specs.Layout.{◌⊛◌, row, at}
use Rattle.tokens.specs.Token.{place}
use Rattle.cells.specs.Words.{◌⧺◌, word}
use Rattle.cells.specs.Value.{cell, wide, wide_words, kind_word}
use Rattle.cells.specs.Items.{list_words}

-- `nopragmas log split threshold`
unfoldable pub options_words : List ℕ → Option (List ℕ)
options_words = row 4 (λ vs. word (cell 3 (at vs 0)) ⧺ word (cell 3 (at vs 1)) ⧺ word (cell 3 (at vs 2)) ⧺ word (cell 5 (at vs 3)))

-- the kinds of types, and what a row's values are for each
unfoldable pub type_kinds : List (List ℕ)
type_kinds = split (eqb 32) (codes "prim enum unit named tuple")

-- the sort of `extern` and `nodebug`
abbrev pub type_bits : List ℕ
type_bits = 0 ∷ 3 ∷ 3 ∷ 3 ∷ 3 ∷ []

-- the sort of `pos`
abbrev pub type_poss : List ℕ
type_poss = 0 ∷ 1 ∷ 1 ∷ 1 ∷ 1 ∷ []

abbrev pub type_lists : List ℕ
type_lists = 0 ∷ 0 ∷ 0 ∷ 2 ∷ 1 ∷ []

-- `kind name extern nodebug pos list`
unfoldable pub type_words : List ℕ → Option (List ℕ)
type_words = row 6 (λ vs.
    let k = place type_kinds (at vs 0) in
    word (kind_word 5 k) ⧺ word (cell 1 (at vs 1)) ⧺ word (cell (get_or type_bits k 0) (at vs 2)) ⧺ word (cell (get_or type_bits k 0) (at vs 3))
    ⧺ word (cell (get_or type_poss k 0) (at vs 4)) ⧺ list_words (get_or type_lists k 0) (at vs 5))

-- the shapes of variants
unfoldable pub shape_kinds : List (List ℕ)
shape_kinds = split (eqb 32) (codes "unit named tuple")

abbrev pub shape_lists : List ℕ
shape_lists = 0 ∷ 2 ∷ 1 ∷ []

-- `type name shape list`
unfoldable pub variant_words : List ℕ → Option (List ℕ)
variant_words = row 4 (λ vs.
    let k = place shape_kinds (at vs 2) in
    word (cell 1 (at vs 0)) ⧺ word (cell 1 (at vs 1)) ⧺ word (kind_word 3 k) ⧺ list_words (get_or shape_lists k 0) (at vs 3))

-- `name pos ret multi partial ctor xtor infallible list`
unfoldable pub term_words : List ℕ → Option (List ℕ)
term_words = row 9 (λ vs.
    word (cell 1 (at vs 0)) ⧺ word (cell 1 (at vs 1)) ⧺ word (cell 1 (at vs 2)) ⧺ word (cell 3 (at vs 3)) ⧺ word (cell 3 (at vs 4))
    ⧺ word (cell 4 (at vs 5)) ⧺ word (cell 4 (at vs 6)) ⧺ word (cell 3 (at vs 7)) ⧺ list_words 1 (at vs 8))

-- `term`
unfoldable pub generated_words : List ℕ → Option (List ℕ)
generated_words = row 1 (λ vs. word (cell 1 (at vs 0)))

-- the kinds of bindings, and the sorts of a and b for each
unfoldable pub binding_kinds : List (List ℕ)
binding_kinds = split (eqb 32) (codes "bool int prim arg extract construct iter variant struct some matchsome matchtuple matchvariant extractstruct")

abbrev pub binding_as : List ℕ
binding_as = 3 ∷ 1 ∷ 1 ∷ 1 ∷ 1 ∷ 1 ∷ 0 ∷ 1 ∷ 1 ∷ 0 ∷ 0 ∷ 2 ∷ 2 ∷ 2 ∷ []

abbrev pub binding_bs : List ℕ
binding_bs = 0 ∷ 6 ∷ 0 ∷ 0 ∷ 0 ∷ 0 ∷ 0 ∷ 1 ∷ 0 ∷ 0 ∷ 0 ∷ 0 ∷ 0 ∷ 0 ∷ []

-- `kind a b list`
unfoldable pub binding_words : List ℕ → Option (List ℕ)
binding_words = row 4 (λ vs.
    let k = place binding_kinds (at vs 0) in
    word (kind_word 14 k) ⧺ word (cell (get_or binding_as k 0) (at vs 1)) ⧺ (some wide_words ⊛ wide (get_or binding_bs k 0) (at vs 2)) ⧺ list_words 1 (at vs 3))

-- the kinds of steps, then those of arms, with the sorts of a, b and the list
unfoldable pub block_kinds : List (List ℕ)
block_kinds = split (eqb 32) (codes "match equal loop return bool int prim variant struct some")

abbrev pub block_as : List ℕ
block_as = 1 ∷ 1 ∷ 1 ∷ 1 ∷ 3 ∷ 1 ∷ 1 ∷ 1 ∷ 1 ∷ 0 ∷ []

abbrev pub block_bs : List ℕ
block_bs = 0 ∷ 1 ∷ 0 ∷ 1 ∷ 0 ∷ 6 ∷ 0 ∷ 1 ∷ 0 ∷ 0 ∷ []

abbrev pub block_lists : List ℕ
block_lists = 1 ∷ 1 ∷ 1 ∷ 1 ∷ 3 ∷ 3 ∷ 3 ∷ 3 ∷ 3 ∷ 3 ∷ []

-- `level kind a b list`
unfoldable pub block_words : List ℕ → Option (List ℕ)
block_words = row 5 (λ vs.
    let k = place block_kinds (at vs 1) in
    word (cell 1 (at vs 0)) ⧺ word (kind_word 10 k) ⧺ word (cell (get_or block_as k 0) (at vs 2)) ⧺ (some wide_words ⊛ wide (get_or block_bs k 0) (at vs 3))
    ⧺ list_words (get_or block_lists k 0) (at vs 4))

-- a text's words are its start and its end in the plan
abbrev pub text_words : ℕ → List ℕ → Option (List ℕ)
text_words from line = some (from ∷ (from + length line) ∷ [])

-- The words of a line that starts at a place of the plan. The tables: 0 options, 1 to 3 texts, 4 types, 5 variants, 6 terms,
-- 7 a term to generate, 8 its bindings, 9 its block
unfoldable pub row_words : ℕ → ℕ → List ℕ → Option (List ℕ)
row_words table from line =
    cond (eqb table 0) (options_words line)
    (cond (eqb table 4) (type_words line)
    (cond (eqb table 5) (variant_words line)
    (cond (eqb table 6) (term_words line)
    (cond (eqb table 7) (generated_words line)
    (cond (eqb table 8) (binding_words line)
    (cond (eqb table 9) (block_words line) (text_words from line)))))))

-- how many words stand before a row's list; a text has two words
unfoldable pub header : ℕ → ℕ
header table =
    cond (eqb table 0) 4 (cond (eqb table 4) 5 (cond (eqb table 5) 3 (cond (eqb table 6) 8 (cond (eqb table 7) 1 (cond (eqb table 8) 6 (cond (eqb table 9) 7 2))))))

-- words of a row, if it has them: at least, and at most so many
unfoldable pub Within : ℕ → ℕ → Option (List ℕ) → Type 0
Within lo hi none = Unit
Within lo hi (some ws) = (lo ≤ length ws) × (length ws ≤ hi)

pub record Sized (lo hi : ℕ) (w : Option (List ℕ)) : Type 0 where
  pub holds : Within lo hi w
