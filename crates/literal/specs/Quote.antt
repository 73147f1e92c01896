-- Rust's `{:?}` of a text of bytes 20 to 7E (hexadecimal). Assumes nothing: these are definitions.
use Rattle.std.specs.Prelude.{ℕ, cond, ◌||◌, List, [], ◌∷◌, ◌++◌, eqb}

abbrev pub quote : ℕ
quote = 34

abbrev pub backslash : ℕ
backslash = 92

-- a quote or a backslash has a backslash before it
unfoldable pub escaped : List ℕ → List ℕ
escaped [] = []
escaped (c ∷ s) = let rest = c ∷ escaped s in cond (eqb c quote || eqb c backslash) (backslash ∷ rest) rest

unfoldable pub quoted : List ℕ → List ℕ
quoted t = quote ∷ escaped t ++ (quote ∷ [])
