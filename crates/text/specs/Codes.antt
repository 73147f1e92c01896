-- Texts as bytes. Assumes nothing: these are definitions.
use Rattle.std.specs.Prelude.{ℕ, List, [], ◌∷◌}
use Prim.Native.String.{String}
use Prim.Native.String as string
use Prim.Native.Char.{code}

-- the bytes of a text of characters below 128
abbrev pub codes : String → List ℕ
codes string.[] = []
codes (string.◌∷◌ c s) = code c ∷ codes s
