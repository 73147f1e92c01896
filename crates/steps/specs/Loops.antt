-- The first line of a loop. Assumes nothing: these are definitions.
use Rattle.std.specs.Prelude.{refl, List, [], ◌∷◌, ℕ}
use Rattle.codegen.specs.Piece.{Piece, fix, var, new, break}

abbrev pub iterator_line : ℕ → List Piece
iterator_line q = fix "let mut " refl ∷ new q ∷ fix " = " refl ∷ var q ∷ fix ".into_context_iter();" refl ∷ break 0 ∷ []
