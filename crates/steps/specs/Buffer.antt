-- The buffer for what a call returns many of. Assumes nothing: this is a definition.
use Rattle.std.specs.Prelude.{refl, Bool, cond, List, [], ◌∷◌, ◌++◌}
use Rattle.codegen.specs.Piece.{Piece, fix}

-- its type: that of an external term, whose name ends the list, or one for all internal terms
abbrev pub buffer_type : Bool → List Piece → List Piece
buffer_type is_external name = cond is_external (fix "C::" refl ∷ name ++ (fix "_returns" refl ∷ [])) (fix "ContextIterWrapper::<ConstructorVec<_>, _>" refl ∷ [])
