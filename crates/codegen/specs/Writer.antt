-- Writers: what is written, in order, where the marks of references change on the way. Assumes nothing: these are definitions.
use Rattle.std.specs.Prelude.{ℕ, Bool, true, false, List, [], ◌++◌, slice_index_or, slice_set}
use Rattle.codegen.specs.Piece.{Piece}

-- `is_ref` and `is_bound` of codegen.rs 86: for each binding, whether it is in the set
abbrev pub Marks : Type 0
Marks = List Bool

abbrev pub contains : Marks → ℕ → Bool
contains m b = slice_index_or m b false

abbrev pub insert : Marks → ℕ → Marks
insert m b = slice_set m b true

pub data Writer : Type 0 where
  say : List Piece → Writer
  -- a binding becomes a reference: `set_ref(b, true)`
  mark : ℕ → Writer
  -- what is written goes by whether a binding is a reference at that moment
  ask : ℕ → (Bool → Writer) → Writer
  ◌▸◌ : Writer → Writer → Writer

infixr 20 ◌▸◌
-- what writing gives: pieces, and the marks of references after them
pub record Said : Type 0 where
  pub pieces : List Piece
  pub refs : Marks

unfoldable pub said : Writer → Marks → Said
said (say ps) r = record { pieces = ps; refs = r }
said (mark b) r = record { pieces = []; refs = insert r b }
said (ask b f) r = said (f (contains r b)) r
said (v ▸ w) r = let a = said v r in let b = said w a.refs in record { pieces = a.pieces ++ b.pieces; refs = b.refs }

abbrev pub nothing : Writer
nothing = say []
