-- What a text is made of. Kept apart are a plan's own texts, literals, v-numbers, scopes' braces and the ends of lines.
-- Assumes nothing: these are definitions.
use Rattle.std.specs.Prelude.{◌≡◌, ℕ, ◌+◌, ◌*◌, Bool, true, cond, not, ◌&&◌, List, [], ◌∷◌, ◌++◌, ◌==◌, slice_index_or}
use Prim.Native.String.{String}
use Rattle.std.proofs.Math.Option.{Option}
use Rattle.text.specs.Codes.{codes}
use Rattle.text.specs.Digits.{decimal}
use Rattle.text.specs.Sink.{spaces}
use Rattle.literal.specs.declared.builtin_type.IntType.{IntType}
use Rattle.literal.specs.BuiltinType.{name}
use Rattle.literal.specs.Literal.{literal, odd}
use Rattle.literal.specs.Quote.{quoted}
use Rattle.plan.specs.Plan.{TypeData, Builtin, Primitive, Enum, Struct, Environment}
use Rattle.plan.specs.Lookup.{type_at}

-- no byte ends a line
abbrev pub plain : List ℕ → Bool
plain [] = true
plain (c ∷ s) = not (c == 10) && plain s

-- A plan's own texts stand as their row numbers, so that no piece but `break` can end a line.
pub data Piece : Type 0 where
  -- fixed bytes of codegen.rs, none of which ends a line
  fix : (t : String) → plain (codes t) ≡ true → Piece
  -- a file, a name, a position, a type's name
  file : ℕ → Piece
  sym : ℕ → Piece
  pos : ℕ → Piece
  type : ℕ → Piece
  -- a name or a position, quoted
  quoted_sym : ℕ → Piece
  quoted_pos : ℕ → Piece
  num : ℕ → Piece
  -- v and a binding's number, used or introduced
  var : ℕ → Piece
  new : ℕ → Piece
  -- a literal: its integer type (none: the type is another), its value
  lit : Option IntType → ℕ → Piece
  -- the braces of a scope
  brace : Piece
  unbrace : Piece
  -- the end of a line, and the indentation of the next: so many steps deeper than the part's first line
  break : ℕ → Piece

-- four spaces for each step of depth
unfoldable pub indent : ℕ → List ℕ
indent d = spaces (4 * d)

abbrev pub sym_text : Environment → ℕ → List ℕ
sym_text e n = slice_index_or e.syms n []

abbrev pub pos_text : Environment → ℕ → List ℕ
pos_text e n = slice_index_or e.poss n []

-- sema.rs 310: `Type::name`
unfoldable pub type_text : Environment → TypeData → List ℕ
type_text e (Builtin t) = codes (name t)
type_text e (Primitive n) = sym_text e n
type_text e (Enum d) = sym_text e d.name
type_text e (Struct d f) = sym_text e d.name

-- the bytes of a piece, where the part's first line is d deep
unfoldable pub bytes : Environment → ℕ → Piece → List ℕ
bytes e d (fix t h) = codes t
bytes e d (file n) = slice_index_or e.files n []
bytes e d (sym n) = sym_text e n
bytes e d (pos n) = pos_text e n
bytes e d (type n) = type_text e (type_at e n)
bytes e d (quoted_sym n) = quoted (sym_text e n)
bytes e d (quoted_pos n) = quoted (pos_text e n)
bytes e d (num n) = decimal n
bytes e d (var n) = codes "v" ++ decimal n
bytes e d (new n) = codes "v" ++ decimal n
bytes e d (lit t v) = literal t v
bytes e d brace = codes " {"
bytes e d unbrace = codes "}"
bytes e d (break k) = 10 ∷ indent (d + k)

unfoldable pub render : Environment → ℕ → List Piece → List ℕ
render e d [] = []
render e d (p ∷ ps) = bytes e d p ++ render e d ps

-- odd literals
unfoldable pub odd_piece : Piece → ℕ
odd_piece (fix t h) = 0
odd_piece (file n) = 0
odd_piece (sym n) = 0
odd_piece (pos n) = 0
odd_piece (type n) = 0
odd_piece (quoted_sym n) = 0
odd_piece (quoted_pos n) = 0
odd_piece (num n) = 0
odd_piece (var n) = 0
odd_piece (new n) = 0
odd_piece (lit t v) = cond (odd t v) 1 0
odd_piece brace = 0
odd_piece unbrace = 0
odd_piece (break k) = 0

unfoldable pub odd_pieces : List Piece → ℕ
odd_pieces [] = 0
odd_pieces (p ∷ ps) = odd_piece p + odd_pieces ps

-- ends of lines
unfoldable pub break_piece : Piece → ℕ
break_piece (fix t h) = 0
break_piece (file n) = 0
break_piece (sym n) = 0
break_piece (pos n) = 0
break_piece (type n) = 0
break_piece (quoted_sym n) = 0
break_piece (quoted_pos n) = 0
break_piece (num n) = 0
break_piece (var n) = 0
break_piece (new n) = 0
break_piece (lit t v) = 0
break_piece brace = 0
break_piece unbrace = 0
break_piece (break k) = 1

unfoldable pub breaks : List Piece → ℕ
breaks [] = 0
breaks (p ∷ ps) = break_piece p + breaks ps
