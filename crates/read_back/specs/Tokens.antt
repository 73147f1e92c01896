-- A plan's text as tokens, and what reading them back says: demand 2, from "Read back one by one by the Rust Reference" on.
-- Assumes nothing: these are definitions.
use Rattle.std.specs.Prelude.{ℕ, suc, ◌+◌, ◌%◌, ◌^◌, ◌≡◌, Bool, true, false, cond}
use Rattle.std.proofs.Math.Option.{Option, some, none}
use mathlib.Core.List.{List, [], ◌∷◌, ◌++◌, Memᴰ}
use Rattle.literal.specs.declared.builtin_type.IntType.{IntType}
use Rattle.literal.specs.declared.builtin_type.IntType.TheVariants.{U128, I128}
use Rattle.literal.specs.BuiltinType.{bits}
use Rattle.literal.specs.Literal.{literal, odd}
use Rattle.literal.specs.Quote.{quoted}
use Rattle.literal.specs.Reference.{typed, untyped, integer_value, string_value}
use Rattle.literal.specs.ReadBack.{extended}
use Rattle.plan.specs.Plan.{Environment, Plan}
use Rattle.codegen.specs.Piece.{Piece, fix, file, sym, pos, type, quoted_sym, quoted_pos, num, var, new, lit, brace, unbrace, break, indent, sym_text, pos_text, bytes}
use Rattle.codegen.specs.Block.{words, overflow, What, line, edge, Part, line_bytes, edge_bytes}
use Rattle.codegen.specs.Terms.{parts}
use Rattle.codegen.specs.Items.{items}

-- TOKENS

pub data Token : Type 0 where
  -- a text of the plan, quoted
  string : List ℕ → Token
  -- a literal: its integer type (none: the type is another), its value
  integer : Option IntType → ℕ → Token
  -- any other bytes
  other : List ℕ → Token

unfoldable pub token_bytes : Token → List ℕ
token_bytes (string s) = quoted s
token_bytes (integer t v) = literal t v
token_bytes (other s) = s

unfoldable pub joined : List Token → List ℕ
joined [] = []
joined (t ∷ ts) = token_bytes t ++ joined ts

-- "Literals are what `int` bindings and `int` arms write, and nothing in a plan's own texts or the fixed lines" (document 01)
unfoldable pub token : Environment → ℕ → Piece → Token
token e d (quoted_sym n) = string (sym_text e n)
token e d (quoted_pos n) = string (pos_text e n)
token e d (lit t v) = integer t v
token e d (fix t h) = other (bytes e d (fix t h))
token e d (file n) = other (bytes e d (file n))
token e d (sym n) = other (bytes e d (sym n))
token e d (pos n) = other (bytes e d (pos n))
token e d (type n) = other (bytes e d (type n))
token e d (num n) = other (bytes e d (num n))
token e d (var n) = other (bytes e d (var n))
token e d (new n) = other (bytes e d (new n))
token e d brace = other (bytes e d brace)
token e d unbrace = other (bytes e d unbrace)
token e d (break k) = other (bytes e d (break k))

unfoldable pub piece_tokens : Environment → ℕ → List Piece → List Token
piece_tokens e d [] = []
piece_tokens e d (p ∷ ps) = token e d p ∷ piece_tokens e d ps

unfoldable pub what_tokens : Environment → ℕ → ℕ → What → List Token
what_tokens e d k (line (words ps)) = piece_tokens e d ps
what_tokens e d k (line overflow) = other (line_bytes e d k overflow) ∷ []
what_tokens e d k (edge g) = other (edge_bytes k g) ∷ []

unfoldable pub part_tokens : Environment → List Part → List Token
part_tokens e [] = []
part_tokens e (p ∷ ps) =
    let d = p.around + p.base in
    other (indent d) ∷ what_tokens e d p.around p.what ++ (other (10 ∷ []) ∷ part_tokens e ps)

-- the tokens of the terms alone, and of the whole text
unfoldable pub terms_tokens : Plan → List Token
terms_tokens p = part_tokens p.env (parts p)

unfoldable pub whole_tokens : Plan → List Token
whole_tokens p = piece_tokens p.env 0 (items p) ++ terms_tokens p

-- THE COUNT

-- "those whose value lies outside their type's range": `odd`
abbrev pub is_odd : Token → Bool
is_odd (string s) = false
is_odd (integer t v) = odd t v
is_odd (other s) = false

unfoldable pub odd_count : List Token → ℕ
odd_count [] = 0
odd_count (t ∷ ts) = let more = odd_count ts in cond (is_odd t) (suc more) more

-- READING BACK

-- a literal of the integer type t and the value v
pub record IntegerReadsBack (t : IntType) (v : ℕ) : Type 0 where
  -- "a fixed-width integer literal is its value wrapped to its type"
  pub wrapped : integer_value (literal (some t) v) ≡ some (typed t (v % 2 ^ bits t))
  -- "and a usize or isize literal is its value unless it is odd": so is a literal of any integer type, and an odd one is not
  pub unless_odd : odd (some t) v ≡ false → extended (integer_value (literal (some t) v)) ≡ some v
  pub odd_is_not : odd (some t) v ≡ true → extended (integer_value (literal (some t) v)) ≡ some v → ⊥
  -- "literals of u128, i128 .. never count"
  pub u128 : t ≡ U128 → odd (some t) v ≡ false
  pub i128 : t ≡ I128 → odd (some t) v ≡ false

-- a literal of another type
pub record OtherReadsBack (v : ℕ) : Type 0 where
  pub value : integer_value (literal none v) ≡ some (untyped v)
  pub never : odd none v ≡ false

-- by the Rust Reference: `string-value` and `integer-value` (literal/specs/Reference)
unfoldable pub ReadsBack : Token → Type 0
ReadsBack (string s) = string_value (quoted s) ≡ some s
ReadsBack (integer (some t) v) = IntegerReadsBack t v
ReadsBack (integer none v) = OtherReadsBack v
ReadsBack (other s) = Unit

infix 50 ◌∈◌
abbrev pub ◌∈◌ : Token → List Token → Type 0
t ∈ ts = Memᴰ t ts

-- a text, its count, and the tokens that it is made of
pub record Reads (bytes : List ℕ) (count : ℕ) (tokens : List Token) : Type 0 where
  pub made_of : bytes ≡ joined tokens
  pub each : (t : Token) → t ∈ tokens → ReadsBack t
  pub counted : count ≡ odd_count tokens
