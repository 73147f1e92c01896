-- Where the literals and quoted texts of a text stand: each is one token, and the bytes beside it are none that would make it another.
-- Assumes nothing: these are definitions.
use Rattle.std.specs.Prelude.{ℕ, ◌≡◌, Bool, true, false, ◌||◌, List, [], ◌∷◌, ◌++◌, eqb}
use Rattle.std.proofs.Math.Option.{Option}
use Rattle.text.specs.Codes.{codes}
use Rattle.literal.specs.declared.builtin_type.IntType.{IntType}
use Rattle.literal.specs.Literal.{literal}
use Rattle.literal.specs.Quote.{quoted}
use Rattle.read_back.specs.Tokens.{Token, string, integer, joined}
use Rattle.token_boundaries.specs.Lexing.{continues, literal_token, unsigned}

-- BYTES

abbrev pub is_in : ℕ → List ℕ → Bool
is_in c [] = false
is_in c (d ∷ s) = eqb c d || is_in c s

-- before a literal a letter, digit or `_` would be of the same token, and before a quoted text a prefix of it (`b"`, `r"`, `c"`); `"` and `'`
-- may open another token, `#` is of `r#"`, a number after `.` is a field's, and `-` negates
abbrev pub joins : ℕ → Bool
joins c = continues c || is_in c (codes "\"'#.-")

-- with one of these bytes what stands before a literal or a quoted text ends: LF, space, `&`, `(`
abbrev pub preceding : List ℕ
preceding = 10 ∷ codes " &("

abbrev pub may_precede : ℕ → Bool
may_precede c = is_in c preceding

-- with one of these what stands after it begins: LF, space, `)`, `,`, `.`, `;`, `?`
abbrev pub following : List ℕ
following = 10 ∷ codes " ),.;?"

abbrev pub may_follow : ℕ → Bool
may_follow c = is_in c following

-- the first byte is one of these
abbrev pub begins : (ℕ → Bool) → List ℕ → Bool
begins these [] = false
begins these (c ∷ s) = these c

-- the last byte is one of these; `b` where there is none
abbrev pub ends : (ℕ → Bool) → Bool → List ℕ → Bool
ends these b [] = b
ends these b (c ∷ s) = ends these (these c) s

-- TOKENS

-- a literal or a quoted text, the bytes before it and those after it
pub record Stands (before bytes after : List ℕ) : Type 0 where
  -- the last byte before it, if there is any
  pub preceded : ends may_precede true before ≡ true
  -- the first byte after it
  pub followed : begins may_follow after ≡ true
  -- the token that begins with its first byte is these bytes; the sign of a negative literal is a token before it
  pub token : literal_token (unsigned bytes ++ after) ≡ unsigned bytes

-- each of them among the tokens of a text
pub record TokensStand (tokens : List Token) : Type 0 where
  pub literals : (ts us : List Token) (t : Option IntType) (v : ℕ) → tokens ≡ ts ++ (integer t v ∷ us) → Stands (joined ts) (literal t v) (joined us)
  pub texts : (ts us : List Token) (s : List ℕ) → tokens ≡ ts ++ (string s ∷ us) → Stands (joined ts) (quoted s) (joined us)
