-- Where the literals and the quoted texts of a plan's text come from, token by token: its rows (origin/specs/Origin). Statements; the
-- proofs are in TokenOrigins.antt and Theorems.antt. Assumes nothing: these are definitions.
use Rattle.std.specs.Prelude.{ℕ, ◌≡◌, true, get_or}
use Rattle.std.proofs.Math.Option.{Option, some, none}
use mathlib.Core.List.{List, [], ◌∷◌, ◌++◌, Memᴰ}
use Rattle.text.specs.Codes.{codes}
use Rattle.text.specs.Digits.{decimal}
use Rattle.literal.specs.declared.builtin_type.IntType.{IntType}
use Rattle.plan.specs.Plan.{Environment, Generated, Plan}
use Rattle.plan.specs.Row.{Match, Equal, Loop, Return, Row, step, arm}
use Rattle.plan.specs.Lookup.{type_at}
use Rattle.codegen.specs.Piece.{sym_text, pos_text, type_text}
use Rattle.codegen.specs.Block.{Part}
use Rattle.codegen.specs.Terms.{term_parts, all_parts}
use Rattle.splitting.specs.Demand3.{BlockTable}
use Rattle.origin.specs.Origin.{Origin, of_binding, of_arm, of_name, of_return, of_declared, term_of, row_at, IntRow, int_at, literal_type, flat, origins, bare, unmarked, Parts}
use Rattle.read_back.specs.Tokens.{Token, string, integer, other, part_tokens, ◌∈◌}

-- THE TOKEN OF AN ORIGIN

-- an `int` row's literal: the integer type of its type number, its value
abbrev pub int_tokens : Environment → Option IntRow → List Token
int_tokens e none = []
int_tokens e (some r) = integer (literal_type (type_at e r.ty)) r.value ∷ []

-- a return row's position, quoted
abbrev pub return_tokens : Environment → Row → List Token
return_tokens e (step l (Return r q) bs) = string (pos_text e q) ∷ []
return_tokens e (step l (Match b) bs) = []
return_tokens e (step l (Equal a b) bs) = []
return_tokens e (step l (Loop r) bs) = []
return_tokens e (arm l k bs) = []

unfoldable pub origin_tokens : Environment → Generated → Origin → List Token
origin_tokens e g (of_binding b) = int_tokens e (int_at g (of_binding b))
origin_tokens e g (of_arm j) = int_tokens e (int_at g (of_arm j))
origin_tokens e g of_name = string (sym_text e (term_of e g).name) ∷ []
origin_tokens e g (of_return j) = return_tokens e (row_at g j)
origin_tokens e g of_declared = string (pos_text e (term_of e g).pos) ∷ []

-- the literals and the quoted texts among tokens
unfoldable pub not_other : List Token → List Token
not_other [] = []
not_other (string s ∷ ts) = string s ∷ not_other ts
not_other (integer t v ∷ ts) = integer t v ∷ not_other ts
not_other (other s ∷ ts) = not_other ts

-- EACH TOKEN OF A PART

-- a literal's type and value are those of an `int` binding or an `int` arm of the block table
pub record LiteralOf (e : Environment) (g : Generated) (t : Option IntType) (v : ℕ) : Type 0 where
  pub origin : Origin
  pub n : ℕ
  pub is : int_at g origin ≡ some (record { ty = n; value = v })
  pub type_is : t ≡ literal_type (type_at e n)

-- a quoted text, by the row that it stands in: in a return row the term's name or that row's position; in no row (the last line of
-- a term) the term's name or its declared position
pub data QuotedText (e : Environment) (g : Generated) : Option ℕ → List ℕ → Type 0 where
  logged_name : (i l r q : ℕ) (bs : List ℕ) → row_at g i ≡ step l (Return r q) bs → QuotedText e g (some i) (sym_text e (term_of e g).name)
  logged_position : (i l r q : ℕ) (bs : List ℕ) → row_at g i ≡ step l (Return r q) bs → QuotedText e g (some i) (pos_text e q)
  last_name : QuotedText e g none (sym_text e (term_of e g).name)
  last_position : QuotedText e g none (pos_text e (term_of e g).pos)

-- a text of the plan as it stands, and a type's name
pub data PlanText (e : Environment) : List ℕ → Type 0 where
  file_text : (n : ℕ) → PlanText e (get_or e.files n [])
  name_text : (n : ℕ) → PlanText e (sym_text e n)
  position_text : (n : ℕ) → PlanText e (pos_text e n)
  type_name : (n : ℕ) → PlanText e (type_text e (type_at e n))

-- the bytes of a term that are no quoted text and no literal
pub data OtherBytes (e : Environment) : List ℕ → Type 0 where
  -- without quotation mark and digit
  bare_bytes : (s : List ℕ) → bare s ≡ true → OtherBytes e s
  -- the same and a number: that of an argument, a field, a binding or a closure
  numbered : (s : List ℕ) (n : ℕ) → bare s ≡ true → OtherBytes e (s ++ decimal n)
  -- the beginnings of the log line and of the last line, with their format strings
  log_head : OtherBytes e (codes "log::debug!(\"ISLE {} {}\", ")
  last_head : OtherBytes e (codes "unreachable!(\"no rule matched for term {} at {}; should it be partial?\", ")
  own_text : {s : List ℕ} → PlanText e s → OtherBytes e s

-- the bytes before the terms; a digit stands in the fixed text there, but no quotation mark
pub data HeadBytes (e : Environment) : List ℕ → Type 0 where
  unmarked_bytes : (s : List ℕ) → unmarked s ≡ true → HeadBytes e s
  head_number : (s : List ℕ) (n : ℕ) → unmarked s ≡ true → HeadBytes e (s ++ decimal n)
  head_text : {s : List ℕ} → PlanText e s → HeadBytes e s

pub record TokensOrigin (e : Environment) (g : Generated) (q : Part) : Type 0 where
  -- each literal has the type and the value of an `int` binding or an `int` arm of the block table that it stands in
  pub integers : {t : Option IntType} {v : ℕ} → integer t v ∈ part_tokens e (q ∷ []) → LiteralOf e g t v
  -- each quoted text is the term's name, its declared position, or the position of the return row that it stands in
  pub strings : {s : List ℕ} → string s ∈ part_tokens e (q ∷ []) → QuotedText e g q.row s
  -- and no other bytes are a quoted text or a literal
  pub others : {s : List ℕ} → other s ∈ part_tokens e (q ∷ []) → OtherBytes e s

-- A BLOCK TABLE, AND A PLAN

-- the tokens of block tables, one after the other
abbrev pub tables_tokens : Plan → List Generated → List Token
tables_tokens p gs = part_tokens p.env (all_parts p.options p.env gs)

-- the parts and the tokens of one
abbrev pub table_parts : Plan → Generated → List Part
table_parts p g = term_parts p.options p.env g

abbrev pub table_tokens : Plan → Generated → List Token
table_tokens p g = part_tokens p.env (table_parts p g)

-- of the block table g, in the tokens of a text, where those of `head` stand before the terms
pub record OriginsOf (p : Plan) (g : Generated) (b : BlockTable p g) (head all : List Token) : Type 0 where
  -- the tokens of g stand between those of the block tables before and after it
  pub stands : all ≡ head ++ (tables_tokens p b.before ++ (table_tokens p g ++ tables_tokens p b.after))
  -- its literals and quoted texts, in order: those of its origins, which the rows give
  pub in_order : not_other (table_tokens p g) ≡ flat (origin_tokens p.env g) (origins p.options p.env g)
  -- its lines, in order, and the tokens of each
  pub lines : Parts p.env g (table_parts p g) (origins p.options p.env g)
  pub tokens : (q : Part) → Memᴰ q (table_parts p g) → TokensOrigin p.env g q

-- of a plan's text: every block table, and what stands before them has neither quoted texts nor literals
pub record Origins (p : Plan) (head all : List Token) : Type 0 where
  pub of : (g : Generated) (b : BlockTable p g) → OriginsOf p g b head all
  pub no_strings : {s : List ℕ} → string s ∈ head → ⊥
  pub no_integers : {t : Option IntType} {v : ℕ} → integer t v ∈ head → ⊥
  pub head_bytes : {s : List ℕ} → other s ∈ head → HeadBytes p.env s
