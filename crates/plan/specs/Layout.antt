-- The layout of a plan (refusal 3): document 01, "The plan", and the readings 1 to 28 of docs/DECISIONS.md.
-- Bytes are cut into lines, lines into tables, a row into values, a list into items. Assumes nothing: these are definitions.
use Rattle.std.specs.Prelude.{ℕ, suc, ◌+◌, ◌-◌, ◌*◌, min, Bool, true, false, cond, not, ◌&&◌, ◌||◌, List, [], ◌∷◌, ◌++◌, leb, ltb, eqb, length, get_or, take, drop}
use Prim.Native.String.{String}
use Rattle.std.proofs.Math.Option.{Option, some, none}
use Rattle.text.specs.Codes.{codes}
use Rattle.text.specs.Split.{null, split, ended, same}
use Rattle.literal.specs.BuiltinType.{all}
use Rattle.literal.specs.declared.builtin_type.BuiltinType.{BuiltinType}
use Rattle.plan.specs.Plan.{Options, Field, Fields, unit, named, tuple, Declared, TypeData, Builtin, Primitive, Enum, Struct, Variant, FunctionKind, absent, internal, external, Term, Generated, Environment, Plan}
use Rattle.plan.specs.Binding.{Binding, BindingRow, ConstBool, ConstInt, ConstPrim, Argument, Extractor, Constructor, Iterator, MakeVariant, MakeStruct, MakeSome, MatchSome, MatchTuple, MatchVariant, ExtractStruct}
use Rattle.plan.specs.Constraint as constraint
use Rattle.plan.specs.Constraint.{Constraint}
use Rattle.plan.specs.Row.{ControlFlow, Match, Equal, Loop, Return, Row, step, arm, level}

-- READINGS THAT MAY FAIL

infixl 30 ◌⊛◌
unfoldable pub ◌⊛◌ : {A B : Type 0} → Option (A → B) → Option A → Option B
none ⊛ x = none
some f ⊛ none = none
some f ⊛ some x = some (f x)

-- every item is read
unfoldable pub each : {A B : Type 0} → (A → Option B) → List A → Option (List B)
each read [] = some []
each read (x ∷ xs) = some (λ y ys. y ∷ ys) ⊛ read x ⊛ each read xs

abbrev pub or_else : {A : Type 0} → Option A → Option A → Option A
or_else none y = y
or_else (some x) y = some x

-- exactly one row
abbrev pub one : {A : Type 0} → Option (List A) → Option A
one none = none
one (some []) = none
one (some (x ∷ [])) = some x
one (some (x ∷ y ∷ xs)) = none

-- only what a test allows
unfoldable pub only : {A : Type 0} → (A → Bool) → Option A → Option A
only allowed none = none
only allowed (some x) = cond (allowed x) (some x) none

abbrev pub then : {A B : Type 0} → Option A → (A → Option B) → Option B
then none f = none
then (some x) f = f x

-- SINGLE VALUES

abbrev pub digit : ℕ → Bool
digit c = leb 48 c && leb c 57

unfoldable pub digits : List ℕ → Bool
digits [] = true
digits (c ∷ s) = digit c && digits s

-- what the digits say after those that say n
unfoldable pub decimal_from : ℕ → List ℕ → ℕ
decimal_from n [] = n
decimal_from n (c ∷ s) = decimal_from (n * 10 + (c - 48)) s

-- a plan has fewer bytes, so fewer rows, levels and values: a larger number counts as this one
abbrev pub beyond : ℕ
beyond = 65536

-- a number of any count of digits; "Numbers have no leading zero"
unfoldable pub number : List ℕ → Option ℕ
number [] = none
number (c ∷ s) = cond (digits (c ∷ s) && not (eqb c 48 && not (null s))) (some (min beyond (decimal_from 0 (c ∷ s)))) none

abbrev pub is : String → List ℕ → Bool
is t s = same s (codes t)

-- "Unused values are `-`"
unfoldable pub unused : {A : Type 0} → List ℕ → Option A → Option A
unused s x = cond (is "-" s) x none

unfoldable pub bit : List ℕ → Option Bool
bit s = cond (is "0" s) (some false) (cond (is "1" s) (some true) none)

unfoldable pub number_to : ℕ → List ℕ → Option ℕ
number_to most s = only (λ n. leb n most) (number s)

-- "An integer value is 32 lower-case hexadecimal digits"
abbrev pub hex_digit : ℕ → Bool
hex_digit c = digit c || (leb 97 c && leb c 102)

unfoldable pub hex_digits : List ℕ → Bool
hex_digits [] = true
hex_digits (c ∷ s) = hex_digit c && hex_digits s

unfoldable pub hex_from : ℕ → List ℕ → ℕ
hex_from n [] = n
hex_from n (c ∷ s) = hex_from (n * 16 + cond (digit c) (c - 48) (c - 87)) s

unfoldable pub value : List ℕ → Option ℕ
value s = cond (eqb (length s) 32 && hex_digits s) (some (hex_from 0 s)) none

-- "ctor and xtor are `-`, `in` (internal), or the sym row of the external name"
unfoldable pub function_kind : List ℕ → Option FunctionKind
function_kind s = cond (is "-" s) (some absent) (cond (is "in" s) (some internal) (some external ⊛ number s))

-- "A list is numbers joined by commas, `-` when empty"
unfoldable pub list : {A : Type 0} → (List ℕ → Option A) → List ℕ → Option (List A)
list item s = cond (is "-" s) (some []) (each item (split (eqb 44) s))

-- "a named field is `sym:type`"
unfoldable pub field : List ℕ → Option Field
field s =
    let parts = split (eqb 58) s in
    cond (eqb (length parts) 2) (some (λ n t. record { name = n; ty = t }) ⊛ number (get_or parts 0 []) ⊛ number (get_or parts 1 [])) none

-- an arm's binding, "`_` for none"
unfoldable pub pattern_binding : List ℕ → Option (Option ℕ)
pattern_binding s = cond (is "_" s) (some none) (some some ⊛ number s)

-- ROWS

-- a row's values, "one space between"; n of them
unfoldable pub row : {A : Type 0} → ℕ → (List (List ℕ) → Option A) → List ℕ → Option A
row n read line = let vs = split (eqb 32) line in cond (eqb (length vs) n) (read vs) none

abbrev pub at : List (List ℕ) → ℕ → List ℕ
at vs i = get_or vs i []

abbrev pub default_threshold : ℕ
default_threshold = 256

-- "0 or 1 three times; threshold 0 to 65535, or `-` for the default 256"
unfoldable pub options_row : List ℕ → Option Options
options_row = row 4 (λ vs.
    some (λ n l s t. record { nopragmas = n; log = l; split = s; threshold = t })
    ⊛ bit (at vs 0) ⊛ bit (at vs 1) ⊛ bit (at vs 2)
    ⊛ cond (is "-" (at vs 3)) (some default_threshold) (number_to 65535 (at vs 3)))

-- "one text of at least one byte a row": a line that is not empty
abbrev pub text_row : List ℕ → Option (List ℕ)
text_row line = some line

-- a kind's name, with what its values a and b are
pub record Kind (A : Type 0) : Type 0 where
  pub name : String
  pub read : List ℕ → List ℕ → Option A

unfoldable pub by_kind : {A : Type 0} → List (Kind A) → List ℕ → List ℕ → List ℕ → Option A
by_kind [] k a b = none
by_kind (c ∷ cs) k a b = let more = by_kind cs k a b in cond (is c.name k) (c.read a b) more

-- the fields of a shape with its list
abbrev pub shapes : List (Kind Fields)
shapes =
    record { name = "unit"; read = λ a b. unused a (some unit) }
    ∷ record { name = "named"; read = λ a b. some named ⊛ list field a }
    ∷ record { name = "tuple"; read = λ a b. some tuple ⊛ list number a }
    ∷ []

unfoldable pub declared : List (List ℕ) → Option Declared
declared vs = some (λ n e d p. record { name = n; is_extern = e; is_nodebug = d; pos = p }) ⊛ number (at vs 1) ⊛ bit (at vs 2) ⊛ bit (at vs 3) ⊛ number (at vs 4)

-- `kind name extern nodebug pos list`: kind `prim`, `enum`, `unit`, `named`, `tuple`; "For `prim` only the name counts"
unfoldable pub type_row : List ℕ → Option TypeData
type_row = row 6 (λ vs.
    cond (is "prim" (at vs 0)) (unused (at vs 2) (unused (at vs 3) (unused (at vs 4) (unused (at vs 5) (some Primitive ⊛ number (at vs 1))))))
    (cond (is "enum" (at vs 0)) (unused (at vs 5) (some Enum ⊛ declared vs))
    (some (λ d f. Struct d f) ⊛ declared vs ⊛ by_kind shapes (at vs 0) (at vs 5) [])))

-- `type name shape list`
unfoldable pub variant_row : List ℕ → Option Variant
variant_row = row 4 (λ vs.
    some (λ t n f. record { ty = t; name = n; fields = f }) ⊛ number (at vs 0) ⊛ number (at vs 1) ⊛ by_kind shapes (at vs 2) (at vs 3) [])

-- `name pos ret multi partial ctor xtor infallible list`
unfoldable pub term_row : List ℕ → Option Term
term_row = row 9 (λ vs.
    some (λ n p r m o c x i ts. record { name = n; pos = p; ret_ty = r; multi = m; partial = o; ctor = c; xtor = x; infallible = i; arg_tys = ts })
    ⊛ number (at vs 0) ⊛ number (at vs 1) ⊛ number (at vs 2) ⊛ bit (at vs 3) ⊛ bit (at vs 4)
    ⊛ function_kind (at vs 5) ⊛ function_kind (at vs 6) ⊛ bit (at vs 7) ⊛ list number (at vs 8))

-- "Binding kinds, with a, b"; "field 0 to 255"
abbrev pub alone : {A : Type 0} → A → List ℕ → List ℕ → Option A
alone x a b = unused a (unused b (some x))

abbrev pub with_number : {A : Type 0} → (ℕ → A) → List ℕ → List ℕ → Option A
with_number f a b = unused b (some f ⊛ number a)

abbrev pub with_field : {A : Type 0} → (ℕ → A) → List ℕ → List ℕ → Option A
with_field f a b = unused b (some f ⊛ number_to 255 a)

abbrev pub with_bit : {A : Type 0} → (Bool → A) → List ℕ → List ℕ → Option A
with_bit f a b = unused b (some f ⊛ bit a)

abbrev pub with_numbers : {A : Type 0} → (ℕ → ℕ → A) → List ℕ → List ℕ → Option A
with_numbers f a b = some f ⊛ number a ⊛ number b

abbrev pub with_value : {A : Type 0} → (ℕ → ℕ → A) → List ℕ → List ℕ → Option A
with_value f a b = some f ⊛ number a ⊛ value b

abbrev pub binding_kinds : List (Kind Binding)
binding_kinds =
    record { name = "bool"; read = with_bit ConstBool }
    ∷ record { name = "int"; read = with_value ConstInt }
    ∷ record { name = "prim"; read = with_number ConstPrim }
    ∷ record { name = "arg"; read = with_number Argument }
    ∷ record { name = "extract"; read = with_number Extractor }
    ∷ record { name = "construct"; read = with_number Constructor }
    ∷ record { name = "iter"; read = alone Iterator }
    ∷ record { name = "variant"; read = with_numbers MakeVariant }
    ∷ record { name = "struct"; read = with_number MakeStruct }
    ∷ record { name = "some"; read = alone MakeSome }
    ∷ record { name = "matchsome"; read = alone MatchSome }
    ∷ record { name = "matchtuple"; read = with_field MatchTuple }
    ∷ record { name = "matchvariant"; read = with_field MatchVariant }
    ∷ record { name = "extractstruct"; read = with_field ExtractStruct }
    ∷ []

-- `kind a b list`
unfoldable pub binding_row : List ℕ → Option BindingRow
binding_row = row 4 (λ vs.
    some (λ b ss. record { binding = b; sources = ss }) ⊛ by_kind binding_kinds (at vs 0) (at vs 1) (at vs 2) ⊛ list number (at vs 3))

-- "A step is `match` source, `equal` a b, `loop` result, or `return` result pos"
abbrev pub step_kinds : List (Kind ControlFlow)
step_kinds =
    record { name = "match"; read = with_number Match }
    ∷ record { name = "equal"; read = with_numbers Equal }
    ∷ record { name = "loop"; read = with_number Loop }
    ∷ record { name = "return"; read = with_numbers Return }
    ∷ []

-- "its arms: `bool`, `int`, `prim`, `variant`, `struct` (a, b as above) or `some`"
abbrev pub arm_kinds : List (Kind Constraint)
arm_kinds =
    record { name = "bool"; read = with_bit constraint.ConstBool }
    ∷ record { name = "int"; read = with_value constraint.ConstInt }
    ∷ record { name = "prim"; read = with_number constraint.ConstPrim }
    ∷ record { name = "variant"; read = with_numbers constraint.Variant }
    ∷ record { name = "struct"; read = with_number constraint.Struct }
    ∷ record { name = "some"; read = alone constraint.Some }
    ∷ []

-- `level kind a b list`
unfoldable pub block_row : List ℕ → Option Row
block_row = row 5 (λ vs.
    or_else
    (some (λ l c bs. step l c bs) ⊛ number (at vs 0) ⊛ by_kind step_kinds (at vs 1) (at vs 2) (at vs 3) ⊛ list number (at vs 4))
    (some (λ l c bs. arm l c bs) ⊛ number (at vs 0) ⊛ by_kind arm_kinds (at vs 1) (at vs 2) (at vs 3) ⊛ list pattern_binding (at vs 4)))

-- LEVELS

-- what may stand below a row: arms below a match, nothing below a return, steps below the others
pub data Below : Type 0 where
  arms : Below
  steps : Below
  nothing : Below

unfoldable pub below : Row → Below
below (step l (Match q) bs) = arms
below (step l (Equal a b) bs) = steps
below (step l (Loop r) bs) = steps
below (step l (Return r p) bs) = nothing
below (arm l c bs) = steps

abbrev pub may_stand : Below → Row → Bool
may_stand arms (step l c bs) = false
may_stand arms (arm l c bs) = true
may_stand steps (step l c bs) = true
may_stand steps (arm l c bs) = false
may_stand nothing r = false

-- "Block rows in order: steps at level 0", each row one level below the row that it belongs to.
-- `above` has what may stand at each level next: steps at level 0, and below the latest row of each level so far.
unfoldable pub nested : List Below → List Row → Bool
nested above [] = true
nested above (r ∷ rs) =
    let rest = nested (take (suc (level r)) above ++ (below r ∷ [])) rs in
    ltb (level r) (length above) && (may_stand (get_or above (level r) nothing) r && rest)

-- TABLES

-- "A table is a line of names, then lines of values in that order": names lines are compared byte for byte
unfoldable pub table : {A : Type 0} → String → (List ℕ → Option A) → List (List ℕ) → Option (List A)
table names read [] = none
table names read (l ∷ ls) = cond (is names l) (each read ls) none

-- the last three tables: "`term`, one row: the term to generate", "its bindings", "its scheduled block"
unfoldable pub generated_term : List (List ℕ) → List (List ℕ) → List (List ℕ) → Option Generated
generated_term t b r =
    some (λ n bs rs. record { term = n; bindings = bs; rows = rs })
    ⊛ one (table "term" (row 1 (λ vs. number (at vs 0))) t)
    ⊛ table "kind a b list" binding_row b
    ⊛ only (nested (steps ∷ [])) (table "level kind a b list" block_row r)

-- "the last three repeat for each generated term"
unfoldable pub generated_terms : List (List (List ℕ)) → Option (List Generated)
generated_terms [] = some []
generated_terms (t ∷ []) = none
generated_terms (t ∷ b ∷ []) = none
generated_terms (t ∷ b ∷ r ∷ ts) = some (λ g gs. g ∷ gs) ⊛ generated_term t b r ⊛ generated_terms ts

abbrev pub builtins : List BuiltinType → List TypeData
builtins [] = []
builtins (t ∷ ts) = Builtin t ∷ builtins ts

-- "Types 0 to 12 are the builtins in the order of `BuiltinType::ALL`; table rows follow from 13"
unfoldable pub environment : List (List (List ℕ)) → Option Environment
environment ts =
    some (λ f s p ty v m. record { files = f; syms = s; poss = p; types = builtins all ++ ty; variants = v; terms = m })
    ⊛ table "file" text_row (get_or ts 1 []) ⊛ table "sym" text_row (get_or ts 2 []) ⊛ table "pos" text_row (get_or ts 3 [])
    ⊛ table "kind name extern nodebug pos list" type_row (get_or ts 4 [])
    ⊛ table "type name shape list" variant_row (get_or ts 5 [])
    ⊛ table "name pos ret multi partial ctor xtor infallible list" term_row (get_or ts 6 [])

-- a missing table has no names line
unfoldable pub plan_of : List (List (List ℕ)) → Option Plan
plan_of ts =
    some (λ o e gs. record { options = o; env = e; generated = gs })
    ⊛ one (table "nopragmas log split threshold" options_row (get_or ts 0 []))
    ⊛ environment ts
    ⊛ generated_terms (drop 7 ts)

-- lines end in LF (byte 10), tables in an empty line
unfoldable pub read : List ℕ → Option Plan
read s = then (ended (split (eqb 10) s)) (λ lines. then (ended (split null lines)) plan_of)
