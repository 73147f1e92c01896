-- Turning a plan away: document 01, "The answer, and turning a plan away", refusals 1 to 10.
-- One definition for each number, true where the plan passes. Assumes nothing: these are definitions.
use Rattle.std.specs.Prelude.{ℕ, suc, Bool, true, false, cond, not, ◌&&◌, ◌||◌, List, [], ◌∷◌, leb, ltb, eqb, length}
use Rattle.std.proofs.Math.Option.{Option, some, none}
use Rattle.plan.specs.Plan.{Fields, unit, named, tuple, Declared, TypeData, Builtin, Primitive, Enum, Struct, Variant, FunctionKind, absent, internal, external, Term, Generated, Environment, Plan}
use Rattle.plan.specs.Binding.{Binding, BindingRow, ConstBool, ConstInt, ConstPrim, Argument, Extractor, Constructor, Iterator, MakeVariant, MakeStruct, MakeSome, MatchSome, MatchTuple, MatchVariant, ExtractStruct}
use Rattle.plan.specs.Constraint as constraint
use Rattle.plan.specs.Constraint.{Constraint}
use Rattle.plan.specs.Row.{ControlFlow, Match, Equal, Loop, Return, Row, step, arm, level}
use Rattle.plan.specs.Lookup.{type_at, variants_of, variant_at, fields_of, field_count, term_at, binding_at, argument_index}
use Rattle.plan.specs.Layout.{read}

unfoldable pub every : {A : Type 0} → (A → Bool) → List A → Bool
every test [] = true
every test (x ∷ xs) = test x && every test xs

-- 1: "plan over its length"
unfoldable pub fits_length : List ℕ → Bool
fits_length s = leb (length s) 65536

-- 2: "another byte": "Bytes are LF and hexadecimal 20 to 7E"
abbrev pub allowed : ℕ → Bool
allowed c = eqb c 10 || (leb 32 c && leb c 126)

unfoldable pub bytes_allowed : List ℕ → Bool
bytes_allowed s = every allowed s

-- 3 is Layout.read

-- 4: "a table, level or list over its most"

abbrev pub at_most : {A : Type 0} → ℕ → List A → Bool
at_most n xs = leb (length xs) n

-- "32 values a list"
abbrev pub list_most : ℕ
list_most = 32

abbrev pub fields_most : Fields → Bool
fields_most unit = true
fields_most (named fs) = at_most list_most fs
fields_most (tuple ts) = at_most list_most ts

-- "levels 0 to 63"
abbrev pub row_most : Row → Bool
row_most (step l c bs) = leb l 63 && at_most list_most bs
row_most (arm l c bs) = leb l 63 && at_most list_most bs

-- "64 files; 2,048 syms; 2,048 positions; 256 types with the builtins; 1,024 variants; 512 terms"
unfoldable pub environment_most : Environment → Bool
environment_most e =
    at_most 64 e.files && (at_most 2048 e.syms && (at_most 2048 e.poss
    && (at_most 256 e.types && (at_most 1024 e.variants && (at_most 512 e.terms
    && (every (λ t. fields_most (fields_of t)) e.types
    && (every (λ v. fields_most v.fields) e.variants
    && every (λ m. at_most list_most m.arg_tys) e.terms)))))))

-- "1,024 bindings and 2,048 block rows each"
unfoldable pub generated_most : Generated → Bool
generated_most g =
    at_most 1024 g.bindings && (at_most 2048 g.rows
    && (every (λ b. at_most list_most b.sources) g.bindings && every row_most g.rows))

-- "64 generated terms"
unfoldable pub within_most : Plan → Bool
within_most p = environment_most p.env && (at_most 64 p.generated && every generated_most p.generated)

-- 5: "a row, variant or argument number that doesn't exist, a type of the wrong sort, a needed ctor or xtor `-`".
-- `x-refers`: everything that x names exists.

abbrev pub sym_exists : Environment → ℕ → Bool
sym_exists e n = ltb n (length e.syms)

abbrev pub pos_exists : Environment → ℕ → Bool
pos_exists e n = ltb n (length e.poss)

abbrev pub type_exists : Environment → ℕ → Bool
type_exists e n = ltb n (length e.types)

abbrev pub is_enum : TypeData → Bool
is_enum (Builtin t) = false
is_enum (Primitive n) = false
is_enum (Enum d) = true
is_enum (Struct d f) = false

abbrev pub is_struct : TypeData → Bool
is_struct (Builtin t) = false
is_struct (Primitive n) = false
is_struct (Enum d) = false
is_struct (Struct d f) = true

abbrev pub enum_exists : Environment → ℕ → Bool
enum_exists e n = type_exists e n && is_enum (type_at e n)

abbrev pub struct_exists : Environment → ℕ → Bool
struct_exists e n = type_exists e n && is_struct (type_at e n)

abbrev pub variant_exists : Environment → ℕ → ℕ → Bool
variant_exists e n k = enum_exists e n && ltb k (length (variants_of n e.variants))

abbrev pub fields_exist : Environment → Fields → Bool
fields_exist e unit = true
fields_exist e (named fs) = every (λ f. sym_exists e f.name && type_exists e f.ty) fs
fields_exist e (tuple ts) = every (type_exists e) ts

abbrev pub declared_exists : Environment → Declared → Bool
declared_exists e d = sym_exists e d.name && pos_exists e d.pos

unfoldable pub type_refers : Environment → TypeData → Bool
type_refers e (Builtin t) = true
type_refers e (Primitive n) = sym_exists e n
type_refers e (Enum d) = declared_exists e d
type_refers e (Struct d f) = declared_exists e d && fields_exist e f

unfoldable pub variant_refers : Environment → Variant → Bool
variant_refers e v = enum_exists e v.ty && (sym_exists e v.name && fields_exist e v.fields)

abbrev pub function_exists : Environment → FunctionKind → Bool
function_exists e absent = true
function_exists e internal = true
function_exists e (external n) = sym_exists e n

unfoldable pub term_refers : Environment → Term → Bool
term_refers e m =
    sym_exists e m.name && (pos_exists e m.pos && (type_exists e m.ret_ty
    && (function_exists e m.ctor && (function_exists e m.xtor && every (type_exists e) m.arg_tys))))

abbrev pub is_present : FunctionKind → Bool
is_present absent = false
is_present internal = true
is_present (external n) = true

abbrev pub constructor_exists : Environment → ℕ → Bool
constructor_exists e n = ltb n (length e.terms) && is_present (term_at e n).ctor

abbrev pub extractor_exists : Environment → ℕ → Bool
extractor_exists e n = ltb n (length e.terms) && is_present (term_at e n).xtor

-- an argument number is below the count of the generated term's arguments, `args`
unfoldable pub binding_refers : Environment → ℕ → Binding → Bool
binding_refers e args (ConstBool v) = true
binding_refers e args (ConstInt n v) = type_exists e n
binding_refers e args (ConstPrim n) = sym_exists e n
binding_refers e args (Argument i) = ltb i args
binding_refers e args (Extractor m) = extractor_exists e m
binding_refers e args (Constructor m) = constructor_exists e m
binding_refers e args Iterator = true
binding_refers e args (MakeVariant n k) = variant_exists e n k
binding_refers e args (MakeStruct n) = struct_exists e n
binding_refers e args MakeSome = true
binding_refers e args MatchSome = true
binding_refers e args (MatchTuple f) = true
binding_refers e args (MatchVariant f) = true
binding_refers e args (ExtractStruct f) = true

unfoldable pub constraint_refers : Environment → Constraint → Bool
constraint_refers e (constraint.ConstBool v) = true
constraint_refers e (constraint.ConstInt n v) = type_exists e n
constraint_refers e (constraint.ConstPrim n) = sym_exists e n
constraint_refers e (constraint.Variant n k) = variant_exists e n k
constraint_refers e (constraint.Struct n) = struct_exists e n
constraint_refers e constraint.Some = true

-- `n` is the number of bindings
unfoldable pub control_flow_refers : Environment → ℕ → ControlFlow → Bool
control_flow_refers e n (Match q) = ltb q n
control_flow_refers e n (Equal a b) = ltb a n && ltb b n
control_flow_refers e n (Loop r) = ltb r n
control_flow_refers e n (Return r p) = ltb r n && pos_exists e p

abbrev pub bound_below : ℕ → Option ℕ → Bool
bound_below n none = true
bound_below n (some b) = ltb b n

unfoldable pub row_refers : Environment → ℕ → Row → Bool
row_refers e n (step l c bs) = control_flow_refers e n c && every (λ b. ltb b n) bs
row_refers e n (arm l c bs) = constraint_refers e c && every (bound_below n) bs

unfoldable pub generated_refers : Environment → Generated → Bool
generated_refers e g =
    let n = length g.bindings in
    constructor_exists e g.term
    && (every (λ b. binding_refers e (length (term_at e g.term).arg_tys) b.binding && every (λ q. ltb q n) b.sources) g.bindings
    && every (row_refers e n) g.rows)

unfoldable pub all_exist : Plan → Bool
all_exist p =
    let e = p.env in
    every (type_refers e) e.types && (every (variant_refers e) e.variants && (every (term_refers e) e.terms && every (generated_refers e) p.generated))

-- 6: "a binding's or arm's list length differs from its fields, its parameters, one for the one_source kinds and `some` arms,
-- or none for constants, `arg` and constant arms"

unfoldable pub source_count : Environment → Binding → ℕ
source_count e (ConstBool v) = 0
source_count e (ConstInt n v) = 0
source_count e (ConstPrim n) = 0
source_count e (Argument i) = 0
source_count e (Extractor m) = 1
source_count e (Constructor m) = length (term_at e m).arg_tys
source_count e Iterator = 1
source_count e (MakeVariant n k) = field_count (variant_at e n k).fields
source_count e (MakeStruct n) = field_count (fields_of (type_at e n))
source_count e MakeSome = 1
source_count e MatchSome = 1
source_count e (MatchTuple f) = 1
source_count e (MatchVariant f) = 1
source_count e (ExtractStruct f) = 1

unfoldable pub pattern_count : Environment → Constraint → ℕ
pattern_count e (constraint.ConstBool v) = 0
pattern_count e (constraint.ConstInt n v) = 0
pattern_count e (constraint.ConstPrim n) = 0
pattern_count e (constraint.Variant n k) = field_count (variant_at e n k).fields
pattern_count e (constraint.Struct n) = field_count (fields_of (type_at e n))
pattern_count e constraint.Some = 1

unfoldable pub arm_length_fits : Environment → Row → Bool
arm_length_fits e (step l c bs) = true
arm_length_fits e (arm l c bs) = eqb (length bs) (pattern_count e c)

unfoldable pub lengths_fit : Plan → Bool
lengths_fit p =
    let e = p.env in
    every (λ g. every (λ b. eqb (length b.sources) (source_count e b.binding)) g.bindings && every (arm_length_fits e) g.rows) p.generated

-- 7: "a source not lower than its binding; two `arg` of one index"

unfoldable pub sources_below : ℕ → List BindingRow → Bool
sources_below i [] = true
sources_below i (b ∷ bs) = every (λ q. ltb q i) b.sources && sources_below (suc i) bs

abbrev pub differ : Option ℕ → Option ℕ → Bool
differ none j = true
differ (some i) none = true
differ (some i) (some j) = not (eqb i j)

unfoldable pub arguments_distinct : List BindingRow → Bool
arguments_distinct [] = true
arguments_distinct (b ∷ bs) = every (λ c. differ (argument_index b.binding) (argument_index c.binding)) bs && arguments_distinct bs

unfoldable pub sources_lower : Plan → Bool
sources_lower p = every (λ g. sources_below 0 g.bindings && arguments_distinct g.bindings) p.generated

-- 8: "in a term not of iterator kind: a loop, or a block whose first return isn't its last step"

abbrev pub is_loop : Row → Bool
is_loop (step l (Match q) bs) = false
is_loop (step l (Equal a b) bs) = false
is_loop (step l (Loop r) bs) = true
is_loop (step l (Return r p) bs) = false
is_loop (arm l c bs) = false

abbrev pub is_return : Row → Bool
is_return (step l (Match q) bs) = false
is_return (step l (Equal a b) bs) = false
is_return (step l (Loop r) bs) = false
is_return (step l (Return r p) bs) = true
is_return (arm l c bs) = false

-- nothing stands below a return, so it is the last step of its block if the row after it, if any, has a lower level
abbrev pub ends_block : ℕ → List Row → Bool
ends_block l [] = true
ends_block l (r ∷ rs) = ltb (level r) l

unfoldable pub returns_last : List Row → Bool
returns_last [] = true
returns_last (r ∷ rs) = (not (is_loop r) && (not (is_return r) || ends_block (level r) rs)) && returns_last rs

unfoldable pub returns_fit : Plan → Bool
returns_fit p = every (λ g. (term_at p.env g.term).multi || returns_last g.rows) p.generated

-- 9: "`match` without arms"

abbrev pub is_match : Row → Bool
is_match (step l (Match q) bs) = true
is_match (step l (Equal a b) bs) = false
is_match (step l (Loop r) bs) = false
is_match (step l (Return r p) bs) = false
is_match (arm l c bs) = false

-- the row after a match stands below it
abbrev pub has_below : ℕ → List Row → Bool
has_below l [] = false
has_below l (r ∷ rs) = ltb l (level r)

unfoldable pub matches_armed : List Row → Bool
matches_armed [] = true
matches_armed (r ∷ rs) = (not (is_match r) || has_below (level r) rs) && matches_armed rs

unfoldable pub matches_have_arms : Plan → Bool
matches_have_arms p = every (λ g. matches_armed g.rows) p.generated

-- 10: "`loop` result not an `iter`"

abbrev pub is_iterator : Binding → Bool
is_iterator (ConstBool v) = false
is_iterator (ConstInt n v) = false
is_iterator (ConstPrim n) = false
is_iterator (Argument i) = false
is_iterator (Extractor m) = false
is_iterator (Constructor m) = false
is_iterator Iterator = true
is_iterator (MakeVariant n k) = false
is_iterator (MakeStruct n) = false
is_iterator MakeSome = false
is_iterator MatchSome = false
is_iterator (MatchTuple f) = false
is_iterator (MatchVariant f) = false
is_iterator (ExtractStruct f) = false

unfoldable pub loop_fits : List BindingRow → Row → Bool
loop_fits bs (step l (Match q) xs) = true
loop_fits bs (step l (Equal a b) xs) = true
loop_fits bs (step l (Loop r) xs) = is_iterator (binding_at bs r).binding
loop_fits bs (step l (Return r p) xs) = true
loop_fits bs (arm l c xs) = true

unfoldable pub loops_iterate : Plan → Bool
loops_iterate p = every (λ g. every (loop_fits g.bindings) g.rows) p.generated

-- "Checks run over the whole plan in number order; the lowest number is given, and none otherwise."

pub data Outcome : Type 0 where
  refused : ℕ → Outcome
  accepted : Plan → Outcome

-- the checks 4 to 10, in their order
unfoldable pub judged : Plan → Outcome
judged p =
    cond (within_most p)
    (cond (all_exist p)
    (cond (lengths_fit p)
    (cond (sources_lower p)
    (cond (returns_fit p)
    (cond (matches_have_arms p)
    (cond (loops_iterate p) (accepted p)
    (refused 10)) (refused 9)) (refused 8)) (refused 7)) (refused 6)) (refused 5)) (refused 4)

abbrev pub laid_out : Option Plan → Outcome
laid_out none = refused 3
laid_out (some p) = judged p

unfoldable pub outcome : List ℕ → Outcome
outcome s = cond (fits_length s) (cond (bytes_allowed s) (laid_out (read s)) (refused 2)) (refused 1)

abbrev pub number_of : Outcome → ℕ
number_of (refused n) = n
number_of (accepted p) = 0

-- the lowest refusal of a plan's bytes, 0 for an accepted plan
unfoldable pub refusal : List ℕ → ℕ
refusal s = number_of (outcome s)
