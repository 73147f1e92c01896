-- Req 01: the faults of a schedule, from the rows of a plan and the bindings that have names at each row. Nothing here goes by a text, an
-- option or a buffer. Assumes nothing: these are definitions.
use Rattle.std.specs.Prelude.{ℕ, zero, suc, Bool, true, false, cond, not, ◌&&◌, ◌||◌, List, [], ◌∷◌, get_or, eqb}
use Rattle.std.proofs.Math.Option.{Option, some, none}
use Rattle.plan.specs.Plan.{Environment, Generated, Plan}
use Rattle.plan.specs.Binding.{Binding, BindingRow, ConstBool, ConstInt, ConstPrim, Argument, Extractor, Constructor, Iterator, MakeVariant, MakeStruct, MakeSome, MatchSome, MatchTuple, MatchVariant, ExtractStruct}
use Rattle.plan.specs.Row.{ControlFlow, Match, Equal, Loop, Return, Row, step, arm}
use Rattle.plan.specs.Lookup.{term_at, binding_at}
use Rattle.codegen.specs.Writer.{Marks, contains, insert}
use Rattle.codegen.specs.ReturnKind.{by_return_kind}
use Rattle.codegen.specs.Sema.{extractor_sig, constructor_sig}
use Rattle.codegen.specs.Block.{arm_count, is_constant}
use Rattle.codegen.specs.Terms.{no_marks}
use Rattle.origin.specs.Names.{Names, listed, match_inside, at_row, past}

unfoldable pub any : (ℕ → Bool) → List ℕ → Bool
any test [] = false
any test (x ∷ xs) = test x || any test xs

-- WHAT A WRITTEN EXPRESSION HOLDS

-- "an iterator-kind `extract` or `construct`": by `extractor_sig` and `constructor_sig` (sema.rs 689, 729)
unfoldable pub returns_many : Environment → Binding → Bool
returns_many e (ConstBool v) = false
returns_many e (ConstInt n v) = false
returns_many e (ConstPrim n) = false
returns_many e (Argument i) = false
returns_many e (Extractor m) = by_return_kind (extractor_sig (term_at e m)).ret_kind true false false
returns_many e (Constructor m) = by_return_kind (constructor_sig (term_at e m)).ret_kind true false false
returns_many e Iterator = false
returns_many e (MakeVariant n k) = false
returns_many e (MakeStruct n) = false
returns_many e MakeSome = false
returns_many e MatchSome = false
returns_many e (MatchTuple f) = false
returns_many e (MatchVariant f) = false
returns_many e (ExtractStruct f) = false

-- `emit_expr` (codegen.rs 915) of binding b: a binding that has a name is written as it, any other through its sources. Is there a name
-- that passes the first test, or a binding written through its sources that passes the second? A source has a lower number than its
-- binding, so a k above b never runs out.
unfoldable pub holds : (ℕ → Bool) → (ℕ → Bool) → List BindingRow → Marks → ℕ → ℕ → Bool
holds name through bs bound zero b = false
holds name through bs bound (suc k) b =
    let written = through b || any (holds name through bs bound k) (binding_at bs b).sources in
    cond (contains bound b) (name b) written

abbrev pub nowhere : ℕ → Bool
nowhere b = false

-- a call that returns many is written
unfoldable pub calls_below : Environment → List BindingRow → Marks → ℕ → ℕ → Bool
calls_below e bs bound k b = holds nowhere (λ n. returns_many e (binding_at bs n).binding) bs bound k b

unfoldable pub calls : Environment → List BindingRow → Marks → ℕ → Bool
calls e bs bound b = calls_below e bs bound (suc b) b

-- a name is written that passes the test
unfoldable pub uses : (ℕ → Bool) → List BindingRow → Marks → ℕ → Bool
uses name bs bound b = holds name nowhere bs bound (suc b) b

-- THE FAULTS OF A STEP

-- (a) "a loop whose iterator source isn't bound at that row"
unfoldable pub loop_unbound : List BindingRow → Marks → ControlFlow → Bool
loop_unbound bs bound (Match q) = false
loop_unbound bs bound (Equal a b) = false
loop_unbound bs bound (Loop r) = not (contains bound (get_or (binding_at bs r).sources 0 0))
loop_unbound bs bound (Return r p) = false

-- (b) "whose call is written other than as itself a member of a step's list". In the list: a member that has no name yet is written as
-- itself, its sources are not.
unfoldable pub list_calls : Environment → List BindingRow → Marks → List ℕ → Bool
list_calls e bs bound [] = false
list_calls e bs bound (b ∷ rest) =
    (not (contains bound b) && any (calls_below e bs bound b) (binding_at bs b).sources) || list_calls e bs (insert bound b) rest

-- (b) after the list, of a step of level l before the rows rs
unfoldable pub check_calls : Environment → List BindingRow → Marks → ℕ → ControlFlow → List Row → Bool
check_calls e bs bound l (Match q) rs = calls e bs (match_inside (arm_count l rs) rs bound) q
check_calls e bs bound l (Equal a b) rs = calls e bs bound a || calls e bs bound b
check_calls e bs bound l (Loop r) rs = false
check_calls e bs bound l (Return r p) rs = calls e bs bound r

-- "one of the arm's own bindings that wasn't bound before"
unfoldable pub own_new : List (Option ℕ) → Marks → ℕ → Bool
own_new [] bound n = false
own_new (none ∷ xs) bound n = own_new xs bound n
own_new (some x ∷ xs) bound n = (eqb x n && not (contains bound n)) || own_new xs bound n

-- (c) "a one-arm `some`, `variant` or `struct` match whose written source uses one of the arm's own bindings that wasn't bound before":
-- a match of n arms, its first arm before the other rows
unfoldable pub source_uses_own : List BindingRow → Marks → ℕ → ℕ → List Row → Bool
source_uses_own bs bound q n [] = false
source_uses_own bs bound q n (step l k xs ∷ rs) = false
source_uses_own bs bound q n (arm l k xs ∷ rs) = eqb n 1 && (not (is_constant k) && uses (own_new xs bound) bs (match_inside n (arm l k xs ∷ rs) bound) q)

unfoldable pub match_uses_own : List BindingRow → Marks → ℕ → ControlFlow → List Row → Bool
match_uses_own bs bound l (Match q) rs = source_uses_own bs bound q (arm_count l rs) rs
match_uses_own bs bound l (Equal a b) rs = false
match_uses_own bs bound l (Loop r) rs = false
match_uses_own bs bound l (Return r p) rs = false

-- THE FAULTS OF A ROW, OF A BLOCK TABLE, OF A PLAN

-- "a row's faults in letter order, each letter at most once a row"
pub record Letters : Type 0 where
  pub a : Bool
  pub b : Bool
  pub c : Bool

-- `bound`: the names at the row, before its list; "for (a) after the step's list"
unfoldable pub row_faults : Environment → List BindingRow → Marks → Row → List Row → Letters
row_faults e bs bound (step l k xs) rs =
    let after = listed xs bound in
    record { a = loop_unbound bs after k; b = list_calls e bs bound xs || check_calls e bs after l k rs; c = match_uses_own bs after l k rs }
row_faults e bs bound (arm l k xs) rs = record { a = false; b = false; c = false }

-- of each row in order
unfoldable pub block_faults : Environment → List BindingRow → Names → List Row → List Letters
block_faults e bs s [] = []
block_faults e bs s (r ∷ rs) = row_faults e bs (at_row s r) r rs ∷ block_faults e bs (past s r rs) rs

abbrev pub no_names : Names
no_names = record { bound = no_marks; scopes = [] }

-- of each row of a generated term's block table
unfoldable pub table_faults : Environment → Generated → List Letters
table_faults e g = block_faults e g.bindings no_names g.rows

abbrev pub none_of : Letters → Bool
none_of f = not f.a && (not f.b && not f.c)

unfoldable pub none_in : List Letters → Bool
none_in [] = true
none_in (f ∷ fs) = none_of f && none_in fs

unfoldable pub tables_free : Environment → List Generated → Bool
tables_free e [] = true
tables_free e (g ∷ gs) = none_in (table_faults e g) && tables_free e gs

-- "a plan without a fault"
unfoldable pub fault_free : Plan → Bool
fault_free p = tables_free p.env p.generated
