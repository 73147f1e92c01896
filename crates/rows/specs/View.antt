-- What the words of a row stand for: the rows of the definition. Assumes nothing: these are definitions.
use Rattle.std.specs.Prelude.{ℕ, ◌-◌, Bool, cond, List, [], ◌∷◌, eqb, ltb, get_or, drop}
use Rattle.std.proofs.Math.Option.{Option, some, none}
use Rattle.plan.specs.Plan.{Options, Field, Fields, unit, named, tuple, Declared, TypeData, Primitive, Enum, Struct, Variant, FunctionKind, absent, internal, external, Term}
use Rattle.plan.specs.Binding.{Binding, BindingRow, ConstBool, ConstInt, ConstPrim, Argument, Extractor, Constructor, Iterator, MakeVariant, MakeStruct, MakeSome, MatchSome, MatchTuple, MatchVariant, ExtractStruct}
use Rattle.plan.specs.Constraint as constraint
use Rattle.plan.specs.Constraint.{Constraint}
use Rattle.plan.specs.Row.{ControlFlow, Match, Equal, Loop, Return, Row, step, arm}
use Rattle.cells.specs.Value.{Wide, value_of}
use Rattle.cells.specs.Items.{unbound}

-- word i of a row
abbrev pub nth : List ℕ → ℕ → ℕ
nth ws i = get_or ws i 0

abbrev pub flagged : ℕ → Bool
flagged n = eqb n 1

-- nopragmas log split threshold
unfoldable pub options_of : List ℕ → Options
options_of ws = record { nopragmas = flagged (nth ws 0); log = flagged (nth ws 1); split = flagged (nth ws 2); threshold = nth ws 3 }

-- a list of `sym:type` has two words an item
unfoldable pub fields_in : List ℕ → List Field
fields_in [] = []
fields_in (n ∷ []) = []
fields_in (n ∷ t ∷ ws) = record { name = n; ty = t } ∷ fields_in ws

-- 0 unit, 1 named, else tuple
unfoldable pub shape_of : ℕ → List ℕ → Fields
shape_of k ws = cond (eqb k 0) unit (cond (eqb k 1) (named (fields_in ws)) (tuple ws))

abbrev pub declared_of : List ℕ → Declared
declared_of ws = record { name = nth ws 1; is_extern = flagged (nth ws 2); is_nodebug = flagged (nth ws 3); pos = nth ws 4 }

-- kind (0 prim, 1 enum, 2 unit, 3 named, 4 tuple) name extern nodebug pos, then the list
unfoldable pub type_of : List ℕ → TypeData
type_of ws = cond (eqb (nth ws 0) 0) (Primitive (nth ws 1)) (cond (eqb (nth ws 0) 1) (Enum (declared_of ws)) (Struct (declared_of ws) (shape_of (nth ws 0 - 2) (drop 5 ws))))

-- type name shape, then the list
unfoldable pub variant_of : List ℕ → Variant
variant_of ws = record { ty = nth ws 0; name = nth ws 1; fields = shape_of (nth ws 2) (drop 3 ws) }

-- 0 absent, 1 internal, 2 + n external
unfoldable pub function_of : ℕ → FunctionKind
function_of n = cond (eqb n 0) absent (cond (eqb n 1) internal (external (n - 2)))

-- name pos ret multi partial ctor xtor infallible, then the list
unfoldable pub term_of : List ℕ → Term
term_of ws = record {
  name = nth ws 0;
  pos = nth ws 1;
  ret_ty = nth ws 2;
  multi = flagged (nth ws 3);
  partial = flagged (nth ws 4);
  ctor = function_of (nth ws 5);
  xtor = function_of (nth ws 6);
  infallible = flagged (nth ws 7);
  arg_tys = drop 8 ws;
}

-- the kinds of bindings, in the order of their numbers, from a and b
abbrev pub binding_makers : List (ℕ → Wide → Binding)
binding_makers =
    (λ a b. ConstBool (flagged a)) ∷ (λ a b. ConstInt a (value_of b)) ∷ (λ a b. ConstPrim a) ∷ (λ a b. Argument a) ∷ (λ a b. Extractor a)
    ∷ (λ a b. Constructor a) ∷ (λ a b. Iterator) ∷ (λ a b. MakeVariant a b.low) ∷ (λ a b. MakeStruct a) ∷ (λ a b. MakeSome) ∷ (λ a b. MatchSome)
    ∷ (λ a b. MatchTuple a) ∷ (λ a b. MatchVariant a) ∷ (λ a b. ExtractStruct a) ∷ []

-- the kind k of binding
unfoldable pub binding_made : ℕ → ℕ → Wide → Binding
binding_made k = get_or binding_makers k (λ a b. Iterator)

-- four words from the word i on
abbrev pub wide_at : List ℕ → ℕ → Wide
wide_at ws i = let vs = drop i ws in record { low = nth vs 0; v1 = nth vs 1; v2 = nth vs 2; v3 = nth vs 3 }

-- kind a b v1 v2 v3, then the list
unfoldable pub binding_of : List ℕ → BindingRow
binding_of ws = record { binding = binding_made (nth ws 0) (nth ws 1) (wide_at ws 2); sources = drop 6 ws }

abbrev pub step_makers : List (ℕ → Wide → ControlFlow)
step_makers = (λ a b. Match a) ∷ (λ a b. Equal a b.low) ∷ (λ a b. Loop a) ∷ (λ a b. Return a b.low) ∷ []

-- the kind k of step
unfoldable pub step_made : ℕ → ℕ → Wide → ControlFlow
step_made k = get_or step_makers k (λ a b. Match a)

abbrev pub arm_makers : List (ℕ → Wide → Constraint)
arm_makers =
    (λ a b. constraint.ConstBool (flagged a)) ∷ (λ a b. constraint.ConstInt a (value_of b)) ∷ (λ a b. constraint.ConstPrim a)
    ∷ (λ a b. constraint.Variant a b.low) ∷ (λ a b. constraint.Struct a) ∷ (λ a b. constraint.Some) ∷ []

-- the kind k of arm, from 0
unfoldable pub arm_made : ℕ → ℕ → Wide → Constraint
arm_made k = get_or arm_makers k (λ a b. constraint.Some)

-- `_` is the word `unbound`
abbrev pub pattern_of : ℕ → Option ℕ
pattern_of n = cond (eqb n unbound) none (some n)

unfoldable pub patterns_in : List ℕ → List (Option ℕ)
patterns_in [] = []
patterns_in (n ∷ ws) = pattern_of n ∷ patterns_in ws

-- level kind a b v1 v2 v3, then the list; the kinds 0 to 3 are steps, 4 to 9 arms
unfoldable pub block_of : List ℕ → Row
block_of ws = cond (ltb (nth ws 1) 4)
    (step (nth ws 0) (step_made (nth ws 1) (nth ws 2) (wide_at ws 3)) (drop 7 ws))
    (arm (nth ws 0) (arm_made (nth ws 1 - 4) (nth ws 2) (wide_at ws 3)) (patterns_in (drop 7 ws)))
