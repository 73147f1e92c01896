-- What the words of a row say, by its kind. Assumes nothing.
use Prim.Native.Nat.{ℕ, zero, suc, ◌+◌, ◌-◌, ◌*◌, min}
use mathlib.Core.Path.{◌≡◌, refl, sym, ap, ◌∙◌}
use mathlib.Core.Bool.{Bool, true, false, cond}
use mathlib.Core.List.{List}
use native.Mathlib.Omega.{arith}
use lib.Dec.{eqb, ltb}
use lib.ListN.{drop}
use borrow.Author.Tests.{ne_eqb, eqb-true}
use lib.Seq.{get_or-drop}
use Rattle.plan.specs.Binding as binding
use Rattle.plan.specs.Constraint as constraint
use Rattle.plan.specs.Row as row
use Rattle.plan.specs.Plan.{Primitive, Enum, Struct, unit, named, tuple}
use Rattle.cells.specs.Value.{value_of}
use Rattle.rows.specs.View.{nth, wide_at, fields_in, shape_of, declared_of, type_of, binding_made, binding_of, step_made, arm_made}
use Rattle.rows.specs.Kinds.{shape_kind, shape_number, type_kind, binding_kind, binding_number, block_kind, block_number}
use Rattle.rows.specs.declared.kinds.TypeKind.{TypeKind}
use Rattle.rows.specs.declared.kinds.BindingKind.{BindingKind}
use Rattle.rows.specs.declared.kinds.BindingKind.TheVariants as b
use Rattle.rows.specs.declared.kinds.BlockKind.{BlockKind}
use Rattle.rows.specs.declared.kinds.BlockKind.TheVariants as k
use Rattle.rows.proofs.Numbers.{binding_read, step_read, arm_read, block_numbered, block_again}
use Rattle.rows.specs.declared.kinds.Shape.{Shape}
use Rattle.rows.specs.declared.kinds.Shape.TheVariants as kind
use Rattle.view.specs.Kinds.{type_by, binding_by, step_by, arm_by}
use Rattle.view.specs.Told.{fields_told, control_flow_of, constraint_of}

-- an integer's value in two halves, from the four words
pub halves : (a b c d : ℕ) → (c + 4294967296 * d) * 18446744073709551616 + (a + 4294967296 * b) ≡ value_of (record { low = a; v1 = b; v2 = c; v3 = d })
unfolding value_of
halves a b c d = omega arith

-- SHAPES

fields_made : (s : Shape) (n : ℕ) → s ≡ shape_kind n → (ws : List ℕ) → fields_told s ws ≡ shape_of n ws
unfolding shape_of
fields_made s n e ws = rw e (by_tests (eqb n 0) (eqb n 1)) where
  by_tests : (a b : Bool) → fields_told (cond a kind.Unit (cond b kind.Named kind.Tuple)) ws ≡ cond a unit (cond b (named (fields_in ws)) (tuple ws))
  by_tests true b = refl
  by_tests false true = refl
  by_tests false false = refl

pub shape_capped : (s : Shape) (n : ℕ) → s ≡ shape_kind (min n 2) → (ws : List ℕ) → fields_told s ws ≡ shape_of n ws
shape_capped s n e = fields_made s n (e ∙ grind arith)

pub fields_numbered : (s : Shape) (ws : List ℕ) → shape_of (shape_number s) ws ≡ fields_told s ws
unfolding shape_of
fields_numbered kind.Unit ws = refl
fields_numbered kind.Named ws = refl
fields_numbered kind.Tuple ws = refl

-- TYPES

pub type_by_kind : (ws : List ℕ) (k : TypeKind) → k ≡ type_kind (nth ws 0) → type_by k ws ≡ type_of ws
unfolding type_of shape_of
type_by_kind ws k e = rw e (by_number (nth ws 0)) where
  by_number : (n : ℕ) → type_by (type_kind n) ws ≡ cond (eqb n 0) (Primitive (nth ws 1)) (cond (eqb n 1) (Enum (declared_of ws)) (Struct (declared_of ws) (cond (eqb (n - 2) 0) unit (cond (eqb (n - 2) 1) (named (fields_in (drop 5 ws))) (tuple (drop 5 ws))))))
  by_number zero = refl
  by_number (suc zero) = refl
  by_number (suc (suc zero)) = refl
  by_number (suc (suc (suc zero))) = refl
  by_number (suc (suc (suc (suc n)))) =
      let z : suc (suc (suc (suc n))) - 2 ≡ suc (suc n) = omega arith in
      let a = ne_eqb (suc (suc (suc (suc n)))) 0 (λ q. absurd (omega arith)) in
      let b = ne_eqb (suc (suc (suc (suc n)))) 1 (λ q. absurd (omega arith)) in
      let c = ne_eqb (suc (suc (suc (suc n)))) 2 (λ q. absurd (omega arith)) in
      let d = ne_eqb (suc (suc (suc (suc n)))) 3 (λ q. absurd (omega arith)) in
      let e = ne_eqb (suc (suc n)) 0 (λ q. absurd (omega arith)) in
      let f = ne_eqb (suc (suc n)) 1 (λ q. absurd (omega arith)) in
      rw (a, b, c, d, z, e, f) refl

-- BINDINGS

-- the first of the four words from word i on
low_word : (ws : List ℕ) (i : ℕ) → nth ws (i + 0) ≡ (wide_at ws i).low
low_word ws i = sym (get_or-drop i ws 0 0)

binding_numbered_by : (k : BindingKind) (ws : List ℕ) → binding_by k ws ≡ binding_made (binding_number k) (nth ws 1) (wide_at ws 2)
unfolding binding_made
binding_numbered_by b.ConstBool ws = refl
binding_numbered_by b.ConstInt ws = refl
binding_numbered_by b.ConstPrim ws = refl
binding_numbered_by b.Argument ws = refl
binding_numbered_by b.Extractor ws = refl
binding_numbered_by b.Constructor ws = refl
binding_numbered_by b.Iterator ws = refl
binding_numbered_by b.MakeVariant ws = ap (binding.MakeVariant (nth ws 1)) (low_word ws 2)
binding_numbered_by b.MakeStruct ws = refl
binding_numbered_by b.MakeSome ws = refl
binding_numbered_by b.MatchSome ws = refl
binding_numbered_by b.MatchTuple ws = refl
binding_numbered_by b.MatchVariant ws = refl
binding_numbered_by b.ExtractStruct ws = refl

pub binding_by_kind : (ws : List ℕ) (k : BindingKind) → k ≡ binding_kind (nth ws 0) → binding_by k ws ≡ (binding_of ws).binding
unfolding binding_of
binding_by_kind ws k e = rw (binding_numbered_by k ws, e, binding_read (nth ws 0))

-- ROWS OF A BLOCK

step_numbered_by : (k : BlockKind) (ws : List ℕ) → step_by k ws ≡ step_made (block_number k) (nth ws 2) (wide_at ws 3)
unfolding step_made
step_numbered_by k.Match ws = refl
step_numbered_by k.Equal ws = ap (row.Equal (nth ws 2)) (low_word ws 3)
step_numbered_by k.Loop ws = refl
step_numbered_by k.Return ws = ap (row.Return (nth ws 2)) (low_word ws 3)
step_numbered_by k.ConstBool ws = refl
step_numbered_by k.ConstInt ws = refl
step_numbered_by k.ConstPrim ws = refl
step_numbered_by k.Variant ws = refl
step_numbered_by k.Struct ws = refl
step_numbered_by k.Some ws = refl

arm_numbered_by : (k : BlockKind) (ws : List ℕ) → arm_by k ws ≡ arm_made (block_number k - 4) (nth ws 2) (wide_at ws 3)
unfolding arm_made
arm_numbered_by k.Match ws = refl
arm_numbered_by k.Equal ws = refl
arm_numbered_by k.Loop ws = refl
arm_numbered_by k.Return ws = refl
arm_numbered_by k.ConstBool ws = refl
arm_numbered_by k.ConstInt ws = refl
arm_numbered_by k.ConstPrim ws = refl
arm_numbered_by k.Variant ws = ap (constraint.Variant (nth ws 2)) (low_word ws 3)
arm_numbered_by k.Struct ws = refl
arm_numbered_by k.Some ws = refl

pub step_by_kind : (ws : List ℕ) (k : BlockKind) → k ≡ block_kind (nth ws 1) → step_by k ws ≡ control_flow_of ws
step_by_kind ws k e = rw (step_numbered_by k ws, e, step_read (nth ws 1))

pub arm_by_kind : (ws : List ℕ) (k : BlockKind) → k ≡ block_kind (nth ws 1) → arm_by k ws ≡ constraint_of ws
arm_by_kind ws k e = rw (arm_numbered_by k ws, e, arm_read (nth ws 1))

pub is_step_by_kind : (n : ℕ) → ltb (block_number (block_kind n)) 4 ≡ ltb n 4
is_step_by_kind n = rw (block_numbered n) (grind arith)

pub is_return_by_kind : (n : ℕ) → eqb (block_number (block_kind n)) 3 ≡ eqb n 3
is_return_by_kind n = rw (block_numbered n) (grind arith)

-- kinds that differ have numbers that do
pub other_kind : (k j : BlockKind) → (k ≡ j → ⊥) → eqb (block_number k) (block_number j) ≡ false
other_kind k j n = by_test (eqb (block_number k) (block_number j)) refl where
  by_test : (t : Bool) → eqb (block_number k) (block_number j) ≡ t → t ≡ false
  by_test true h = absurd (n (sym (block_again k) ∙ ap block_kind (eqb-true (block_number k) (block_number j) h) ∙ block_again j))
  by_test false h = refl
