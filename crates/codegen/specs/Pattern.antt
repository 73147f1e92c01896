-- Patterns: codegen.rs 1077, `emit_constraint`, and 1136, `emit_fields`. Assumes nothing: these are definitions.
use Rattle.std.specs.Prelude.{ℕ, suc, Bool, true, false, cond, List, [], ◌∷◌, ◌++◌}
use Rattle.std.specs.Prelude.{refl}
use Rattle.std.proofs.Math.Option.{Option, some, none}
use Rattle.plan.specs.Plan.{Fields, Environment}
use Rattle.plan.specs.Constraint.{Constraint, ConstBool, ConstInt, ConstPrim, Variant, Struct, Some}
use Rattle.plan.specs.Lookup.{type_at, variant_at, fields_of}
use Rattle.codegen.specs.Piece.{fix, sym, type, new, brace, unbrace, break}
use Rattle.codegen.specs.Writer.{Marks, insert, Writer, say, mark, ask, ◌▸◌, nothing}
use Rattle.codegen.specs.Sema.{is_ref, field_name, field_type}
use Rattle.codegen.specs.Expr.{emit_bool, emit_int}

-- the bindings of a pattern have names from here on
unfoldable pub bind_all : List (Option ℕ) → Marks → Marks
bind_all [] m = m
bind_all (none ∷ bs) m = bind_all bs m
bind_all (some b ∷ bs) m = bind_all bs (insert m b)

unfoldable pub field_patterns : Environment → Fields → ℕ → List (Option ℕ) → Writer
field_patterns e f i [] = nothing
field_patterns e f i (none ∷ bs) = field_patterns e f (suc i) bs
field_patterns e f i (some b ∷ bs) =
    say (break 1 ∷ field_name f i ∷ fix ": " refl ∷ [])
    ▸ cond (is_ref e (field_type f i)) (mark b ▸ say (fix "ref " refl ∷ [])) nothing
    ▸ say (new b ∷ fix "," refl ∷ [])
    ▸ field_patterns e f (suc i) bs

unfoldable pub skipped_some : List (Option ℕ) → Bool
skipped_some [] = false
skipped_some (none ∷ bs) = true
skipped_some (some b ∷ bs) = skipped_some bs

unfoldable pub emit_fields : Environment → Fields → List (Option ℕ) → Writer
emit_fields e f [] = nothing
emit_fields e f (b ∷ bs) =
    say (brace ∷ []) ▸ field_patterns e f 0 (b ∷ bs)
    ▸ say (cond (skipped_some (b ∷ bs)) (break 1 ∷ fix ".." refl ∷ []) [] ++ (break 0 ∷ unbrace ∷ []))

-- what stands inside `Some(` and `)`: a reference if the source is one
unfoldable pub inside_some : ℕ → List (Option ℕ) → Writer
inside_some q [] = nothing
inside_some q (none ∷ bs) = say (fix "_" refl ∷ [])
inside_some q (some b ∷ bs) = ask q (λ r. cond r (mark b) nothing) ▸ say (new b ∷ [])

-- of a match whose source is q
unfoldable pub emit_constraint : Environment → ℕ → Constraint → List (Option ℕ) → Writer
emit_constraint e q (ConstBool v) bs = say (emit_bool v ∷ [])
emit_constraint e q (ConstInt n v) bs = say (emit_int e n v ∷ [])
emit_constraint e q (ConstPrim n) bs = say (sym n ∷ [])
emit_constraint e q (Variant n k) bs =
    let v = variant_at e n k in
    say (fix "&" refl ∷ type n ∷ fix "::" refl ∷ sym v.name ∷ []) ▸ emit_fields e v.fields bs
emit_constraint e q (Struct n) bs = say (fix "&" refl ∷ type n ∷ []) ▸ emit_fields e (fields_of (type_at e n)) bs
emit_constraint e q Some bs = say (fix "Some(" refl ∷ []) ▸ inside_some q bs ▸ say (fix ")" refl ∷ [])
