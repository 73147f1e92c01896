-- Expressions: codegen.rs 915, `emit_expr`, and 1063, `emit_source`. Assumes nothing: these are definitions.
use Rattle.std.specs.Prelude.{ℕ, zero, suc, Bool, true, false, cond, not, ◌&&◌, List, [], ◌∷◌, ◌++◌, slice_index}
use Rattle.std.specs.Prelude.{refl}
use Rattle.plan.specs.Plan.{Fields, Environment}
use Rattle.plan.specs.Binding.{Binding, BindingRow, ConstBool, ConstInt, ConstPrim, Argument, Extractor, Constructor, Iterator, MakeVariant, MakeStruct, MakeSome, MatchSome, MatchTuple, MatchVariant, ExtractStruct}
use Rattle.plan.specs.Constraint as constraint
use Rattle.plan.specs.Constraint.{Constraint}
use Rattle.plan.specs.Lookup.{type_at, variant_at, fields_of, term_at, binding_at}
use Rattle.codegen.specs.Piece.{Piece, fix, sym, type, num, var, lit, brace, unbrace, break}
use Rattle.codegen.specs.Writer.{Marks, contains, Writer, say, mark, ask, ◌▸◌, nothing}
use Rattle.codegen.specs.ReturnKind.{by_return_kind}
use Rattle.codegen.specs.Sema.{is_ref, int_type, field_name, ExternalSig, extractor_sig, constructor_sig}

-- codegen.rs 1175: `emit_bool`
abbrev pub emit_bool : Bool → Piece
emit_bool true = fix "true" refl
emit_bool false = fix "false" refl

-- codegen.rs 1183: `emit_int`
abbrev pub emit_int : Environment → ℕ → ℕ → Piece
emit_int e n v = lit (int_type (type_at e n)) v

-- THE CLOSURE `call`: codegen.rs 922

-- before and after a parameter, by whether a reference is wanted and whether it is one
unfoldable pub passed : Bool → Bool → Writer → Writer
passed true true w = w
passed true false w = say (fix "&" refl ∷ []) ▸ w
passed false true w = w ▸ say (fix ".clone()" refl ∷ [])
passed false false w = w

-- each parameter is asked about before it is written
unfoldable pub parameters : Environment → (ℕ → Writer) → List ℕ → List ℕ → Writer
parameters e rec [] ts = nothing
parameters e rec (q ∷ qs) [] = nothing
parameters e rec (q ∷ qs) (t ∷ ts) = say (fix ", " refl ∷ []) ▸ ask q (λ r. passed (is_ref e t) r (rec q)) ▸ parameters e rec qs ts

-- the result is a reference if one type is returned, and that is one
unfoldable pub returns_ref : Environment → List ℕ → Bool
returns_ref e [] = false
returns_ref e (t ∷ []) = is_ref e t
returns_ref e (t ∷ u ∷ ts) = false

unfoldable pub call : Environment → (ℕ → Writer) → ℕ → ExternalSig → List ℕ → Writer
call e rec b g qs =
    cond (returns_ref e g.ret_tys) (mark b ▸ say (fix "&" refl ∷ [])) nothing
    ▸ say (g.full_name ++ (fix "(ctx" refl ∷ []))
    ▸ parameters e rec qs g.param_tys
    ▸ say (by_return_kind g.ret_kind (fix ", &mut " refl ∷ var b ∷ []) [] [] ++ (fix ")" refl ∷ []))

-- THE CLOSURE `extract_fields`: codegen.rs 955

abbrev pub cloned : Bool → Writer
cloned r = cond r (say (fix ".clone()" refl ∷ [])) nothing

-- fields from number i on, each on a line d deep, and asked about after it is written
unfoldable pub field_lines : (ℕ → Writer) → Fields → ℕ → ℕ → List ℕ → Writer
field_lines rec f d i [] = nothing
field_lines rec f d i (q ∷ qs) =
    say (break d ∷ field_name f i ∷ fix ": " refl ∷ []) ▸ rec q ▸ ask q cloned ▸ say (fix "," refl ∷ []) ▸ field_lines rec f d (suc i) qs

unfoldable pub extract_fields : (ℕ → ℕ → Writer) → Fields → ℕ → List ℕ → Writer
extract_fields rec f d [] = nothing
extract_fields rec f d (q ∷ qs) = say (brace ∷ []) ▸ field_lines (rec (suc d)) f (suc d) 0 (q ∷ qs) ▸ say (break d ∷ unbrace ∷ [])

-- EXPRESSIONS

-- binding b, which has no name; `rec` writes a source that begins at a depth
unfoldable pub emit_binding : Environment → (ℕ → ℕ → Writer) → ℕ → ℕ → Binding → List ℕ → Writer
emit_binding e rec d b (ConstBool v) qs = say (emit_bool v ∷ [])
emit_binding e rec d b (ConstInt n v) qs = say (emit_int e n v ∷ [])
emit_binding e rec d b (ConstPrim n) qs = say (sym n ∷ [])
emit_binding e rec d b (Argument i) qs = say (fix "arg" refl ∷ num i ∷ [])
emit_binding e rec d b (Extractor m) qs = call e (rec d) b (extractor_sig (term_at e m)) qs
emit_binding e rec d b (Constructor m) qs = call e (rec d) b (constructor_sig (term_at e m)) qs
emit_binding e rec d b (MakeVariant n k) qs =
    let v = variant_at e n k in
    say (type n ∷ fix "::" refl ∷ sym v.name ∷ []) ▸ extract_fields rec v.fields d qs
emit_binding e rec d b (MakeStruct n) qs = say (type n ∷ []) ▸ extract_fields rec (fields_of (type_at e n)) d qs
emit_binding e rec d b MakeSome qs = say (fix "Some(" refl ∷ []) ▸ rec d (slice_index qs 0) ▸ say (fix ")" refl ∷ [])
emit_binding e rec d b MatchSome qs = rec d (slice_index qs 0) ▸ ask (slice_index qs 0) (λ r. say (cond r (fix ".as_ref()?" refl) (fix "?" refl) ∷ []))
emit_binding e rec d b (MatchTuple f) qs = rec d (slice_index qs 0) ▸ say (fix "." refl ∷ num f ∷ [])
emit_binding e rec d b (MatchVariant f) qs = rec d (slice_index qs 0) ▸ say (fix "." refl ∷ num f ∷ fix " /*FIXME*/" refl ∷ [])
emit_binding e rec d b (ExtractStruct f) qs = rec d (slice_index qs 0) ▸ say (fix "." refl ∷ num f ∷ fix " /*FIXME*/" refl ∷ [])
emit_binding e rec d b Iterator qs = rec d (slice_index qs 0) ▸ say (fix ".next() /*FIXME*/" refl ∷ [])

-- the expression of binding b, whose lines after the first are d deeper than it. A source has a lower number than its binding,
-- so a k above b never runs out.
unfoldable pub emit_below : Environment → List BindingRow → Marks → ℕ → ℕ → ℕ → Writer
emit_below e bs bound zero d b = nothing
emit_below e bs bound (suc k) d b =
    let row = binding_at bs b in
    let through = emit_binding e (emit_below e bs bound k) d b row.binding row.sources in
    cond (contains bound b) (say (var b ∷ [])) through

unfoldable pub emit_expr : Environment → List BindingRow → Marks → ℕ → Writer
emit_expr e bs bound b = emit_below e bs bound (suc b) 0 b

-- a match's source. A pattern of a variant or a struct wants a reference, and this is asked before the source is written.
abbrev pub wants_ref : Constraint → Bool
wants_ref (constraint.ConstBool v) = false
wants_ref (constraint.ConstInt n v) = false
wants_ref (constraint.ConstPrim n) = false
wants_ref (constraint.Variant n k) = true
wants_ref (constraint.Struct n) = true
wants_ref constraint.Some = false

unfoldable pub emit_source : Environment → List BindingRow → Marks → ℕ → Constraint → Writer
emit_source e bs bound q c = ask q (λ r. say (cond (wants_ref c && not r) (fix "&" refl ∷ []) [])) ▸ emit_expr e bs bound q
