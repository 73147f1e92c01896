-- What stands before, between and after the sources of a binding, and how many are written. Assumes nothing: these are definitions.
use Rattle.std.specs.Prelude.{ℕ, zero, suc, ◌-◌, min, refl, Bool, cond, not, ◌&&◌, List, [], ◌∷◌, ◌++◌, length, get_or}
use Rattle.plan.specs.Plan.{Fields, Environment}
use Rattle.plan.specs.Binding.{Binding, BindingRow, ConstBool, ConstInt, ConstPrim, Argument, Extractor, Constructor, Iterator, MakeVariant, MakeStruct, MakeSome, MatchSome, MatchTuple, MatchVariant, ExtractStruct}
use Rattle.plan.specs.Lookup.{type_at, variant_at, fields_of, term_at, binding_at}
use Rattle.view.specs.Buffers.{bindings_in}
use Rattle.view.specs.declared.bindings.Bindings.{Bindings}
use Rattle.codegen.specs.Piece.{fix, sym, type, num, var, brace, unbrace, break}
use Rattle.codegen.specs.ReturnKind.{by_return_kind}
use Rattle.codegen.specs.Sema.{is_ref, field_name, ExternalSig, extractor_sig, constructor_sig}
use Rattle.codegen.specs.Writer.{Marks, contains, Writer, say, mark, ask, ◌▸◌, nothing}
use Rattle.codegen.specs.Expr.{emit_bool, emit_int, returns_ref, cloned, emit_binding}
use Rattle.expr_parts.specs.Sources.{after_one}

-- binding b of a term
abbrev pub row_of : Bindings → ℕ → BindingRow
row_of bs b = binding_at (bindings_in bs.plan.now bs.table) b

-- how many sources are written
abbrev pub source_count : Environment → Binding → List ℕ → ℕ
source_count e (ConstBool v) qs = 0
source_count e (ConstInt n v) qs = 0
source_count e (ConstPrim n) qs = 0
source_count e (Argument i) qs = 0
source_count e (Extractor m) qs = min (length qs) (length (extractor_sig (term_at e m)).param_tys)
source_count e (Constructor m) qs = min (length qs) (length (constructor_sig (term_at e m)).param_tys)
source_count e Iterator qs = 1
source_count e (MakeVariant n k) qs = length qs
source_count e (MakeStruct n) qs = length qs
source_count e MakeSome qs = 1
source_count e MatchSome qs = 1
source_count e (MatchTuple f) qs = 1
source_count e (MatchVariant f) qs = 1
source_count e (ExtractStruct f) qs = 1

-- the depth of the sources of a binding at depth d
abbrev pub inner : Binding → ℕ → ℕ
inner (ConstBool v) d = d
inner (ConstInt n v) d = d
inner (ConstPrim n) d = d
inner (Argument i) d = d
inner (Extractor m) d = d
inner (Constructor m) d = d
inner Iterator d = d
inner (MakeVariant n k) d = suc d
inner (MakeStruct n) d = suc d
inner MakeSome d = d
inner MatchSome d = d
inner (MatchTuple f) d = d
inner (MatchVariant f) d = d
inner (ExtractStruct f) d = d

-- CALLS: what stands before the parameters, before and after a parameter, of which it is known whether it is a reference, and at the end

abbrev pub call_head : Environment → ℕ → ExternalSig → Writer
call_head e b g = cond (returns_ref e g.ret_tys) (mark b ▸ say (fix "&" refl ∷ [])) nothing ▸ say (g.full_name ++ (fix "(ctx" refl ∷ []))

abbrev pub before_parameter : Environment → ExternalSig → ℕ → Bool → Writer
before_parameter e g i given = say (fix ", " refl ∷ []) ▸ say (cond (is_ref e (get_or g.param_tys i 0) && not given) (fix "&" refl ∷ []) [])

abbrev pub after_parameter : Environment → ExternalSig → ℕ → Bool → Writer
after_parameter e g i given = say (cond (given && not (is_ref e (get_or g.param_tys i 0))) (fix ".clone()" refl ∷ []) [])

abbrev pub call_end : ℕ → ExternalSig → Writer
call_end b g = say (by_return_kind g.ret_kind (fix ", &mut " refl ∷ var b ∷ []) [] [] ++ (fix ")" refl ∷ []))

-- FIELDS: the same

abbrev pub opens : List ℕ → Writer
opens [] = nothing
opens (q ∷ qs) = say (brace ∷ [])

abbrev pub before_field : Fields → ℕ → ℕ → Writer
before_field f d i = say (break d ∷ field_name f i ∷ fix ": " refl ∷ [])

abbrev pub after_field : ℕ → Writer
after_field q = ask q cloned ▸ say (fix "," refl ∷ [])

abbrev pub closes : ℕ → List ℕ → Writer
closes d [] = nothing
closes d (q ∷ qs) = say (break d ∷ unbrace ∷ [])

-- BY THE KIND: what stands before all sources

abbrev pub begins : Environment → ℕ → Binding → List ℕ → Writer
begins e b (ConstBool v) qs = say (emit_bool v ∷ [])
begins e b (ConstInt n v) qs = say (emit_int e n v ∷ [])
begins e b (ConstPrim n) qs = say (sym n ∷ [])
begins e b (Argument i) qs = say (fix "arg" refl ∷ num i ∷ [])
begins e b (Extractor m) qs = call_head e b (extractor_sig (term_at e m))
begins e b (Constructor m) qs = call_head e b (constructor_sig (term_at e m))
begins e b Iterator qs = nothing
begins e b (MakeVariant n k) qs = say (type n ∷ fix "::" refl ∷ sym (variant_at e n k).name ∷ []) ▸ opens qs
begins e b (MakeStruct n) qs = say (type n ∷ []) ▸ opens qs
begins e b MakeSome qs = say (fix "Some(" refl ∷ [])
begins e b MatchSome qs = nothing
begins e b (MatchTuple f) qs = nothing
begins e b (MatchVariant f) qs = nothing
begins e b (ExtractStruct f) qs = nothing

-- before source i, whose depth is d and of which it is known whether it is a reference
abbrev pub before_source : Environment → ℕ → Binding → ℕ → Bool → Writer
before_source e d (ConstBool v) i given = nothing
before_source e d (ConstInt n v) i given = nothing
before_source e d (ConstPrim n) i given = nothing
before_source e d (Argument x) i given = nothing
before_source e d (Extractor m) i given = before_parameter e (extractor_sig (term_at e m)) i given
before_source e d (Constructor m) i given = before_parameter e (constructor_sig (term_at e m)) i given
before_source e d Iterator i given = nothing
before_source e d (MakeVariant n k) i given = before_field (variant_at e n k).fields d i
before_source e d (MakeStruct n) i given = before_field (fields_of (type_at e n)) d i
before_source e d MakeSome i given = nothing
before_source e d MatchSome i given = nothing
before_source e d (MatchTuple f) i given = nothing
before_source e d (MatchVariant f) i given = nothing
before_source e d (ExtractStruct f) i given = nothing

-- after source i, which is q, and of which it is known whether it was a reference before it was written
abbrev pub after_source : Environment → Binding → ℕ → ℕ → Bool → Writer
after_source e (ConstBool v) i q given = nothing
after_source e (ConstInt n v) i q given = nothing
after_source e (ConstPrim n) i q given = nothing
after_source e (Argument x) i q given = nothing
after_source e (Extractor m) i q given = after_parameter e (extractor_sig (term_at e m)) i given
after_source e (Constructor m) i q given = after_parameter e (constructor_sig (term_at e m)) i given
after_source e Iterator i q given = after_one Iterator q
after_source e (MakeVariant n k) i q given = after_field q
after_source e (MakeStruct n) i q given = after_field q
after_source e MakeSome i q given = after_one MakeSome q
after_source e MatchSome i q given = after_one MatchSome q
after_source e (MatchTuple f) i q given = after_one (MatchTuple f) q
after_source e (MatchVariant f) i q given = after_one (MatchVariant f) q
after_source e (ExtractStruct f) i q given = after_one (ExtractStruct f) q

-- after all sources
abbrev pub ends : Environment → ℕ → ℕ → Binding → List ℕ → Writer
ends e d b (ConstBool v) qs = nothing
ends e d b (ConstInt n v) qs = nothing
ends e d b (ConstPrim n) qs = nothing
ends e d b (Argument i) qs = nothing
ends e d b (Extractor m) qs = call_end b (extractor_sig (term_at e m))
ends e d b (Constructor m) qs = call_end b (constructor_sig (term_at e m))
ends e d b Iterator qs = nothing
ends e d b (MakeVariant n k) qs = closes d qs
ends e d b (MakeStruct n) qs = closes d qs
ends e d b MakeSome qs = nothing
ends e d b MatchSome qs = nothing
ends e d b (MatchTuple f) qs = nothing
ends e d b (MatchVariant f) qs = nothing
ends e d b (ExtractStruct f) qs = nothing

-- BETWEEN: up to source i, of which there are `left` more with it: from the start, or from after the source before, then up to it or to the end

abbrev pub first_part : Environment → ℕ → Binding → List ℕ → ℕ → Bool → Writer
first_part e b k qs zero given = begins e b k qs
first_part e b k qs (suc i) given = after_source e k i (get_or qs i 0) given

abbrev pub turn_next : (ℕ → Bool → Writer) → List ℕ → Writer → ℕ → ℕ → Writer
turn_next before qs end i zero = end
turn_next before qs end i (suc left) = ask (get_or qs i 0) (before i)

abbrev pub next_part : Environment → ℕ → ℕ → Binding → List ℕ → ℕ → ℕ → Writer
next_part e d b k qs i left = turn_next (before_source e (inner k d) k) qs (ends e d b k qs) i left

-- all up to source i of binding b; a binding that has a name has no sources
abbrev pub up_to : Environment → Marks → ℕ → ℕ → Binding → List ℕ → ℕ → Bool → Writer
up_to e bound d b k qs i given = cond (contains bound b) (say (var b ∷ [])) (first_part e b k qs i given ▸ next_part e d b k qs i (source_count e k qs - i))

-- source i and all that stands after it, by what stands before and after a source and at the end
unfoldable pub turns : (ℕ → Bool → Writer) → (ℕ → Writer) → (ℕ → ℕ → Bool → Writer) → List ℕ → Writer → ℕ → ℕ → Writer
turns before rec after qs end i zero = nothing
turns before rec after qs end i (suc left) =
    ask (get_or qs i 0) (λ r. rec (get_or qs i 0) ▸ after i (get_or qs i 0) r) ▸ turn_next before qs end (suc i) left ▸ turns before rec after qs end (suc i) left

abbrev pub from_source : Environment → (ℕ → ℕ → Writer) → ℕ → ℕ → Binding → List ℕ → ℕ → ℕ → Writer
from_source e rec d b k qs i left = turns (before_source e (inner k d) k) (rec (inner k d)) (after_source e k) qs (ends e d b k qs) i left

abbrev pub from_here : Environment → Marks → (ℕ → ℕ → Writer) → ℕ → ℕ → Binding → List ℕ → ℕ → Writer
from_here e bound rec d b k qs i = cond (contains bound b) nothing (from_source e rec d b k qs i (source_count e k qs - i))

-- the whole
abbrev pub entire : Environment → Marks → (ℕ → ℕ → Writer) → ℕ → ℕ → Binding → List ℕ → Writer
entire e bound rec d b k qs = cond (contains bound b) (say (var b ∷ [])) (emit_binding e rec d b k qs)
