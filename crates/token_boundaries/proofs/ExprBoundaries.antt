-- What expressions and patterns write, where a literal or a quoted text may begin: each among them stands as it must, and what they
-- end with may be one. Assumes nothing.
use Prim.Native.Nat.{ℕ, zero, suc}
use Rattle.std.specs.Prelude.{Bool, true, false, ◌&&◌, get_or}
use Rattle.std.proofs.Math.Path.{refl}
use Rattle.std.proofs.Math.Bool.{not}
use Rattle.std.proofs.Math.Option.{Option, some, none}
use mathlib.Core.List.{List, [], ◌∷◌, ◌++◌}
use Rattle.plan.specs.Plan.{Fields, unit, named, tuple, FunctionKind, absent, internal, external, Term, Environment}
use Rattle.plan.specs.Binding.{Binding, BindingRow, ConstBool, ConstInt, ConstPrim, Argument, Extractor, Constructor, Iterator, MakeVariant, MakeStruct, MakeSome, MatchSome, MatchTuple, MatchVariant, ExtractStruct}
use Rattle.plan.specs.Constraint as constraint
use Rattle.plan.specs.Constraint.{Constraint}
use Rattle.plan.specs.Lookup.{type_at, variant_at, fields_of, term_at, binding_at}
use Rattle.codegen.specs.Piece.{Piece, fix, sym, break, unbrace}
use Rattle.codegen.specs.Writer.{Marks, contains, Writer, say}
use Rattle.codegen.specs.Sema.{is_ref, field_name, field_type, ExternalSig, full_name_of, extractor_sig, constructor_sig}
use Rattle.codegen.specs.Expr.{passed, parameters, returns_ref, call, cloned, field_lines, extract_fields, emit_binding, emit_below, emit_expr, wants_ref, emit_source}
use Rattle.codegen.specs.Pattern.{field_patterns, skipped_some, emit_fields, inside_some, emit_constraint}
use Rattle.origin.proofs.PieceOrigins.{either, by_kind}
use Rattle.token_boundaries.specs.PieceBoundaries.{is_separated, sound, Leads, keeps, separates, writes, closes, marks, asks, ◌⨾◌}

-- NAMES

-- the line of a field, up to its value
field_begins : (f : Fields) (d i : ℕ) → Leads sound (say (break d ∷ field_name f i ∷ fix ": " refl ∷ [])) is_separated
unfolding field_name
field_begins unit d i = separates refl
field_begins (named fs) d i = separates refl
field_begins (tuple ts) d i = separates refl

-- a call, up to its first parameter
pub record Named (g : ExternalSig) : Type 0 where
  pub full : Leads is_separated (say (g.full_name ++ (fix "(ctx" refl ∷ []))) sound

full_name_leads : (k : FunctionKind) (t : Piece) (m : Term) → Leads is_separated (say (t ∷ sym m.name ∷ fix "(ctx" refl ∷ [])) sound → Leads is_separated (say (full_name_of k t m ++ (fix "(ctx" refl ∷ []))) sound
unfolding full_name_of
full_name_leads absent t m h = writes refl
full_name_leads internal t m h = h
full_name_leads (external n) t m h = writes refl

extractor_named : (m : Term) → Named (extractor_sig m)
unfolding extractor_sig
extractor_named m = record { full = full_name_leads m.xtor _ m (writes refl) }

constructor_named : (m : Term) → Named (constructor_sig m)
unfolding constructor_sig
constructor_named m = record { full = full_name_leads m.ctor _ m (writes refl) }

-- EXPRESSIONS

abbrev pub Value : Writer → Type 0
Value w = Leads is_separated w sound

passed_leads : (a b : Bool) (w : Writer) → Value w → Value (passed a b w)
unfolding passed
passed_leads true true w h = h
passed_leads true false w h = keeps refl ⨾ h
passed_leads false true w h = h ⨾ closes refl
passed_leads false false w h = h

pub cloned_leads : (r : Bool) → Leads sound (cloned r) sound
cloned_leads true = closes refl
cloned_leads false = closes refl

module _ (e : Environment) (rec : ℕ → Writer) (f : (q : ℕ) → Value (rec q)) where
  parameters_lead : (qs ts : List ℕ) → Leads sound (parameters e rec qs ts) sound
  unfolding parameters
  parameters_lead [] ts = closes refl
  parameters_lead (q ∷ qs) [] = closes refl
  parameters_lead (q ∷ qs) (t ∷ ts) = separates refl ⨾ asks (λ r. passed_leads (is_ref e t) r (rec q) (f q)) ⨾ parameters_lead qs ts

  call_leads : (b : ℕ) (g : ExternalSig) (qs : List ℕ) → Named g → Value (call e rec b g qs)
  unfolding call
  call_leads b g qs n =
      either (λ w. Leads is_separated w is_separated) (returns_ref e g.ret_tys) (marks ⨾ keeps refl) (keeps refl)
      ⨾ n.full
      ⨾ parameters_lead qs g.param_tys
      ⨾ by_kind (λ ps. Leads sound (say (ps ++ (fix ")" refl ∷ []))) sound) g.ret_kind (closes refl) (closes refl) (closes refl)

  field_lines_lead : (x : Fields) (d i : ℕ) (qs : List ℕ) → Leads sound (field_lines rec x d i qs) sound
  unfolding field_lines
  field_lines_lead x d i [] = closes refl
  field_lines_lead x d i (q ∷ qs) = field_begins x d i ⨾ f q ⨾ asks cloned_leads ⨾ closes refl ⨾ field_lines_lead x d (suc i) qs

module _ (e : Environment) (rec : ℕ → ℕ → Writer) (f : (d q : ℕ) → Value (rec d q)) where
  extract_fields_lead : (x : Fields) (d : ℕ) (qs : List ℕ) → Leads sound (extract_fields rec x d qs) sound
  unfolding extract_fields
  extract_fields_lead x d [] = closes refl
  extract_fields_lead x d (q ∷ qs) = closes refl ⨾ field_lines_lead e (rec (suc d)) (f (suc d)) x (suc d) 0 (q ∷ qs) ⨾ closes refl

  emit_binding_leads : (d b : ℕ) (k : Binding) (qs : List ℕ) → Value (emit_binding e rec d b k qs)
  unfolding emit_binding
  emit_binding_leads d b (ConstBool true) qs = writes refl
  emit_binding_leads d b (ConstBool false) qs = writes refl
  emit_binding_leads d b (ConstInt n v) qs = writes refl
  emit_binding_leads d b (ConstPrim n) qs = writes refl
  emit_binding_leads d b (Argument i) qs = writes refl
  emit_binding_leads d b (Extractor m) qs = call_leads e (rec d) (f d) b _ qs (extractor_named (term_at e m))
  emit_binding_leads d b (Constructor m) qs = call_leads e (rec d) (f d) b _ qs (constructor_named (term_at e m))
  emit_binding_leads d b (MakeVariant n k) qs = writes refl ⨾ extract_fields_lead (variant_at e n k).fields d qs
  emit_binding_leads d b (MakeStruct n) qs = writes refl ⨾ extract_fields_lead (fields_of (type_at e n)) d qs
  emit_binding_leads d b MakeSome qs = keeps refl ⨾ f d (get_or qs 0 0) ⨾ closes refl
  emit_binding_leads d b MatchSome qs = f d (get_or qs 0 0) ⨾ asks (λ r. either (λ p. Leads sound (say (p ∷ [])) sound) r (closes refl) (closes refl))
  emit_binding_leads d b (MatchTuple i) qs = f d (get_or qs 0 0) ⨾ closes refl
  emit_binding_leads d b (MatchVariant i) qs = f d (get_or qs 0 0) ⨾ closes refl
  emit_binding_leads d b (ExtractStruct i) qs = f d (get_or qs 0 0) ⨾ closes refl
  emit_binding_leads d b Iterator qs = f d (get_or qs 0 0) ⨾ closes refl

module _ (e : Environment) (bs : List BindingRow) (bound : Marks) where
  emit_below_leads : (k d b : ℕ) → Value (emit_below e bs bound k d b)
  unfolding emit_below
  emit_below_leads zero d b = writes refl
  emit_below_leads (suc k) d b =
      either Value (contains bound b) (writes refl) (emit_binding_leads e (emit_below e bs bound k) (emit_below_leads k) d b (binding_at bs b).binding (binding_at bs b).sources)

  pub emit_expr_leads : (b : ℕ) → Value (emit_expr e bs bound b)
  unfolding emit_expr
  emit_expr_leads b = emit_below_leads (suc b) 0 b

  pub emit_source_leads : (q : ℕ) (c : Constraint) → Value (emit_source e bs bound q c)
  unfolding emit_source
  emit_source_leads q c = asks (λ r. either (λ ps. Leads is_separated (say ps) is_separated) (wants_ref c && not r) (keeps refl) (keeps refl)) ⨾ emit_expr_leads q

-- PATTERNS

module _ (e : Environment) where
  field_patterns_lead : (f : Fields) (i : ℕ) (bs : List (Option ℕ)) → Leads sound (field_patterns e f i bs) sound
  unfolding field_patterns
  field_patterns_lead f i [] = closes refl
  field_patterns_lead f i (none ∷ bs) = field_patterns_lead f (suc i) bs
  field_patterns_lead f i (some b ∷ bs) =
      field_begins f 1 i ⨾ either (λ w. Leads is_separated w is_separated) (is_ref e (field_type f i)) (marks ⨾ keeps refl) (keeps refl) ⨾ writes refl ⨾ field_patterns_lead f (suc i) bs

  emit_fields_lead : (f : Fields) (bs : List (Option ℕ)) → Leads sound (emit_fields e f bs) sound
  unfolding emit_fields
  emit_fields_lead f [] = closes refl
  emit_fields_lead f (b ∷ bs) =
      closes refl ⨾ field_patterns_lead f 0 (b ∷ bs) ⨾ either (λ ps. Leads sound (say (ps ++ (break 0 ∷ unbrace ∷ []))) sound) (skipped_some (b ∷ bs)) (closes refl) (closes refl)

  inside_some_leads : (q : ℕ) (bs : List (Option ℕ)) → Value (inside_some q bs)
  unfolding inside_some
  inside_some_leads q [] = writes refl
  inside_some_leads q (none ∷ bs) = writes refl
  inside_some_leads q (some b ∷ bs) = asks (λ r. either (λ w. Leads is_separated w is_separated) r marks (keeps refl)) ⨾ writes refl

  pub emit_constraint_leads : (q : ℕ) (c : Constraint) (bs : List (Option ℕ)) → Value (emit_constraint e q c bs)
  unfolding emit_constraint
  emit_constraint_leads q (constraint.ConstBool true) bs = writes refl
  emit_constraint_leads q (constraint.ConstBool false) bs = writes refl
  emit_constraint_leads q (constraint.ConstInt n v) bs = writes refl
  emit_constraint_leads q (constraint.ConstPrim n) bs = writes refl
  emit_constraint_leads q (constraint.Variant n k) bs = writes refl ⨾ emit_fields_lead (variant_at e n k).fields bs
  emit_constraint_leads q (constraint.Struct n) bs = writes refl ⨾ emit_fields_lead (fields_of (type_at e n)) bs
  emit_constraint_leads q constraint.Some bs = keeps refl ⨾ inside_some_leads q bs ⨾ closes refl
