-- What refusals 4 to 10 say of the tables of a plan is the same whatever its bytes are: of the texts they ask only how many there are. Assumes nothing.
use Prim.Native.Nat.{ℕ}
use mathlib.Core.Path.{◌≡◌, refl}
use mathlib.Core.Bool.{Bool, true, false, cond, ◌&&◌}
use mathlib.Core.List.{List}
use lib.Dec.{ltb}
use lib.ListN.{length}
use Rattle.plan.specs.Plan as plan
use Rattle.plan.specs.Plan.{Fields, unit, named, tuple, TypeData, Builtin, Primitive, Enum, Struct, Variant, FunctionKind, absent, internal, external, Term, Generated, Environment}
use Rattle.plan.specs.Binding.{Binding, ConstBool, ConstInt, ConstPrim, Argument, Extractor, Constructor, Iterator, MakeVariant, MakeStruct, MakeSome, MatchSome, MatchTuple, MatchVariant, ExtractStruct}
use Rattle.plan.specs.Constraint as constraint
use Rattle.plan.specs.Constraint.{Constraint}
use Rattle.plan.specs.Row.{ControlFlow, Match, Equal, Loop, Return, Row, step, arm}
use Rattle.plan.specs.Lookup.{term_at}
use Rattle.plan.specs.Refusal.{every, enum_exists, struct_exists, variant_exists, constructor_exists, extractor_exists, fields_exist, function_exists, type_refers, variant_refers, term_refers, binding_refers, constraint_refers, control_flow_refers, row_refers, generated_refers, all_exist, source_count, pattern_count, arm_length_fits, lengths_fit, within_most, sources_lower, returns_fit, matches_have_arms, loops_iterate, Outcome, refused, accepted, number_of, judged}
use Rattle.exists.specs.Ready.{binding_length_fits, generated_fits}
use Rattle.view.specs.Buffers.{env_of, plan_of}
use Rattle.view.specs.Bytes.{env_with, plan_with, Alike, env_alike, plan_alike, generated_any}
use Rattle.view.specs.declared.buffers.Plan.{Plan}
use Rattle.checks.proofs.Bytes.{most_any, lower_any, returns_any, arms_any, loops_any}
use Rattle.checks.proofs.Every.{every_same}

module _ (d e : Environment) (a : Alike d e) where
  enum_same : (n : ℕ) → enum_exists d n ≡ enum_exists e n
  enum_same n = rw a.types refl

  struct_same : (n : ℕ) → struct_exists d n ≡ struct_exists e n
  struct_same n = rw a.types refl

  variant_same : (n k : ℕ) → variant_exists d n k ≡ variant_exists e n k
  variant_same n k = rw (a.types, a.variants) refl

  constructor_same : (n : ℕ) → constructor_exists d n ≡ constructor_exists e n
  constructor_same n = rw a.terms refl

  extractor_same : (n : ℕ) → extractor_exists d n ≡ extractor_exists e n
  extractor_same n = rw a.terms refl

  -- 5

  fields_same : (f : Fields) → fields_exist d f ≡ fields_exist e f
  fields_same unit = refl
  fields_same (named fs) = rw (a.syms, a.types) refl
  fields_same (tuple ts) = rw a.types refl

  type_same : (t : TypeData) → type_refers d t ≡ type_refers e t
  unfolding type_refers
  type_same (Builtin t) = refl
  type_same (Primitive n) = rw a.syms refl
  type_same (Enum x) = rw (a.syms, a.poss) refl
  type_same (Struct x f) = rw (a.syms, a.poss, fields_same f) refl

  variant_refers_same : (v : Variant) → variant_refers d v ≡ variant_refers e v
  unfolding variant_refers
  variant_refers_same v = rw (enum_same v.ty, a.syms, fields_same v.fields) refl

  function_same : (f : FunctionKind) → function_exists d f ≡ function_exists e f
  function_same absent = refl
  function_same internal = refl
  function_same (external n) = rw a.syms refl

  term_same : (m : Term) → term_refers d m ≡ term_refers e m
  unfolding term_refers
  term_same m = rw (function_same m.ctor, function_same m.xtor, a.syms, a.poss, a.types) refl

  binding_same : (args : ℕ) (b : Binding) → binding_refers d args b ≡ binding_refers e args b
  unfolding binding_refers
  binding_same args (ConstBool v) = refl
  binding_same args (ConstInt n v) = rw a.types refl
  binding_same args (ConstPrim n) = rw a.syms refl
  binding_same args (Argument i) = refl
  binding_same args (Extractor m) = extractor_same m
  binding_same args (Constructor m) = constructor_same m
  binding_same args Iterator = refl
  binding_same args (MakeVariant n k) = variant_same n k
  binding_same args (MakeStruct n) = struct_same n
  binding_same args MakeSome = refl
  binding_same args MatchSome = refl
  binding_same args (MatchTuple f) = refl
  binding_same args (MatchVariant f) = refl
  binding_same args (ExtractStruct f) = refl

  constraint_same : (c : Constraint) → constraint_refers d c ≡ constraint_refers e c
  unfolding constraint_refers
  constraint_same (constraint.ConstBool v) = refl
  constraint_same (constraint.ConstInt n v) = rw a.types refl
  constraint_same (constraint.ConstPrim n) = rw a.syms refl
  constraint_same (constraint.Variant n k) = variant_same n k
  constraint_same (constraint.Struct n) = struct_same n
  constraint_same constraint.Some = refl

  control_flow_same : (n : ℕ) (c : ControlFlow) → control_flow_refers d n c ≡ control_flow_refers e n c
  unfolding control_flow_refers
  control_flow_same n (Match q) = refl
  control_flow_same n (Equal i j) = refl
  control_flow_same n (Loop r) = refl
  control_flow_same n (Return r p) = rw a.poss refl

  row_same : (n : ℕ) (r : Row) → row_refers d n r ≡ row_refers e n r
  unfolding row_refers
  row_same n (step l c bs) = rw (control_flow_same n c) refl
  row_same n (arm l c bs) = rw (constraint_same c) refl

  generated_same : (g : Generated) → generated_refers d g ≡ generated_refers e g
  unfolding generated_refers
  generated_same g =
      let n = length g.bindings in
      let args = length (term_at d g.term).arg_tys in
      rw (
        constructor_same g.term,
        every_same (λ b. binding_refers d args b.binding && every (λ q. ltb q n) b.sources) (λ b. binding_refers e args b.binding && every (λ q. ltb q n) b.sources)
            (λ b. rw (binding_same args b.binding) refl) g.bindings,
        every_same (row_refers d n) (row_refers e n) (row_same n) g.rows,
        a.terms,
      ) refl

  -- 6

  source_count_same : (b : Binding) → source_count d b ≡ source_count e b
  unfolding source_count
  source_count_same (ConstBool v) = refl
  source_count_same (ConstInt n v) = refl
  source_count_same (ConstPrim n) = refl
  source_count_same (Argument i) = refl
  source_count_same (Extractor m) = refl
  source_count_same (Constructor m) = rw a.terms refl
  source_count_same Iterator = refl
  source_count_same (MakeVariant n k) = rw a.variants refl
  source_count_same (MakeStruct n) = rw a.types refl
  source_count_same MakeSome = refl
  source_count_same MatchSome = refl
  source_count_same (MatchTuple f) = refl
  source_count_same (MatchVariant f) = refl
  source_count_same (ExtractStruct f) = refl

  arm_same : (r : Row) → arm_length_fits d r ≡ arm_length_fits e r
  unfolding arm_length_fits pattern_count
  arm_same (step l c bs) = refl
  arm_same (arm l (constraint.ConstBool v) bs) = refl
  arm_same (arm l (constraint.ConstInt n v) bs) = refl
  arm_same (arm l (constraint.ConstPrim n) bs) = refl
  arm_same (arm l (constraint.Variant n k) bs) = rw a.variants refl
  arm_same (arm l (constraint.Struct n) bs) = rw a.types refl
  arm_same (arm l constraint.Some bs) = refl

  fits_same : (g : Generated) → generated_fits d g ≡ generated_fits e g
  fits_same g = rw (
    every_same (binding_length_fits d) (binding_length_fits e) (λ b. rw (source_count_same b.binding) refl) g.bindings,
    every_same (arm_length_fits d) (arm_length_fits e) arm_same g.rows,
  ) refl

-- THE SAME TABLES WITH OTHER BYTES

number_cond : (b : Bool) (x y : Outcome) (n : ℕ) → number_of x ≡ number_of y → number_of (cond b x (refused n)) ≡ number_of (cond b y (refused n))
number_cond true x y n h = h
number_cond false x y n h = refl

module _ (p : Plan) (bytes : List ℕ) where
  abbrev q : plan.Plan
  q = plan_with bytes p

  abbrev a : Alike q.env (plan_of p).env
  a = plan_alike p bytes

  pub constructor_any : (n : ℕ) → constructor_exists (env_with bytes p) n ≡ constructor_exists (env_of p) n
  constructor_any n = constructor_same _ _ (env_alike p bytes) n

  pub extractor_any : (n : ℕ) → extractor_exists (env_with bytes p) n ≡ extractor_exists (env_of p) n
  extractor_any n = extractor_same _ _ (env_alike p bytes) n

  pub type_any : (t : TypeData) → type_refers (env_with bytes p) t ≡ type_refers (env_of p) t
  type_any t = type_same _ _ (env_alike p bytes) t

  pub variant_any : (v : Variant) → variant_refers (env_with bytes p) v ≡ variant_refers (env_of p) v
  variant_any v = variant_refers_same _ _ (env_alike p bytes) v

  pub term_any : (m : Term) → term_refers (env_with bytes p) m ≡ term_refers (env_of p) m
  term_any m = term_same _ _ (env_alike p bytes) m

  pub exist_any : all_exist (plan_with bytes p) ≡ all_exist (plan_of p)
  unfolding all_exist
  exist_any = rw (
    every_same (type_refers q.env) (type_refers (plan_of p).env) (type_same _ _ a) q.env.types,
    every_same (variant_refers q.env) (variant_refers (plan_of p).env) (variant_refers_same _ _ a) q.env.variants,
    every_same (term_refers q.env) (term_refers (plan_of p).env) (term_same _ _ a) q.env.terms,
    every_same (generated_refers q.env) (generated_refers (plan_of p).env) (generated_same _ _ a) q.generated,
    a.types,
    a.variants,
    a.terms,
    generated_any p bytes,
  ) refl

  pub fit_any : lengths_fit (plan_with bytes p) ≡ lengths_fit (plan_of p)
  unfolding lengths_fit
  fit_any = rw (generated_any p bytes) (every_same (generated_fits q.env) (generated_fits (plan_of p).env) (fits_same _ _ a) (plan_of p).generated)

  pub judged_any : number_of (judged (plan_with bytes p)) ≡ number_of (judged (plan_of p))
  unfolding judged
  judged_any =
      let o = plan_of p in
      rw (most_any p bytes, exist_any, fit_any, lower_any p bytes, returns_any p bytes, arms_any p bytes, loops_any p bytes)
      (number_cond (within_most o) _ _ 4 (number_cond (all_exist o) _ _ 5 (number_cond (lengths_fit o) _ _ 6 (number_cond (sources_lower o) _ _ 7
      (number_cond (returns_fit o) _ _ 8 (number_cond (matches_have_arms o) _ _ 9 (number_cond (loops_iterate o) (accepted q) (accepted o) 10 refl)))))))
