-- What expressions and patterns write: no quoted text, and the literals of the `int` bindings that an expression reaches, in order, and
-- of an `int` arm.
use Prim.Native.Nat.{ℕ, zero, suc}
use Rattle.std.specs.Prelude.{◌≡◌, Bool, cond, ◌&&◌, length, get_or, take}
use Rattle.std.proofs.Math.Path.{refl}
use Rattle.std.proofs.Common.{ap}
use Rattle.std.proofs.Math.Bool.{true, false, not}
use Rattle.std.proofs.Math.Option.{Option, some, none}
use mathlib.Core.List.{List, [], ◌∷◌, ◌++◌, append-nil}
use Rattle.text.specs.Split.{same}
use Rattle.literal.specs.declared.builtin_type.BuiltinType.TheVariants as builtin
use Rattle.plan.specs.Plan.{TypeData, Builtin, Primitive, Enum, Struct, Fields, unit, named, tuple, FunctionKind, absent, internal, external, Term, Environment, Generated}
use Rattle.plan.specs.Binding.{Binding, ConstBool, ConstInt, ConstPrim, Argument, Extractor, Constructor, Iterator, MakeVariant, MakeStruct, MakeSome, MatchSome, MatchTuple, MatchVariant, ExtractStruct}
use Rattle.plan.specs.Constraint as constraint
use Rattle.plan.specs.Constraint.{Constraint}
use Rattle.plan.specs.Lookup.{type_at, variant_at, fields_of, term_at, binding_at}
use Rattle.codegen.specs.Piece.{Piece, fix, break}
use Rattle.codegen.specs.Writer.{Marks, contains, Writer, said, say, mark, ask, ◌▸◌}
use Rattle.codegen.specs.ReturnKind.{ReturnKind, by_return_kind}
use Rattle.codegen.specs.ReturnKind as kind
use Rattle.codegen.specs.Sema.{is_ref, int_type, field_name, field_type, ExternalSig, func_name_of, full_name_of, extractor_sig, constructor_sig}
use Rattle.codegen.specs.Expr.{emit_bool, passed, parameters, returns_ref, call, cloned, field_lines, extract_fields, emit_binding, emit_below, emit_expr, wants_ref, emit_source}
use Rattle.codegen.specs.Pattern.{field_patterns, skipped_some, emit_fields, inside_some, emit_constraint}
use Rattle.splitting.specs.Cases.{and_left, and_right, and_both}
use Rattle.origin.specs.Origin.{Origin, of_binding, binding_int, arm_int, int_at, literal_type, flat, written_sources, if_int, reached, quiet, before_number, Spelled, done, quietly, number, field_number, literal}

-- either of two, and one of three
pub either : {A : Type 0} (P : A → Type 0) (b : Bool) {x y : A} → P x → P y → P (cond b x y)
either P true h g = h
either P false h g = g

pub by_kind : {A : Type 0} (P : A → Type 0) (k : ReturnKind) {x y z : A} → P x → P y → P z → P (by_return_kind k x y z)
unfolding by_return_kind
by_kind P kind.Iterator h g f = h
by_kind P kind.Option h g f = g
by_kind P kind.Plain h g f = f

-- of two things by the same test
pub both : {A B : Type 0} (P : A → B → Type 0) (b : Bool) {x y : A} {v w : B} → P x v → P y w → P (cond b x y) (cond b v w)
both P true h g = h
both P false h g = g

abbrev pub quiets : List Piece → Bool
quiets [] = true
quiets (p ∷ ps) = quiet p && quiets ps

-- the type of a literal
same_type : (t : TypeData) → int_type t ≡ literal_type t
unfolding int_type
same_type (Builtin builtin.Bool) = refl
same_type (Builtin (builtin.Int t)) = refl
same_type (Primitive n) = refl
same_type (Enum d) = refl
same_type (Struct d f) = refl

-- NAMES

func_name_quiet : (k : FunctionKind) (t : Piece) (m : Term) → quiet t ≡ true → quiets (func_name_of k t m) ≡ true
unfolding func_name_of
func_name_quiet absent t m h = refl
func_name_quiet internal t m h = and_both h refl
func_name_quiet (external n) t m h = refl

full_name_quiet : (k : FunctionKind) (t : Piece) (m : Term) → quiet t ≡ true → quiets (full_name_of k t m) ≡ true
unfolding full_name_of
full_name_quiet absent t m h = refl
full_name_quiet internal t m h = and_both h refl
full_name_quiet (external n) t m h = refl

-- the names of a signature
pub record Named (x : ExternalSig) : Type 0 where
  pub func : quiets x.func_name ≡ true
  pub full : quiets x.full_name ≡ true

pub extractor_named : (m : Term) → Named (extractor_sig m)
unfolding extractor_sig
extractor_named m = record { func = func_name_quiet m.xtor _ m refl; full = full_name_quiet m.xtor _ m refl }

pub constructor_named : (m : Term) → Named (constructor_sig m)
unfolding constructor_sig
constructor_named m = record { func = func_name_quiet m.ctor _ m refl; full = full_name_quiet m.ctor _ m refl }

module _ (e : Environment) (g : Generated) where
  abbrev pub Quiet : List Piece → Type 0
  Quiet ps = Spelled e g false ps []

  -- what a writer writes, whatever the marks of references are
  pub data Writes : Writer → List Origin → Type 0 where
    says : {ps : List Piece} {os : List Origin} → Spelled e g false ps os → Writes (say ps) os
    marks : {b : ℕ} → Writes (mark b) []
    asks : {b : ℕ} {f : Bool → Writer} {os : List Origin} → ((r : Bool) → Writes (f r) os) → Writes (ask b f) os
    ◌then◌ : {v w : Writer} {os us : List Origin} → Writes v os → Writes w us → Writes (v ▸ w) (os ++ us)

  abbrev pub Silent : Writer → Type 0
  Silent w = Writes w []

infixr 20 ◌then◌
module _ {e : Environment} {g : Generated} where
  pub all_quiet : {a : Bool} {ps : List Piece} → quiets ps ≡ true → Spelled e g a ps []
  all_quiet {ps = []} h = done
  all_quiet {a = a} {ps = p ∷ ps} h = quietly p (and_left (quiet p) (quiets ps) h) (all_quiet {a = before_number p} {ps = ps} (and_right (quiet p) (quiets ps) h))

  anywhere : {a : Bool} {ps : List Piece} {os : List Origin} → Spelled e g false ps os → Spelled e g a ps os
  anywhere done = done
  anywhere (quietly p h hs) = quietly p h hs
  anywhere (field_number d n hs) = field_number d n hs
  anywhere (literal x n v h t hs) = literal x n v h t hs

  pub append : {a : Bool} {ps qs : List Piece} {os us : List Origin} → Spelled e g a ps os → Spelled e g false qs us → Spelled e g a (ps ++ qs) (os ++ us)
  append done k = anywhere k
  append (quietly p h hs) k = quietly p h (append hs k)
  append (number n hs) k = number n (append hs k)
  append (field_number d n hs) k = field_number d n (append hs k)
  append (literal x n v h t hs) k = literal x n v h t (append hs k)

  -- quiet pieces, then others
  pub quiet_first : {a : Bool} (ps : List Piece) {qs : List Piece} {os : List Origin} → quiets ps ≡ true → Spelled e g false qs os → Spelled e g a (ps ++ qs) os
  quiet_first ps h k = append (all_quiet {ps = ps} h) k

  -- a field's name
  field_line : (f : Fields) (d i : ℕ) → Quiet e g (break d ∷ field_name f i ∷ fix ": " refl ∷ [])
  unfolding field_name same
  field_line unit d i = field_number d i done
  field_line (named fs) d i = all_quiet refl
  field_line (tuple ts) d i = field_number d i done

  pub writes_said : {w : Writer} {os : List Origin} (r : Marks) → Writes e g w os → Spelled e g false (said w r).pieces os
  unfolding said
  writes_said r (says h) = h
  writes_said r marks = done
  writes_said r (asks {b = b} h) = writes_said r (h (contains r b))
  writes_said r (◌then◌ {v = v} h k) = append (writes_said r h) (writes_said (said v r).refs k)

  pub says_quiet : {ps : List Piece} → quiets ps ≡ true → Silent e g (say ps)
  says_quiet h = says (all_quiet h)

  -- what has no literal after something
  pub after : {v w : Writer} {os : List Origin} → Writes e g v os → Silent e g w → Writes e g (v ▸ w) os
  after {os = os} h k = rw (append-nil os) at (h then k)

  -- EXPRESSIONS

  passed_fine : (a b : Bool) {w : Writer} {os : List Origin} → Writes e g w os → Writes e g (passed a b w) os
  unfolding passed
  passed_fine true true h = h
  passed_fine true false h = says_quiet refl then h
  passed_fine false true h = after h (says_quiet refl)
  passed_fine false false h = h

  pub cloned_fine : (r : Bool) → Silent e g (cloned r)
  cloned_fine true = says_quiet refl
  cloned_fine false = says_quiet refl

  module _ (rec : ℕ → Writer) (of : ℕ → List Origin) (f : (b : ℕ) → Writes e g (rec b) (of b)) where
    parameters_fine : (qs ts : List ℕ) → Writes e g (parameters e rec qs ts) (flat of (take (length ts) qs))
    unfolding parameters flat
    parameters_fine [] [] = says_quiet refl
    parameters_fine [] (t ∷ ts) = says_quiet refl
    parameters_fine (b ∷ qs) [] = says_quiet refl
    parameters_fine (b ∷ qs) (t ∷ ts) = says_quiet refl then (asks (λ r. passed_fine (is_ref e t) r (f b)) then parameters_fine qs ts)

    call_fine : (b : ℕ) (x : ExternalSig) (qs : List ℕ) → Named x → Writes e g (call e rec b x qs) (flat of (take (length x.param_tys) qs))
    unfolding call
    call_fine b x qs n =
        either (Silent e g) (returns_ref e x.ret_tys) (marks then says_quiet refl) (says_quiet refl)
        then (says (quiet_first x.full_name n.full (all_quiet refl)) then after (parameters_fine qs x.param_tys) (says (append (by_kind (Quiet e g) x.ret_kind (all_quiet refl) done done) (all_quiet refl))))

    field_lines_fine : (x : Fields) (d i : ℕ) (qs : List ℕ) → Writes e g (field_lines rec x d i qs) (flat of qs)
    unfolding field_lines flat
    field_lines_fine x d i [] = says_quiet refl
    field_lines_fine x d i (b ∷ qs) = says (field_line x d i) then (f b then (asks cloned_fine then (says_quiet refl then field_lines_fine x d (suc i) qs)))

  module _ (rec : ℕ → ℕ → Writer) (of : ℕ → List Origin) (f : (d b : ℕ) → Writes e g (rec d b) (of b)) where
    extract_fields_fine : (x : Fields) (d : ℕ) (qs : List ℕ) → Writes e g (extract_fields rec x d qs) (flat of qs)
    unfolding extract_fields flat
    extract_fields_fine x d [] = says_quiet refl
    extract_fields_fine x d (b ∷ qs) = says_quiet refl then after (field_lines_fine (rec (suc d)) of (f (suc d)) x (suc d) 0 (b ∷ qs)) (says_quiet refl)

    emit_bool_fine : (v : Bool) → Quiet e g (emit_bool v ∷ [])
    emit_bool_fine true = all_quiet refl
    emit_bool_fine false = all_quiet refl

    emit_binding_fine : (d b : ℕ) (k : Binding) (qs : List ℕ) → (binding_at g.bindings b).binding ≡ k → Writes e g (emit_binding e rec d b k qs) (if_int (binding_int k) (of_binding b) ++ flat of (written_sources e k qs))
    unfolding emit_binding written_sources flat extractor_sig constructor_sig same
    emit_binding_fine d b (ConstBool v) qs h = says (emit_bool_fine v)
    emit_binding_fine d b (ConstInt n v) qs h = says (literal (of_binding b) n v (ap binding_int h) (same_type (type_at e n)) done)
    emit_binding_fine d b (ConstPrim n) qs h = says_quiet refl
    emit_binding_fine d b (Argument i) qs h = says (quietly _ refl (number i (all_quiet refl)))
    emit_binding_fine d b (Extractor m) qs h = call_fine (rec d) of (f d) b (extractor_sig (term_at e m)) qs (extractor_named (term_at e m))
    emit_binding_fine d b (Constructor m) qs h = call_fine (rec d) of (f d) b (constructor_sig (term_at e m)) qs (constructor_named (term_at e m))
    emit_binding_fine d b (MakeVariant n k) qs h = says_quiet refl then extract_fields_fine (variant_at e n k).fields d qs
    emit_binding_fine d b (MakeStruct n) qs h = says_quiet refl then extract_fields_fine (fields_of (type_at e n)) d qs
    emit_binding_fine d b MakeSome qs h = says_quiet refl then (f d (get_or qs 0 0) then says_quiet refl)
    emit_binding_fine d b MatchSome qs h = f d (get_or qs 0 0) then asks (λ r. says (quietly _ (either (λ p. quiet p ≡ true) r refl refl) done))
    emit_binding_fine d b (MatchTuple i) qs h = f d (get_or qs 0 0) then says (quietly _ refl (number i (all_quiet refl)))
    emit_binding_fine d b (MatchVariant i) qs h = f d (get_or qs 0 0) then says (quietly _ refl (number i (all_quiet refl)))
    emit_binding_fine d b (ExtractStruct i) qs h = f d (get_or qs 0 0) then says (quietly _ refl (number i (all_quiet refl)))
    emit_binding_fine d b Iterator qs h = f d (get_or qs 0 0) then says_quiet refl

  module _ (bound : Marks) where
    emit_below_fine : (k d b : ℕ) → Writes e g (emit_below e g.bindings bound k d b) (reached e g.bindings bound k b)
    unfolding emit_below reached
    emit_below_fine zero d b = says_quiet refl
    emit_below_fine (suc k) d b =
        both (Writes e g) (contains bound b) (says_quiet refl) (emit_binding_fine (emit_below e g.bindings bound k) (reached e g.bindings bound k) (emit_below_fine k) d b (binding_at g.bindings b).binding (binding_at g.bindings b).sources refl)

    pub emit_expr_fine : (b : ℕ) → Writes e g (emit_expr e g.bindings bound b) (reached e g.bindings bound (suc b) b)
    unfolding emit_expr
    emit_expr_fine b = emit_below_fine (suc b) 0 b

    pub emit_source_fine : (b : ℕ) (c : Constraint) → Writes e g (emit_source e g.bindings bound b c) (reached e g.bindings bound (suc b) b)
    unfolding emit_source
    emit_source_fine b c = asks (λ r. says (either (Quiet e g) (wants_ref c && not r) (all_quiet refl) done)) then emit_expr_fine b

  -- PATTERNS

  field_patterns_fine : (f : Fields) (i : ℕ) (bs : List (Option ℕ)) → Silent e g (field_patterns e f i bs)
  unfolding field_patterns
  field_patterns_fine f i [] = says_quiet refl
  field_patterns_fine f i (none ∷ bs) = field_patterns_fine f (suc i) bs
  field_patterns_fine f i (some b ∷ bs) =
      says (field_line f 1 i) then (either (Silent e g) (is_ref e (field_type f i)) (marks then says_quiet refl) (says_quiet refl) then (says_quiet refl then field_patterns_fine f (suc i) bs))

  emit_fields_fine : (f : Fields) (bs : List (Option ℕ)) → Silent e g (emit_fields e f bs)
  unfolding emit_fields
  emit_fields_fine f [] = says_quiet refl
  emit_fields_fine f (b ∷ bs) = says_quiet refl then (field_patterns_fine f 0 (b ∷ bs) then says (append (either (Quiet e g) (skipped_some (b ∷ bs)) (all_quiet refl) done) (all_quiet refl)))

  inside_some_fine : (b : ℕ) (bs : List (Option ℕ)) → Silent e g (inside_some b bs)
  unfolding inside_some
  inside_some_fine b [] = says_quiet refl
  inside_some_fine b (none ∷ bs) = says_quiet refl
  inside_some_fine b (some c ∷ bs) = asks (λ r. either (Silent e g) r marks (says_quiet refl)) then says_quiet refl

  -- the pattern of an arm, x
  pub emit_constraint_fine : (b : ℕ) (c : Constraint) (bs : List (Option ℕ)) (x : Origin) → int_at g x ≡ arm_int c → Writes e g (emit_constraint e b c bs) (if_int (arm_int c) x)
  unfolding emit_constraint
  emit_constraint_fine b (constraint.ConstBool true) bs x h = says_quiet refl
  emit_constraint_fine b (constraint.ConstBool false) bs x h = says_quiet refl
  emit_constraint_fine b (constraint.ConstInt n v) bs x h = says (literal x n v h (same_type (type_at e n)) done)
  emit_constraint_fine b (constraint.ConstPrim n) bs x h = says_quiet refl
  emit_constraint_fine b (constraint.Variant n k) bs x h = says_quiet refl then emit_fields_fine (variant_at e n k).fields bs
  emit_constraint_fine b (constraint.Struct n) bs x h = says_quiet refl then emit_fields_fine (fields_of (type_at e n)) bs
  emit_constraint_fine b constraint.Some bs x h = says_quiet refl then (inside_some_fine b bs then says_quiet refl)
