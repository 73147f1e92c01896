-- A binding by what stands between its sources: `up_to` its first source and `from-here` are all of `emit-binding`. Assumes nothing.
use Prim.Native.Nat.{ℕ, zero, suc, ◌+◌, ◌-◌, ◌≤◌, ◌<◌, min}
use mathlib.Core.Path.{◌≡◌, refl, sym, ◌∙◌}
use mathlib.Core.Bool.{Bool, true, false, cond, not, ◌&&◌}
use mathlib.Core.List.{List, [], ◌∷◌, ◌++◌, append_assoc, append-nil}
use native.Mathlib.Omega.{arith}
use lib.Dec.{eqb}
use lib.ListN.{length, get_or, drop}
use Rattle.text.specs.Codes.{codes}
use Rattle.text.specs.Digits.{decimal}
use Rattle.text.specs.Writes.{Writes}
use Rattle.text.specs.declared.sink.Sink.{Sink}
use Rattle.plan.specs.Plan.{Fields, Environment}
use Rattle.plan.specs.Binding.{Binding, ConstBool, ConstInt, ConstPrim, Argument, Extractor, Constructor, Iterator, MakeVariant, MakeStruct, MakeSome, MatchSome, MatchTuple, MatchVariant, ExtractStruct}
use Rattle.plan.specs.Lookup.{type_at, variant_at, fields_of, term_at}
use Rattle.codegen.specs.Piece.{fix, var, indent, odd_piece, odd_pieces}
use Rattle.codegen.specs.Writer.{Marks, contains, Writer, said, say, ask, ◌▸◌, nothing}
use Rattle.codegen.specs.Sema.{is_ref, ExternalSig, extractor_sig, constructor_sig}
use Rattle.codegen.specs.Expr.{passed, parameters, cloned, call, field_lines, extract_fields, emit_binding}
use Rattle.emits.specs.Sinks.{shows_none, shows_break, shows_unbrace}
use Rattle.emits.specs.Runs.{Emits, emits_say, emits_ask}
use Rattle.expr_parts.specs.EmitsLaws.{shows_var_put}
use Rattle.expr_parts.specs.Sources.{after_one}
use Rattle.expr.specs.Between.{source_count, inner, call_head, before_parameter, after_parameter, call_end, opens, before_field, after_field, closes, begins, turn_next, turns, next_part, from_source, up_to, from_here, entire}

-- WRITERS THAT SAY THE SAME

pub record Same (v w : Writer) : Type 0 where
  pub is : (q : Marks) → said v q ≡ said w q

infixr 5 ◌then◌
◌then◌ : {u v w : Writer} → Same u v → Same v w → Same u w
a then b = record { is = λ q. a.is q ∙ b.is q }

back : {v w : Writer} → Same v w → Same w v
back a = record { is = λ q. sym (a.is q) }

under : (a : Writer) {v w : Writer} → Same v w → Same (a ▸ v) (a ▸ w)
unfolding said
under a h = record { is = λ q. rw (h.is (said a q).refs) }

assoc : (a b x : Writer) → Same ((a ▸ b) ▸ x) (a ▸ b ▸ x)
unfolding said
assoc a b x = record { is = λ q. rw append_assoc }

assoc_two : (a b x y : Writer) → Same ((a ▸ b ▸ x) ▸ y) (a ▸ b ▸ x ▸ y)
assoc_two a b x y = assoc a (b ▸ x) y then under a (assoc b x y)

assoc_four : (a b x y z w : Writer) → Same ((a ▸ b ▸ x ▸ y ▸ z) ▸ w) (a ▸ b ▸ x ▸ y ▸ z ▸ w)
assoc_four a b x y z w = assoc_two a b (x ▸ y ▸ z) w then under a (under b (assoc_two x y z w))

no_more : (w : Writer) → Same (w ▸ nothing) (nothing ▸ w)
unfolding said
no_more w = record { is = λ q. rw append-nil }

no_head : (w : Writer) → Same (nothing ▸ w) w
unfolding said
no_head w = record { is = λ q. refl }

no_end : (w : Writer) → Same (w ▸ nothing) w
no_end w = no_more w then no_head w

no_source : (w : Writer) → Same (w ▸ nothing ▸ nothing) w
no_source w = under w (no_end nothing) then no_end w

-- CALLS

passed_is : (wanted given : Bool) (w : Writer) (q : Marks)
    → said (passed wanted given w) q ≡ record { pieces = cond (wanted && not given) (fix "&" refl ∷ []) [] ++ ((said w q).pieces ++ cond (given && not wanted) (fix ".clone()" refl ∷ []) []); refs = (said w q).refs }
unfolding said passed
passed_is true true w q = rw append-nil
passed_is true false w q = rw append-nil
passed_is false true w q = refl
passed_is false false w q = rw append-nil

call_turn : (wanted : Bool) (q : ℕ) (w x : Writer)
    → Same (ask q (λ r. say (fix ", " refl ∷ []) ▸ say (cond (wanted && not r) (fix "&" refl ∷ []) [])) ▸ ask q (λ r. w ▸ say (cond (r && not wanted) (fix ".clone()" refl ∷ []) [])) ▸ x) (say (fix ", " refl ∷ []) ▸ ask q (λ r. passed wanted r w) ▸ x)
unfolding said
call_turn wanted q w x = record { is = λ m. rw (passed_is wanted (contains m q) w m) (simp append_assoc) }

module _ (e : Environment) (rec : ℕ → Writer) where
  none_typed : (qs : List ℕ) → parameters e rec qs [] ≡ nothing
  unfolding parameters
  none_typed [] = refl
  none_typed (q ∷ qs) = refl

  parameters_done : (i : ℕ) (qs ts : List ℕ) → min (length qs) (length ts) ≤ i → parameters e rec (drop i qs) (drop i ts) ≡ nothing
  unfolding parameters
  parameters_done zero [] ts h = refl
  parameters_done zero (q ∷ qs) [] h = refl
  parameters_done zero (q ∷ qs) (t ∷ ts) h = absurd (omega arith)
  parameters_done (suc i) [] ts h = refl
  parameters_done (suc i) (q ∷ qs) [] h = none_typed (drop i qs)
  parameters_done (suc i) (q ∷ qs) (t ∷ ts) h = parameters_done i qs ts (omega arith)

  parameters_next : (i : ℕ) (qs ts : List ℕ) → i < min (length qs) (length ts)
      → parameters e rec (drop i qs) (drop i ts) ≡ say (fix ", " refl ∷ []) ▸ ask (get_or qs i 0) (λ r. passed (is_ref e (get_or ts i 0)) r (rec (get_or qs i 0))) ▸ parameters e rec (drop (suc i) qs) (drop (suc i) ts)
  unfolding parameters
  parameters_next i [] ts h = absurd (omega arith)
  parameters_next i (q ∷ qs) [] h = absurd (omega arith)
  parameters_next zero (q ∷ qs) (t ∷ ts) h = refl
  parameters_next (suc i) (q ∷ qs) (t ∷ ts) h = parameters_next i qs ts (omega arith)

  module _ (b : ℕ) (g : ExternalSig) (qs : List ℕ) where
    calls : (left i : ℕ) → i + left ≡ min (length qs) (length g.param_tys)
        → Same (turn_next (before_parameter e g) qs (call_end b g) i left ▸ turns (before_parameter e g) rec (λ j q. after_parameter e g j) qs (call_end b g) i left) (parameters e rec (drop i qs) (drop i g.param_tys) ▸ call_end b g)
    unfolding turns
    calls zero i h = rw (parameters_done i qs g.param_tys (omega arith)) (no_more (call_end b g))
    calls (suc left) i h =
        call_turn (is_ref e (get_or g.param_tys i 0)) (get_or qs i 0) (rec (get_or qs i 0)) _
        then under _ (under _ (calls left (suc i) (omega arith)))
        then rw (parameters_next i qs g.param_tys (omega arith)) (back (assoc_two _ _ _ _))

-- FIELDS

field_turn : (q : ℕ) (h w a x y : Writer) → Same (ask q (λ r. h) ▸ ask q (λ r. w ▸ a ▸ x) ▸ y) (h ▸ w ▸ a ▸ x ▸ y)
unfolding said
field_turn q h w a x y = record { is = λ m. simp append_assoc }

module _ (rec : ℕ → Writer) (f : Fields) (d : ℕ) where
  lines_done : (i j : ℕ) (qs : List ℕ) → length qs ≤ i → field_lines rec f d j (drop i qs) ≡ nothing
  unfolding field_lines
  lines_done zero j [] h = refl
  lines_done zero j (q ∷ qs) h = absurd (omega arith)
  lines_done (suc i) j [] h = refl
  lines_done (suc i) j (q ∷ qs) h = lines_done i j qs (omega arith)

  lines_next : (i j : ℕ) (qs : List ℕ) → i < length qs
      → field_lines rec f d j (drop i qs) ≡ before_field f d j ▸ rec (get_or qs i 0) ▸ ask (get_or qs i 0) cloned ▸ say (fix "," refl ∷ []) ▸ field_lines rec f d (suc j) (drop (suc i) qs)
  unfolding field_lines
  lines_next i j [] h = absurd (omega arith)
  lines_next zero j (q ∷ qs) h = refl
  lines_next (suc i) j (q ∷ qs) h = lines_next i j qs (omega arith)

  lines : (qs : List ℕ) (end : Writer) (left i : ℕ) → i + left ≡ length qs
      → Same (turn_next (λ j r. before_field f d j) qs end i left ▸ turns (λ j r. before_field f d j) rec (λ j q r. after_field q) qs end i left) (field_lines rec f d i (drop i qs) ▸ end)
  unfolding turns
  lines qs end zero i h = rw (lines_done i i qs (omega arith)) (no_more end)
  lines qs end (suc left) i h =
      field_turn (get_or qs i 0) (before_field f d i) (rec (get_or qs i 0)) (ask (get_or qs i 0) cloned) (say (fix "," refl ∷ [])) _
      then under _ (under _ (under _ (under _ (lines qs end left (suc i) (omega arith)))))
      then rw (lines_next i i qs (omega arith)) (back (assoc_four _ _ _ _ _ _))

-- BY THE KIND

module _ (e : Environment) (rec : ℕ → ℕ → Writer) (d b : ℕ) where
  with_fields : (h : Writer) (f : Fields) (qs : List ℕ)
      → Same ((h ▸ opens qs) ▸ turn_next (λ j r. before_field f (suc d) j) qs (closes d qs) 0 (length qs) ▸ turns (λ j r. before_field f (suc d) j) (rec (suc d)) (λ j q r. after_field q) qs (closes d qs) 0 (length qs)) (h ▸ extract_fields rec f d qs)
  unfolding extract_fields turns
  with_fields h f [] = assoc _ _ _ then under h (no_source nothing)
  with_fields h f (q ∷ qs) = assoc _ _ _ then under h (under _ (lines (rec (suc d)) f (suc d) (q ∷ qs) (closes d (q ∷ qs)) (length (q ∷ qs)) 0 (omega arith)))

  with_parameters : (g : ExternalSig) (qs : List ℕ)
      → Same (call_head e b g ▸ turn_next (before_parameter e g) qs (call_end b g) 0 (min (length qs) (length g.param_tys)) ▸ turns (before_parameter e g) (rec d) (λ j q. after_parameter e g j) qs (call_end b g) 0 (min (length qs) (length g.param_tys))) (call e (rec d) b g qs)
  unfolding call
  with_parameters g qs = under _ (calls e (rec d) b g qs (min (length qs) (length g.param_tys)) 0 (omega arith)) then assoc _ _ _

  with_one : (h : Writer) (k : Binding) (qs : List ℕ)
      → Same (h ▸ turn_next (λ j r. nothing) qs nothing 0 1 ▸ turns (λ j r. nothing) (rec d) (λ j q r. after_one k q) qs nothing 0 1) (h ▸ rec d (get_or qs 0 0) ▸ after_one k (get_or qs 0 0))
  unfolding turns said
  with_one h k qs = under h (record { is = λ q. rw append-nil })

  kinds : (k : Binding) (qs : List ℕ) → Same (begins e b k qs ▸ next_part e d b k qs 0 (source_count e k qs) ▸ from_source e rec d b k qs 0 (source_count e k qs)) (emit_binding e rec d b k qs)
  unfolding emit_binding turns
  kinds (ConstBool v) qs = no_source _
  kinds (ConstInt n v) qs = no_source _
  kinds (ConstPrim n) qs = no_source _
  kinds (Argument i) qs = no_source _
  kinds (Extractor m) qs = with_parameters (extractor_sig (term_at e m)) qs
  kinds (Constructor m) qs = with_parameters (constructor_sig (term_at e m)) qs
  kinds Iterator qs = with_one nothing Iterator qs then no_head _
  kinds (MakeVariant n k) qs = with_fields _ (variant_at e n k).fields qs
  kinds (MakeStruct n) qs = with_fields _ (fields_of (type_at e n)) qs
  kinds MakeSome qs = with_one _ MakeSome qs
  kinds MatchSome qs = with_one nothing MatchSome qs then no_head _
  kinds (MatchTuple f) qs = with_one nothing (MatchTuple f) qs then no_head _
  kinds (MatchVariant f) qs = with_one nothing (MatchVariant f) qs then no_head _
  kinds (ExtractStruct f) qs = with_one nothing (ExtractStruct f) qs then no_head _

-- UP TO A SOURCE AND FROM THERE

by_name : (x : Bool) (v : Writer) {f n t w : Writer} → Same (f ▸ n ▸ t) w → Same (cond x v (f ▸ n) ▸ cond x nothing t) (cond x v w)
by_name true v h = no_end v
by_name false v h = assoc _ _ _ then h

module _ (e : Environment) (bound : Marks) (rec : ℕ → ℕ → Writer) (d b : ℕ) (k : Binding) (qs : List ℕ) where
  pub same_start : Same (up_to e bound d b k qs 0 false ▸ from_here e bound rec d b k qs 0) (entire e bound rec d b k qs)
  same_start =
      let z : source_count e k qs - 0 ≡ source_count e k qs = omega arith in
      rw z (by_name (contains bound b) (say (var b ∷ [])) (kinds e rec d b k qs))

  pub same_turn : (i : ℕ) → contains bound b ≡ false → i < source_count e k qs
      → Same (ask (get_or qs i 0) (λ r. rec (inner k d) (get_or qs i 0) ▸ up_to e bound d b k qs (suc i) r) ▸ from_here e bound rec d b k qs (suc i)) (from_here e bound rec d b k qs i)
  unfolding turns said
  same_turn i n l =
      let z : source_count e k qs - i ≡ suc (source_count e k qs - suc i) = omega arith in
      simp (n, z) (record { is = λ q. simp append_assoc })

-- WHAT THE CODE SAYS

pub inner_plus : (k : Binding) {depth : ℕ} (d₀ d : ℕ) → depth ≡ d₀ + d → inner k depth ≡ d₀ + inner k d
inner_plus (ConstBool v) d₀ d h = h
inner_plus (ConstInt n v) d₀ d h = h
inner_plus (ConstPrim n) d₀ d h = h
inner_plus (Argument i) d₀ d h = h
inner_plus (Extractor m) d₀ d h = h
inner_plus (Constructor m) d₀ d h = h
inner_plus Iterator d₀ d h = h
inner_plus (MakeVariant n k) d₀ d h = omega arith
inner_plus (MakeStruct n) d₀ d h = omega arith
inner_plus MakeSome d₀ d h = h
inner_plus MatchSome d₀ d h = h
inner_plus (MatchTuple f) d₀ d h = h
inner_plus (MatchVariant f) d₀ d h = h
inner_plus (ExtractStruct f) d₀ d h = h

module _ {env : Environment} {d : ℕ} (before : ℕ → Bool → Writer) (qs : List ℕ) (end : Writer) (count i : ℕ) {w : Sink} {r : Marks} {w' : Sink} {r' : Marks} where
  pub emits_next : i < count → (given : Bool) → contains r (get_or qs i 0) ≡ given → Emits env d (before i given) w r w' r' → Emits env d (turn_next before qs end i (count - i)) w r w' r'
  emits_next l given h p = let z : count - i ≡ suc (count - suc i) = omega arith in rw z (emits_ask given h p)

  pub emits_last : count ≤ i → Emits env d end w r w' r' → Emits env d (turn_next before qs end i (count - i)) w r w' r'
  emits_last l p = let z : count - i ≡ 0 = omega arith in rw z p

-- a binding's name
pub emits_name : {env : Environment} {d v : ℕ} {w : Sink} {r : Marks} {w' : Sink} → Writes (codes "v" ++ decimal v) w w' → Emits env d (say (var v ∷ [])) w r w' r
unfolding odd_pieces odd_piece
emits_name p = emits_say refl (shows_var_put p shows_none)

-- the line after fields
pub emits_closed : {env : Environment} {d : ℕ} {w : Sink} {r : Marks} (d' : ℕ) (qs : List ℕ) {w₁ w₂ w' : Sink} → eqb (length qs) 0 ≡ false → Writes (10 ∷ []) w w₁ → Writes (indent (d + d')) w₁ w₂ → Writes (codes "}") w₂ w' → Emits env d (closes d' qs) w r w' r
unfolding odd_pieces odd_piece
emits_closed d' [] h p i s = cc
emits_closed d' (q ∷ qs) h p i s = emits_say refl (shows_break p i (shows_unbrace s shows_none))
