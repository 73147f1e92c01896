-- Pieces among which no literal is odd, and what is written with marks. Assumes nothing.
use Rattle.std.specs.Prelude.{◌≡◌, refl, Bool, true, false, cond, not, ◌&&◌, List, [], ◌∷◌, ◌++◌, ℕ, length, get_or}
use Rattle.std.proofs.Common.{sym, ap, ◌∙◌, arith}
use Rattle.text.specs.declared.sink.Sink.{Sink}
use Rattle.plan.specs.Plan.{Fields, unit, named, tuple, FunctionKind, absent, internal, external, Term, Environment}
use Rattle.codegen.specs.Piece.{Piece, fix, var, break, odd_piece, odd_pieces}
use Rattle.codegen.specs.ReturnKind.{ReturnKind, by_return_kind}
use Rattle.codegen.specs.ReturnKind as kind
use Rattle.codegen.specs.Sema.{is_ref, field_name, full_name_of}
use Rattle.codegen.specs.Writer.{Marks, contains, say, ask, nothing}
use Rattle.codegen.specs.Expr.{cloned, returns_ref}
use Rattle.view.specs.declared.binding.Binding.{Binding}
use Rattle.view.specs.declared.binding.Binding.TheVariants as b
use Rattle.view.specs.Told.{binding_told}
use Rattle.emits.specs.Emits.{odd_append}
use Rattle.emits.specs.Sinks.{Shows, shows_none}
use Rattle.emits.specs.Runs.{Emits, emits_say, emits_ask}
use Rattle.sema.specs.Signature.{prefix}
use Rattle.expr_parts.specs.Sources.{after_one}

-- NO ODD LITERALS

pub odd_cond : (x : Bool) (ps : List Piece) → odd_pieces ps ≡ 0 → odd_pieces (cond x ps []) ≡ 0
unfolding odd_pieces
odd_cond true ps h = h
odd_cond false ps h = refl

odd_full : (k : FunctionKind) (x : Bool) (m : Term) → odd_pieces (full_name_of k (prefix x) m) ≡ 0
unfolding full_name_of odd_pieces odd_piece
odd_full absent x m = refl
odd_full internal true m = refl
odd_full internal false m = refl
odd_full (external n) x m = refl

-- a call up to its parameters, and its end
pub odd_called : (k : FunctionKind) (x : Bool) (m : Term) → odd_pieces (full_name_of k (prefix x) m ++ (fix "(ctx" refl ∷ [])) ≡ 0
unfolding odd_pieces odd_piece
odd_called k x m = rw (odd_append, odd_full) refl

pub odd_end : (k : ReturnKind) (b : ℕ) → odd_pieces (by_return_kind k (fix ", &mut " refl ∷ var b ∷ []) [] [] ++ (fix ")" refl ∷ [])) ≡ 0
unfolding odd_pieces odd_piece by_return_kind
odd_end kind.Iterator b = refl
odd_end kind.Option b = refl
odd_end kind.Plain b = refl

-- a field's line up to its value
pub odd_head : (f : Fields) (i k : ℕ) → odd_pieces (break k ∷ field_name f i ∷ fix ": " refl ∷ []) ≡ 0
unfolding odd_pieces odd_piece field_name
odd_head unit i k = refl
odd_head (named fs) i k = refl
odd_head (tuple ts) i k = refl

-- MARKS

module _ {env : Environment} {d : ℕ} {w : Sink} {r : Marks} where
  pub emits_nothing : Emits env d nothing w r w r
  unfolding odd_pieces
  emits_nothing = emits_say refl shows_none

  module _ {q : ℕ} {w' : Sink} where
    -- before a match's source
    pub emits_borrow : (wanted given : Bool) → contains r q ≡ given → Shows env d (cond (wanted && not given) (fix "&" refl ∷ []) []) w w' → Emits env d (ask q (λ x. say (cond (wanted && not x) (fix "&" refl ∷ []) []))) w r w' r
    unfolding odd_pieces odd_piece
    emits_borrow wanted given h p = emits_ask given h (emits_say (odd_cond (wanted && not given) (fix "&" refl ∷ []) refl) p)

    -- after a field's value
    pub emits_cloned : (given : Bool) → contains r q ≡ given → Shows env d (cond (given && not false) (fix ".clone()" refl ∷ []) []) w w' → Emits env d (ask q cloned) w r w' r
    unfolding odd_pieces odd_piece
    emits_cloned true h p = emits_ask true h (emits_say refl p)
    emits_cloned false h p = emits_ask false h (emits_say refl p)

-- TYPES

-- one type is returned, or another number of them
pub returns_one : (env : Environment) (ts : List ℕ) → length ts ≡ 1 → is_ref env (get_or ts 0 0) ≡ returns_ref env ts
unfolding returns_ref
returns_one env [] h = absurd (omega arith)
returns_one env (t ∷ []) h = refl
returns_one env (t ∷ u ∷ ts) h = absurd (omega arith)

pub returns_others : (env : Environment) (ts : List ℕ) → (length ts ≡ 1 → ⊥) → false ≡ returns_ref env ts
unfolding returns_ref
returns_others env [] h = refl
returns_others env (t ∷ []) h = absurd (h refl)
returns_others env (t ∷ u ∷ ts) h = refl

-- the same of a number of types, a type and an answer that were read
pub returns_first : (env : Environment) (ts : List ℕ) (n ty : ℕ) (b : Bool) → n ≡ length ts → n ≡ 1 → ty ≡ get_or ts 0 0 → b ≡ is_ref env ty → b ≡ returns_ref env ts
returns_first env ts n ty b h k q p = p ∙ ap (is_ref env) q ∙ returns_one env ts (sym h ∙ k)

-- nothing stands after the sources of the other kinds
pub after_none : (k : Binding) (q : ℕ) → (k ≡ b.Iterator → ⊥) → (k ≡ b.MakeSome → ⊥) → (k ≡ b.MatchSome → ⊥) → ((f : ℕ) → k ≡ b.MatchTuple f → ⊥) → ((f : ℕ) → k ≡ b.MatchVariant f → ⊥) → ((f : ℕ) → k ≡ b.ExtractStruct f → ⊥)
    → after_one (binding_told k) q ≡ nothing
after_none (b.ConstBool x) q i s m t v e = refl
after_none (b.ConstInt x y) q i s m t v e = refl
after_none (b.ConstPrim x) q i s m t v e = refl
after_none (b.Argument x) q i s m t v e = refl
after_none (b.Extractor x) q i s m t v e = refl
after_none (b.Constructor x) q i s m t v e = refl
after_none b.Iterator q i s m t v e = absurd (i refl)
after_none (b.MakeVariant x y) q i s m t v e = refl
after_none (b.MakeStruct x) q i s m t v e = refl
after_none b.MakeSome q i s m t v e = absurd (s refl)
after_none b.MatchSome q i s m t v e = absurd (m refl)
after_none (b.MatchTuple x) q i s m t v e = absurd (t x refl)
after_none (b.MatchVariant x) q i s m t v e = absurd (v x refl)
after_none (b.ExtractStruct x) q i s m t v e = absurd (e x refl)
