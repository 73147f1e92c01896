-- Expressions from the inside: a binding from its start, from source to source, and to its end. Assumes nothing.
use Prim.Native.Nat.{ℕ, zero, suc, ◌+◌, ◌-◌, ◌≤◌, ◌<◌}
use mathlib.Core.Path.{◌≡◌, refl, sym, ◌∙◌}
use mathlib.Core.Bool.{Bool, true, false}
use mathlib.Core.List.{List}
use native.Mathlib.Nat.{add-zero}
use native.Mathlib.Omega.{arith}
use lib.ListN.{length, get_or}
use Rattle.std.specs.Prelude.{Option, Some, None}
use Rattle.text.specs.Writes.{SameSink}
use Rattle.text.specs.declared.sink.Sink.{Sink}
use Rattle.plan.specs.Plan.{Environment}
use Rattle.plan.specs.Binding.{Binding, ConstBool, ConstInt, ConstPrim, Argument, Extractor, Constructor, Iterator, MakeVariant, MakeStruct, MakeSome, MatchSome, MatchTuple, MatchVariant, ExtractStruct}
use Rattle.codegen.specs.Writer.{Marks, contains, Writer, ◌▸◌}
use Rattle.codegen.specs.Expr.{emit_below, emit_expr}
use Rattle.emits.specs.Runs.{Emits, Rest, ◌⟫◌, emits_ask, emits_past}
use Rattle.splitting.specs.Cases.{by_leb}
use Rattle.expr_parts.specs.EmitsLaws.{emits_same}
use Rattle.expr_parts.specs.Sources.{one_source}
use Rattle.expr_parts.proofs.Laws.{emits_nothing}
use Rattle.expr.specs.Between.{row_of, source_count, inner, turns}
use Rattle.expr.specs.declared.Scope.{Scope}
use Rattle.expr.specs.declared.between.Expression.{Expression}
use Rattle.expr.specs.declared.between.Source.{Source}
use Rattle.expr.specs.Next.{HasNoName, StepIs}
use Rattle.expr.specs.Told.{env_in, bindings_of, bound_in, Fits}
use Rattle.expr.specs.Writes.{below, UpTo, Ready, Writes, Leaves, rest_of}
use Rattle.expr.proofs.Turns.{Same, same_start, same_turn, inner_plus}

-- READY

-- one step deeper at the most
inner_most : (k : Binding) (d : ℕ) → inner k d ≤ suc d
inner_most (ConstBool v) d = omega arith
inner_most (ConstInt n v) d = omega arith
inner_most (ConstPrim n) d = omega arith
inner_most (Argument i) d = omega arith
inner_most (Extractor m) d = omega arith
inner_most (Constructor m) d = omega arith
inner_most Iterator d = omega arith
inner_most (MakeVariant n k) d = omega arith
inner_most (MakeStruct n) d = omega arith
inner_most MakeSome d = omega arith
inner_most MatchSome d = omega arith
inner_most (MatchTuple f) d = omega arith
inner_most (MatchVariant f) d = omega arith
inner_most (ExtractStruct f) d = omega arith

module _ {s : Scope} {depth b d₀ d k : ℕ} where
  -- for what a binding's number says, from its expression's
  ready_inside : Ready s depth b (suc b) d₀ d (suc k) → Ready s depth b b d₀ d k
  ready_inside h = record { fits = h.fits; deep = h.deep; fuel = omega (arith, h.fuel) }

  not_deepest : Ready s depth b b d₀ d k → depth < 4611686018427387904
  not_deepest h = omega (arith, h.fits.deep)

  -- for a source
  ready_source : (x : Binding) {q deep : ℕ} → q < b → deep ≡ inner x depth → Ready s depth b b d₀ d k → Ready s deep q (suc q) d₀ (inner x d) k
  ready_source x l e h = record {
    fits = record { indexed = h.fits.indexed; lower = h.fits.lower; deep = omega (arith, h.fits.deep, inner_most x depth, e) };
    deep = rw e (inner_plus x d₀ d h.deep);
    fuel = omega (arith, h.fuel);
  }

-- a source that is written is below its binding
counted_lower : (e : Environment) (k : Binding) (qs : List ℕ) (b i : ℕ) → (one_source k ≡ true → 0 < length qs) → ((j : ℕ) → j < length qs → get_or qs j 0 < b) → i < source_count e k qs → get_or qs i 0 < b
counted_lower e (ConstBool v) qs b i o l h = absurd (omega arith)
counted_lower e (ConstInt n v) qs b i o l h = absurd (omega arith)
counted_lower e (ConstPrim n) qs b i o l h = absurd (omega arith)
counted_lower e (Argument x) qs b i o l h = absurd (omega arith)
counted_lower e (Extractor m) qs b i o l h = l i (omega arith)
counted_lower e (Constructor m) qs b i o l h = l i (omega arith)
counted_lower e Iterator qs b i o l h = l i (omega (arith, o refl))
counted_lower e (MakeVariant n k) qs b i o l h = l i h
counted_lower e (MakeStruct n) qs b i o l h = l i h
counted_lower e MakeSome qs b i o l h = l i (omega (arith, o refl))
counted_lower e MatchSome qs b i o l h = l i (omega (arith, o refl))
counted_lower e (MatchTuple f) qs b i o l h = l i (omega (arith, o refl))
counted_lower e (MatchVariant f) qs b i o l h = l i (omega (arith, o refl))
counted_lower e (ExtractStruct f) qs b i o l h = l i (omega (arith, o refl))

-- ONE AFTER THE OTHER

rest_after : {env : Environment} {d : ℕ} {v₀ : Writer} {w₀ : Sink} {r₀ : Marks} {v u x : Writer} {w : Sink} {r : Marks} {w₁ : Sink} {r₁ : Marks}
    → Same (v ▸ x) u → Rest env d v₀ w₀ r₀ u w r → Emits env d v w r w₁ r₁ → Rest env d v₀ w₀ r₀ x w₁ r₁
rest_after {r = r} h g p = record { ends = λ w' r' s. g.ends w' r' (emits_same (h.is r) (p ⟫ s)) }

module _ (s : Scope) (depth b : ℕ) where
  -- no source is left
  module _ (i : ℕ) (w : Sink) (t : StepIs s depth b i w None) where
    counted : (d₀ d k : ℕ) → Ready s depth b b d₀ d k → HasNoName s b w → source_count (env_in s) (row_of s.bindings b).binding (row_of s.bindings b).sources ≤ i
    counted d₀ d k h n =
        by_leb (λ x. source_count (env_in s) (row_of s.bindings b).binding (row_of s.bindings b).sources ≤ i) (source_count (env_in s) (row_of s.bindings b).binding (row_of s.bindings b).sources) i (λ c. c)
        (λ c. absurd (omega (arith, t n c, counted_lower (env_in s) (row_of s.bindings b).binding (row_of s.bindings b).sources b i (h.fits.lower.one b) (h.fits.lower.lower b) c)))

    none_left : (d₀ d k : ℕ) {r : Marks} → Ready s depth b b d₀ d k → w.at < w.end → (v : Bool) → contains (bound_in s) b ≡ v → Emits (env_in s) d₀ (rest_of s b i (below s k) d) w r w r
    unfolding turns
    none_left d₀ d k h g true y = rw y emits_nothing
    none_left d₀ d k h g false y =
        let z : source_count (env_in s) (row_of s.bindings b).binding (row_of s.bindings b).sources - i ≡ 0 = omega (arith, counted d₀ d k h (record { room = g; nameless = y })) in
        rw (y, z) emits_nothing

  module _ {w : Sink} {r : Marks} where
    module _ (i : ℕ) {w₁ : Sink} {r₁ : Marks} (g : Leaves s depth b b (rest_of s b 0) w r (rest_of s b i) w₁ r₁) where
      -- source i, and up to the next
      leaves_turn : (x : Source) {given : Bool} {w₂ : Sink} {r₂ : Marks} {w₃ : Sink} {r₃ : Marks} → StepIs s depth b i w₁ (Some x) → contains r₁ x.binding ≡ given
          → Writes s x.depth x.binding (suc x.binding) (λ rec d. rec d x.binding) w₁ r₁ w₂ r₂
          → UpTo s depth b (i + 1) given w₂ r₂ w₃ r₃ → SameSink w₂ w₃
          → Leaves s depth b b (rest_of s b 0) w r (rest_of s b (i + 1)) w₃ r₃
      leaves_turn x {given} n m q u t = record {
        same = (t.0 ∙ q.same.0 ∙ g.same.0, t.1 ∙ q.same.1 ∙ g.same.1, t.2 ∙ q.same.2 ∙ g.same.2);
        is = λ d₀ d k h.
            let row = row_of s.bindings b in
            let z : i + 1 ≡ suc i = omega arith in
            let is = n.1.source in
            rw z (rest_after (same_turn (env_in s) (bound_in s) (below s k) d b row.binding row.sources i n.0 n.1.more) (g.is d₀ d k h)
            (rw (← is) (emits_ask given m (q.is d₀ (inner row.binding d) k (ready_source row.binding n.1.below (n.1.deep (not_deepest h)) h) ⟫ (rw (z, ← is) at (u h.fits.indexed d₀ d h.deep (not_deepest h)))))));
      }

      module _ (t : StepIs s depth b i w₁ None) where
        -- from the first source
        writes_rest : Writes s depth b b (rest_of s b 0) w r w₁ r₁
        writes_rest = record {
          same = g.same;
          is = λ d₀ d k h.
              by_leb (λ x. Emits (env_in s) d₀ (rest_of s b 0 (below s k) d) w r w₁ r₁) w₁.end w₁.at
              (λ q. (g.is d₀ d k h).ends _ _ (emits_past q))
              (λ q. (g.is d₀ d k h).ends _ _ (none_left i w₁ t d₀ d k h q (contains (bound_in s) b) refl));
        }

        -- from the start
        writes_done : {w₀ : Sink} {r₀ : Marks}
            → UpTo s depth b 0 false w₀ r₀ w r → SameSink w₀ w
            → Writes s depth b (suc b) (λ rec d. rec d b) w₀ r₀ w₁ r₁
        unfolding emit_below
        writes_done {w₀} {r₀} u x = record { same = (g.same.0 ∙ x.0, g.same.1 ∙ x.1, g.same.2 ∙ x.2); is = go }
          where
            go : (d₀ d k : ℕ) → Ready s depth b (suc b) d₀ d k → Emits (env_in s) d₀ (below s k d b) w₀ r₀ w₁ r₁
            go d₀ d zero h = absurd (omega (arith, h.fuel))
            go d₀ d (suc k) h =
                let h' = ready_inside h in
                emits_same ((same_start (env_in s) (bound_in s) (below s k) d b (row_of s.bindings b).binding (row_of s.bindings b).sources).is r₀)
                (u h.fits.indexed d₀ d h.deep (not_deepest h') ⟫ writes_rest.is d₀ d k h')

-- THE LOOP

-- from the end of the start to here: all up to the source that is next, or to the end
pub record Stands (s : Scope) (depth b : ℕ) (w₀ : Sink) (r₀ : Marks) (e : Expression) (w : Sink) (r : Marks) (next : Option Source) : Type 0 where
  pub number : e.binding ≡ b
  pub deep : e.depth ≡ depth
  pub leaves : Leaves s depth b b (rest_of s b 0) w₀ r₀ (rest_of s b e.written) w r
  pub step : StepIs s depth b e.written w next

module _ (s : Scope) (depth b : ℕ) {w₀ : Sink} {r₀ : Marks} {e : Expression} {w : Sink} {r : Marks} where
  pub stands_turn : (x : Source) (next : Option Source) {given : Bool} {w₂ : Sink} {r₂ : Marks} {w₃ : Sink} {r₃ : Marks} {e' : Expression} → Stands s depth b w₀ r₀ e w r (Some x) → contains r x.binding ≡ given
      → Writes s x.depth x.binding (suc x.binding) (λ rec d. rec d x.binding) w r w₂ r₂
      → e' ≡ record e { written = e.written + 1 } → UpTo s e.depth e.binding (e.written + 1) given w₂ r₂ w₃ r₃ → SameSink w₂ w₃ → StepIs s e.depth e.binding (e.written + 1) w₃ next
      → Stands s depth b w₀ r₀ e' w₃ r₃ next
  stands_turn x next h g q m u t n =
      rw m (record {
        number = h.number;
        deep = h.deep;
        leaves = leaves_turn s depth b e.written h.leaves x h.step g q (rw (h.deep, h.number) at u) t;
        step = rw (h.deep, h.number) at n;
      })

  pub stands_end : {w₁ : Sink} {r₁ : Marks} → Stands s depth b w r e w₁ r₁ None → UpTo s depth b 0 false w₀ r₀ w r → SameSink w₀ w → Writes s depth b (suc b) (λ rec d. rec d b) w₀ r₀ w₁ r₁
  stands_end h u = writes_done s depth b e.written h.leaves h.step u

-- A WHOLE EXPRESSION

pub writes_expr : {s : Scope} {depth b : ℕ} {w : Sink} {r : Marks} {w' : Sink} {r' : Marks} → Fits s depth b
    → Writes s depth b (suc b) (λ rec d. rec d b) w r w' r' → Emits (env_in s) depth (emit_expr (env_in s) (bindings_of s) (bound_in s) b) w r w' r'
unfolding emit_expr
writes_expr {depth = depth} {b = b} h q = q.is depth 0 (suc b) (record { fits = h; deep = sym (add-zero depth); fuel = omega arith })
