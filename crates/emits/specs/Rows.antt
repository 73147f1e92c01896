-- A block's rows in a buffer: what each row writes is its own (`Part.row`), and what is left to write from the middle of a walk.
-- The marks of references are part of the place; the rest of a block's state goes by the rows alone, so it is known wherever the
-- writing is, past the room too. Assumes nothing.
use Rattle.std.specs.Prelude.{◌≡◌, ℕ, suc, ◌+◌}
use Rattle.std.proofs.Math.Path.{refl, sym}
use Rattle.std.proofs.Common.{ap, ◌∙◌, arith}
use Rattle.std.proofs.Math.Bool.{Bool}
use mathlib.Core.List.{List, ◌∷◌, ◌++◌}
use Rattle.std.proofs.Math.Nat.{add_assoc}
use Rattle.std.proofs.Math.ListN.{length, length-append}
use Rattle.std.proofs.lemmas.List.Edits.{sets}
use Rattle.text.specs.SinkLaws.{sets_append}
use Rattle.plan.specs.Plan.{Environment}
use Rattle.plan.specs.Row.{Row}
use Rattle.codegen.specs.Writer.{Marks}
use Rattle.codegen.specs.Block.{Body, State, Part, written, next, walk, text_of, odds_of}
use Rattle.splitting.specs.Lines.{text_append}
use Rattle.splitting.specs.Simulation.{odds_append}
use Rattle.splitting.specs.Marks.{with_refs, next_with}
use Rattle.emits.specs.Place.{Place, over, here, place, place_over, count_over, place_cases}

-- PARTS, whatever writes them

unfoldable pub run_parts : {S : Type 0} → ℕ → Environment → List Part → S → Place S → Place S
run_parts e env ps s' over = over
run_parts e env ps s' (here o at n s) = place e (sets o at (text_of env ps)) (at + length (text_of env ps)) (n + odds_of ps) s'

-- from here, the parts lead there; the state there is s'
pub record PartsEmit {S : Type 0} (e : ℕ) (env : Environment) (ps : List Part) (o : List ℕ) (at n : ℕ) (s : S) (o' : List ℕ) (at' n' : ℕ) (s' : S) : Type 0 where
  pub is : place e o' at' n' s' ≡ run_parts e env ps s' (place e o at n s)

-- one after the other
run_run : {S : Type 0} (e : ℕ) (env : Environment) (ps qs : List Part) (s₁ s₂ : S) (x : Place S) → run_parts e env qs s₂ (run_parts e env ps s₁ x) ≡ run_parts e env (ps ++ qs) s₂ x
unfolding run_parts
run_run e env ps qs s₁ s₂ over = refl
run_run e env ps qs s₁ s₂ (here o at n s) =
    place_cases (λ x. run_parts e env qs s₂ x ≡ run_parts e env (ps ++ qs) s₂ (here o at n s)) e (sets o at (text_of env ps)) (at + length (text_of env ps)) (n + odds_of ps) s₁
    (λ h g. rw (text_append, sets_append, length-append, odds_append, ← add_assoc, ← add_assoc))
    (λ h. sym (place_over e _ _ _ _ (rw (text_append, length-append) (omega arith))))
    (λ h. sym (count_over e _ _ _ _ (rw odds_append (omega arith))))

infixr 5 ◌⟫ₚ◌
pub ◌⟫ₚ◌ : {S : Type 0} {e : ℕ} {env : Environment} {ps qs : List Part} {o : List ℕ} {at n : ℕ} {s : S} {o₁ : List ℕ} {at₁ n₁ : ℕ} {s₁ : S} {o₂ : List ℕ} {at₂ n₂ : ℕ} {s₂ : S}
    → PartsEmit e env ps o at n s o₁ at₁ n₁ s₁ → PartsEmit e env qs o₁ at₁ n₁ s₁ o₂ at₂ n₂ s₂ → PartsEmit e env (ps ++ qs) o at n s o₂ at₂ n₂ s₂
◌⟫ₚ◌ {e = e} {env} {ps} {qs} {s₁ = s₁} {s₂ = s₂} p q = record { is = q.is ∙ ap (run_parts e env qs s₂) p.is ∙ run_run e env ps qs s₁ s₂ _ }

-- ROWS

module _ (e : ℕ) (env : Environment) (c : Body) (splits : ℕ → Bool) where
  -- row r, where the rows rs stand after it
  unfoldable pub run_row : State → ℕ → Row → List Row → Place Marks → Place Marks
  run_row s i r rs over = over
  run_row s i r rs (here o at n q) =
      let ps = written c splits (with_refs s q) i r rs in
      place e (sets o at (text_of env ps)) (at + length (text_of env ps)) (n + odds_of ps) (next c splits (with_refs s q) i r rs).refs

  -- all that is left
  unfoldable pub run_walk : State → ℕ → List Row → Place Marks → Place (Unit {0})
  run_walk s i rs over = over
  run_walk s i rs (here o at n q) =
      let ps = walk c splits (with_refs s q) i rs in
      place e (sets o at (text_of env ps)) (at + length (text_of env ps)) (n + odds_of ps) tt

  run_row_walk : (s : State) (i : ℕ) (r : Row) (rs : List Row) (x : Place Marks) → run_walk (next c splits s i r rs) (suc i) rs (run_row s i r rs x) ≡ run_walk s i (r ∷ rs) x
  unfolding run_row run_walk walk
  run_row_walk s i r rs over = refl
  run_row_walk s i r rs (here o at n q) =
      let ps : List Part = written c splits (with_refs s q) i r rs in
      let q' : List Bool = (next c splits (with_refs s q) i r rs).refs in
      place_cases (λ x. run_walk (next c splits s i r rs) (suc i) rs x ≡ run_walk s i (r ∷ rs) (here o at n q)) e (sets o at (text_of env ps)) (at + length (text_of env ps)) (n + odds_of ps) q'
      (λ h g. rw (text_append, sets_append, length-append, odds_append, ← add_assoc, ← add_assoc, ← next_with c splits s q i r rs))
      (λ h. sym (place_over e _ _ _ _ (rw (text_append, length-append) (omega arith))))
      (λ h. sym (count_over e _ _ _ _ (rw odds_append (omega arith))))

-- from here, row r leads there
pub record RowEmits (e : ℕ) (env : Environment) (c : Body) (splits : ℕ → Bool) (s : State) (i : ℕ) (r : Row) (rs : List Row) (o : List ℕ) (at n : ℕ) (q : Marks) (o' : List ℕ) (at' n' : ℕ) (q' : Marks) : Type 0 where
  pub is : place e o' at' n' q' ≡ run_row e env c splits s i r rs (place e o at n q)

-- from here, all that is left leads there
pub record WalkEmits (e : ℕ) (env : Environment) (c : Body) (splits : ℕ → Bool) (s : State) (i : ℕ) (rs : List Row) (o : List ℕ) (at n : ℕ) (q : Marks) (o' : List ℕ) (at' n' : ℕ) : Type 0 where
  pub is : place {S = Unit {0}} e o' at' n' tt ≡ run_walk e env c splits s i rs (place e o at n q)

-- a row, then all that is left after it
pub row_walk : {e : ℕ} {env : Environment} {c : Body} {splits : ℕ → Bool} {s : State} {i : ℕ} {r : Row} {rs : List Row} {o : List ℕ} {at n : ℕ} {q : Marks} {o₁ : List ℕ} {at₁ n₁ : ℕ} {q₁ : Marks} {o₂ : List ℕ} {at₂ n₂ : ℕ}
    → RowEmits e env c splits s i r rs o at n q o₁ at₁ n₁ q₁ → WalkEmits e env c splits (next c splits s i r rs) (suc i) rs o₁ at₁ n₁ q₁ o₂ at₂ n₂
    → WalkEmits e env c splits s i (r ∷ rs) o at n q o₂ at₂ n₂
row_walk {e} {env} {c} {splits} {s} {i} {r} {rs} p w = record { is = w.is ∙ ap (run_walk e env c splits (next c splits s i r rs) (suc i) rs) p.is ∙ run_row_walk e env c splits s i r rs _ }

-- A LOOP over the rows: whatever writes what is left from here writes the whole from the start.
pub record Emitting (e : ℕ) (env : Environment) (c : Body) (splits : ℕ → Bool) (s₀ : State) (rows : List Row) (o : List ℕ) (at n : ℕ) (q : Marks) (s : State) (i : ℕ) (rs : List Row) (o' : List ℕ) (at' n' : ℕ) (q' : Marks) : Type 0 where
  pub rest : (o'' : List ℕ) (at'' n'' : ℕ) → WalkEmits e env c splits s i rs o' at' n' q' o'' at'' n'' → WalkEmits e env c splits s₀ 0 rows o at n q o'' at'' n''

module _ {e : ℕ} {env : Environment} {c : Body} {splits : ℕ → Bool} {s₀ : State} {rows : List Row} {o : List ℕ} {at n : ℕ} {q : Marks} where
  pub emitting_start : Emitting e env c splits s₀ rows o at n q s₀ 0 rows o at n q
  emitting_start = record { rest = λ o'' at'' n'' p. p }

  pub emitting_row : {s : State} {i : ℕ} {r : Row} {rs : List Row} {o' : List ℕ} {at' n' : ℕ} {q' : Marks} {o₂ : List ℕ} {at₂ n₂ : ℕ} {q₂ : Marks}
      → Emitting e env c splits s₀ rows o at n q s i (r ∷ rs) o' at' n' q' → RowEmits e env c splits s i r rs o' at' n' q' o₂ at₂ n₂ q₂
      → Emitting e env c splits s₀ rows o at n q (next c splits s i r rs) (suc i) rs o₂ at₂ n₂ q₂
  emitting_row g p = record { rest = λ o'' at'' n'' w. g.rest o'' at'' n'' (row_walk p w) }
