-- A step's lets one by one. Assumes nothing.
use Rattle.std.specs.Prelude.{◌≡◌, refl, ℕ, suc, ◌+◌, ◌≤◌, ◌<◌, Bool, List, [], ◌∷◌, length, drop}
use Rattle.std.proofs.Common.{◌∙◌, add-one, drop-cons, drop_of_length-le}
use Rattle.std.proofs.Math.Option.{none}
use Rattle.text.specs.declared.sink.Sink.{Sink}
use Rattle.codegen.specs.Writer.{insert, said}
use Rattle.codegen.specs.Block.{let_line, lets}
use Rattle.rows.specs.View.{nth}
use Rattle.emits.specs.Marks.{set_of}
use Rattle.body.specs.declared.Body.{Body}
use Rattle.body.specs.Told.{body_told, StandsAt}
use Rattle.body.specs.Own.{WritesOwn, lets_own}
use Rattle.body.specs.Lines.{◌⟫ᵢ◌, lines_none}

-- from the sink w and the marks refs and bound, the lets bs lead to w', refs' and bound'
abbrev pub WritesLets : Type 0 → Body → ℕ → List ℕ → Sink → List Bool → List Bool → Sink → List Bool → List Bool → Type 0
WritesLets deep b depth bs w refs bound w' refs' bound' = WritesOwn deep b (StandsAt depth) (λ c q. lets_own (lets c bs q (set_of bound))) w refs none w' refs' bound'

module _ {deep : Type 0} {b : Body} {depth : ℕ} {w : Sink} {refs : List Bool} (bound : List Bool) where
  lets_none : WritesLets deep b depth [] w refs bound w refs bound
  unfolding lets
  lets_none = record { same = (refl, refl, refl); lines = λ d f i fs t. lines_none; frame = λ c r. refl; bound = λ c r. refl }

  lets_cons : (n : ℕ) (bs : List ℕ) {w₁ : Sink} {refs₁ bound₁ : List Bool} {w' : Sink} {refs' bound' : List Bool}
      → WritesLets deep b depth (n ∷ []) w refs bound w₁ refs₁ bound₁ → WritesLets deep b depth bs w₁ refs₁ bound₁ w' refs' bound' → WritesLets deep b depth (n ∷ bs) w refs bound w' refs' bound'
  unfolding lets
  lets_cons n bs {bound₁ = bound₁} x y =
      let named : set_of bound₁ ≡ insert (set_of bound) n = x.bound (body_told b) (set_of refs) in
      let z = rw named at y in
      record { same = (z.same.0 ∙ x.same.0, z.same.1 ∙ x.same.1, z.same.2 ∙ x.same.2); lines = λ d f i fs t. x.lines d f i fs t ⟫ᵢ z.lines d f i fs t; frame = λ c r. refl; bound = λ c r. z.bound c (said (let_line c (set_of bound) n) r).refs }

-- A LOOP over the lets ws: what those from number k on lead to, all of them do from the start.
pub record LetsLeft (deep : Type 0) (b : Body) (depth : ℕ) (ws : List ℕ) (w₀ : Sink) (refs₀ bound₀ : List Bool) (k : ℕ) (w : Sink) (refs bound : List Bool) : Type 0 where
  pub ends : (w' : Sink) (refs' bound' : List Bool) → WritesLets deep b depth (drop k ws) w refs bound w' refs' bound' → WritesLets deep b depth ws w₀ refs₀ bound₀ w' refs' bound'

module _ {deep : Type 0} {b : Body} {depth : ℕ} {ws : List ℕ} {w₀ : Sink} {refs₀ bound₀ : List Bool} where
  module _ {k : ℕ} {w : Sink} {refs bound : List Bool} (g : LetsLeft deep b depth ws w₀ refs₀ bound₀ k w refs bound) where
    pub lets_more : {n : ℕ} {w₁ : Sink} {refs₁ bound₁ : List Bool} → k < length ws → n ≡ nth ws k → WritesLets deep b depth (n ∷ []) w refs bound w₁ refs₁ bound₁ → LetsLeft deep b depth ws w₀ refs₀ bound₀ (k + 1) w₁ refs₁ bound₁
    lets_more {n} h e x = record { ends = λ w' refs' bound' y. g.ends w' refs' bound' (rw (drop-cons ws k 0 h, ← e) (lets_cons bound n (drop (suc k) ws) x (rw add-one at y))) }

    pub lets_done : length ws ≤ k → WritesLets deep b depth ws w₀ refs₀ bound₀ w refs bound
    lets_done h = g.ends w refs bound (rw (drop_of_length-le ws h) (lets_none bound))
