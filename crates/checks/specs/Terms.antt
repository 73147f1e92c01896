-- The generated terms in the buffers, one after the other, and a walk over them from the first on. Assumes nothing.
use Prim.Native.Nat.{ℕ, ◌+◌, ◌-◌, ◌*◌, ◌/◌, ◌≤◌, ◌<◌}
use mathlib.Core.Path.{◌≡◌, refl, ap, ◌∙◌}
use mathlib.Core.List.{List, [], ◌∷◌, map}
use native.Mathlib.Omega.{arith}
use lib.ListN.{length, get_or}
use Rattle.plan.specs.Plan.{Generated}
use Rattle.rows.specs.View.{block_of}
use Rattle.layout.specs.View.{cuts}
use Rattle.view.specs.Tables.{table_rows, generated_at, generated_from}
use Rattle.view.specs.Buffers.{rows_of, plan_of}
use Rattle.view.specs.declared.buffers.Plan.{Plan}
use Rattle.view.proofs.Plans.{generated_is, generated_next, generated_none, generated_length}
use Rattle.checks.specs.Tests.{tables_at, generated_of}
use Rattle.checks.specs.declared.tables.GeneratedTables.{GeneratedTables}

-- the generated terms from number i on
abbrev pub terms_from : Plan → ℕ → List Generated
terms_from p i = generated_from p.words.now p.rows.now p.tables.now (7 + 3 * i)

module _ (p : Plan) where
  pub terms_count : length (plan_of p).generated ≡ (length p.tables.now - 8) / 3
  terms_count =
      ap length (generated_is p.words.now p.rows.now p.tables.now p.bytes.now)
      ∙ generated_length p.words.now p.rows.now p.tables.now 7
      ∙ (let z : length p.tables.now - 1 - 7 ≡ length p.tables.now - 8 = omega arith in rw z)

  -- from the first on they are all
  pub terms_all : (plan_of p).generated ≡ terms_from p 0
  terms_all = generated_is p.words.now p.rows.now p.tables.now p.bytes.now

  module _ (i : ℕ) where
    -- the generated term i is the first of those from it on
    pub terms_first : (g : GeneratedTables) → g ≡ tables_at i → i < length (plan_of p).generated → terms_from p i ≡ generated_of p g ∷ terms_from p (i + 1)
    unfolding generated_at
    terms_first g at h =
        let z : 7 + 3 * i + 3 ≡ 7 + 3 * (i + 1) = omega arith in
        rw (at, generated_next p.words.now p.rows.now p.tables.now (7 + 3 * i) (omega (arith, terms_count)), z) refl

    -- past the last there is none
    pub terms_none : length (plan_of p).generated ≤ i → terms_from p i ≡ []
    terms_none h = generated_none p.words.now p.rows.now p.tables.now (7 + 3 * i) (omega (arith, terms_count))

  -- the rows of a block, from the first of table t up to its last
  pub block_rows : (t : ℕ) {first last : ℕ} → first ≡ get_or p.tables.now t 0 → last ≡ get_or p.tables.now (t + 1) 0 → map block_of (cuts p.words.now p.rows.now first (last - first)) ≡ map block_of (rows_of p t)
  unfolding table_rows
  block_rows t h g = rw (h, g)

-- A WALK over the generated terms that changes a state, as what is written: what is left to do, from term i on, ends where the whole does.
-- `Fits` says what must hold of the terms that are left, `Done` which states stand before and after these terms.
pub record TermsLeft {S : Type 0} (p : Plan) (Fits : List Generated → Type 0) (Done : List Generated → S → S → Type 0) (s₀ : S) (i : ℕ) (s : S) : Type 0 where
  pub fits : Fits (terms_from p i)
  pub ends : (s' : S) → Done (terms_from p i) s s' → Done (plan_of p).generated s₀ s'

module _ {S : Type 0} {p : Plan} {Fits : List Generated → Type 0} {Done : List Generated → S → S → Type 0} {s₀ : S} where
  pub terms_start : Fits (plan_of p).generated → TermsLeft p Fits Done s₀ 0 s₀
  terms_start f = record { fits = rw (terms_all p) at f; ends = λ s' x. rw (terms_all p) x }

  module _ {i : ℕ} {s : S} (l : TermsLeft p Fits Done s₀ i s) where
    -- term i is done
    pub terms_next : {g : GeneratedTables} {s' : S} → g ≡ tables_at i → i < length (plan_of p).generated
        → ((gs : List Generated) → Fits (generated_of p g ∷ gs) → Fits gs × ((s₂ : S) → Done gs s' s₂ → Done (generated_of p g ∷ gs) s s₂)) → TermsLeft p Fits Done s₀ (i + 1) s'
    terms_next {g} at h step =
        let next = terms_first p i g at h in
        let one = step (terms_from p (i + 1)) (rw next at l.fits) in
        record { fits = one.0; ends = λ s₂ x. l.ends s₂ (rw next (one.1 s₂ x)) }

    -- all are done
    pub terms_done : length (plan_of p).generated ≤ i → Done [] s s → Done (plan_of p).generated s₀ s
    terms_done h x = l.ends s (rw (terms_none p i h) x)
