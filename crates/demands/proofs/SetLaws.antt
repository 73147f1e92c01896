-- The entries of a slice in which values were set from a place on, as the C functions set theirs: each value stands in its place as far as the
-- slice goes, and the entries before and after them stay. Assumes nothing.
use Rattle.std.specs.Prelude.{ℕ, zero, suc, ◌+◌, ◌≤◌, ◌<◌, ◌≡◌, refl, List, [], ◌∷◌, length, get_or, set}
use Rattle.std.proofs.Common.{◌∙◌, arith, length-set, get_or-set_same, get_or-set_other}
use Rattle.std.proofs.lemmas.List.Edits.{sets}

sets_before : (told vs : List ℕ) (at i : ℕ) → i < at → get_or (sets told at vs) i 0 ≡ get_or told i 0
sets_before told [] at i h = refl
sets_before told (v ∷ vs) at i h = sets_before (set told at v) vs (suc at) i (omega arith) ∙ get_or-set_other told at i v 0 (λ e. absurd (omega arith))

pub sets_after : (told vs : List ℕ) (at i : ℕ) → at + length vs ≤ i → get_or (sets told at vs) i 0 ≡ get_or told i 0
sets_after told [] at i h = refl
sets_after told (v ∷ vs) at i h = sets_after (set told at v) vs (suc at) i (omega arith) ∙ get_or-set_other told at i v 0 (λ e. absurd (omega arith))

pub sets_at : (told vs : List ℕ) (at i : ℕ) → at + i < length told → i < length vs → get_or (sets told at vs) (at + i) 0 ≡ get_or vs i 0
sets_at told [] at i h g = absurd (omega arith)
sets_at told (v ∷ vs) at zero h g =
    let e : at + 0 ≡ at = omega arith in
    rw e (sets_before (set told at v) vs (suc at) at (omega arith) ∙ get_or-set_same told at v 0 (omega arith))
sets_at told (v ∷ vs) at (suc i) h g =
    let e : at + suc i ≡ suc at + i = omega arith in
    rw e (sets_at (set told at v) vs (suc at) i (rw length-set (omega arith)) (omega arith))
