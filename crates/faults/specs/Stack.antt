-- The names that the open frames stand for, and how they change. Assumes nothing.
use Rattle.std.specs.Prelude.{ℕ, ◌-◌, ◌≤◌, ◌<◌, ◌≡◌, true, Bool, List, [], ◌∷◌, leb, length, drop, map}
use Rattle.std.proofs.Common.{refl, arith, le-leb}
use Rattle.std.proofs.lemmas.Bool.{lt-leb}
use Rattle.codegen.specs.Writer.{Marks}
use Rattle.origin.specs.Names.{Scope, Names, restore, keep, around}
use Rattle.emits.specs.Marks.{set_of}
use Rattle.row_frames.specs.Told.{purpose_told}
use Rattle.row_frames.specs.Stack.{last_level, last_purpose, Last}
use Rattle.row_frames.specs.declared.stack.Frame.{Frame}

module _ {T : Type 0} where
  -- a frame with the names where it closes
  unfoldable pub scope_told : Frame T → Scope
  scope_told f = record { level = f.level - 1; purpose = purpose_told f.purpose; outside = set_of f.bound }

  abbrev pub scopes_told : List (Frame T) → List Scope
  scopes_told fs = map scope_told fs

  -- the names and the open frames
  abbrev pub names_told : List Bool → List (Frame T) → Names
  names_told bound fs = record { bound = set_of bound; scopes = scopes_told fs }

  pub around_last : (fs : List (Frame T)) → around (scopes_told fs) ≡ last_purpose fs
  unfolding scope_told
  around_last [] = refl
  around_last (f ∷ fs) = refl

  -- CLOSING

  closing : {l : ℕ} (f : Frame T) → l < f.level → leb l (f.level - 1) ≡ true
  closing {l} f h = le-leb l (f.level - 1) (omega arith)

  module _ {fs : List (Frame T)} {f : Frame T} (t : Last fs f) {l : ℕ} (h : l < f.level) where
    -- the names at a row that closes the last frame
    pub restore_last : (m : Marks) → restore l m (scopes_told fs) ≡ restore l (set_of f.bound) (scopes_told (drop 1 fs))
    unfolding restore scope_told
    restore_last m = by_frames fs t where
      by_frames : (gs : List (Frame T)) → Last gs f → restore l m (scopes_told gs) ≡ restore l (set_of f.bound) (scopes_told (drop 1 gs))
      by_frames [] u = absurd (omega (arith, u.level))
      by_frames (g ∷ gs) u = let same : f ≡ g = u.frame g gs refl in rw (← same, closing f h) refl

    pub keep_last : keep l (scopes_told fs) ≡ keep l (scopes_told (drop 1 fs))
    unfolding keep scope_told
    keep_last = by_frames fs t where
      by_frames : (gs : List (Frame T)) → Last gs f → keep l (scopes_told gs) ≡ keep l (scopes_told (drop 1 gs))
      by_frames [] u = absurd (omega (arith, u.level))
      by_frames (g ∷ gs) u = let same : f ≡ g = u.frame g gs refl in rw (← same, closing f h) refl

  -- a row that closes none
  pub restore_none : (fs : List (Frame T)) {l : ℕ} (m : Marks) → length fs ≤ last_level fs → last_level fs ≤ l → restore l m (scopes_told fs) ≡ m
  unfolding restore scope_told
  restore_none [] m h g = refl
  restore_none (f ∷ fs) {l} m h g = rw (lt-leb l (f.level - 1) (omega arith))

  pub keep_none : (fs : List (Frame T)) {l : ℕ} → length fs ≤ last_level fs → last_level fs ≤ l → keep l (scopes_told fs) ≡ scopes_told fs
  unfolding keep scope_told
  keep_none [] h g = refl
  keep_none (f ∷ fs) {l} h g = rw (lt-leb l (f.level - 1) (omega arith))
