-- The open frames of a walk, in the places that hold them, and how they change. Assumes nothing.
use Rattle.std.specs.Prelude.{ℕ, ◌+◌, ◌≤◌, ◌<◌, ◌≡◌, List, [], ◌∷◌, length, take, drop, reverse, get_or}
use Rattle.codegen.specs.Block.{Purpose, body}
use Rattle.row_frames.specs.Told.{purpose_told}
use Rattle.row_frames.specs.declared.Purpose.{Purpose as CodePurpose}
use Rattle.row_frames.specs.declared.stack.Frame.{Frame}

module _ {T : Type 0} where
  -- the d frames that are open in the root, which is at place 0: the last of them first
  unfoldable pub open_frames : List (Frame T) → ℕ → List (Frame T)
  open_frames frames d = reverse (take d (drop 1 frames))

  -- of the last frame, or of the root
  abbrev pub last_level : List (Frame T) → ℕ
  last_level [] = 0
  last_level (f ∷ fs) = f.level

  abbrev pub last_purpose : List (Frame T) → Purpose
  last_purpose [] = body
  last_purpose (f ∷ fs) = purpose_told f.purpose

  -- f is the root
  pub record Root (f : Frame T) : Type 0 where
    pub level : f.level ≡ 0
    pub purpose : purpose_told f.purpose ≡ body

  -- what the places keep to, with d frames open
  pub record Stacked (frames : List (Frame T)) (d : ℕ) : Type 0 where
    pub room : d < length frames
    pub root : (x : Frame T) → Root (get_or frames 0 x)
    pub low : (j : ℕ) (x : Frame T) → j ≤ d → j ≤ (get_or frames j x).level

  -- f is the last of the frames fs, or the root
  pub record Last (fs : List (Frame T)) (f : Frame T) : Type 0 where
    pub level : f.level ≡ last_level fs
    pub purpose : purpose_told f.purpose ≡ last_purpose fs
    pub frame : (g : Frame T) (gs : List (Frame T)) → fs ≡ g ∷ gs → f ≡ g

  -- a frame of this level, for this purpose, opens in the last one, with the bindings that its place had
  pub record Pushed (level : ℕ) (purpose : CodePurpose) (own : T) (frames : List (Frame T)) (d : ℕ) (frames' : List (Frame T)) (d' : ℕ) : Type 0 where
    pub places : length frames' ≡ length frames
    pub opened : (x : Frame T) → open_frames frames' d' ≡ record { level = level; purpose = purpose; bound = (get_or frames (d + 1) x).bound; own = own } ∷ open_frames frames d
