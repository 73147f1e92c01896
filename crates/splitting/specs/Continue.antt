-- The walk from the middle: what a writer that goes block by block has left to write.
use Rattle.std.specs.Prelude.{ℕ, suc, ◌<◌, ◌≤◌, ◌≡◌, refl, Bool, cond}
use mathlib.Core.List.{List, [], ◌∷◌, ◌++◌, append_assoc}
use Rattle.std.proofs.Common.{arith, le-leb}
use Rattle.std.proofs.lemmas.Bool.{lt-leb}
use Rattle.plan.specs.Row.{Row, level}
use Rattle.codegen.specs.Block.{Body, Frame, State, Own, purpose_of, end_block, closing, left, restored, own, row_parts, after, here, splits_here, next, written, walk}
use Rattle.splitting.specs.Cases.{by_leb}
use Rattle.splitting.specs.Owners.{left_left}

-- the state where the frames of level l and deeper are closed
unfoldable pub settled : ℕ → State → State
settled l s = record { refs = s.refs; bound = restored l s.bound s.frames; match_split = s.match_split; frames = left l s.frames }

-- the next row, if there is one, is not deeper than l
abbrev pub NotDeeper : ℕ → List Row → Type 0
NotDeeper l [] = Unit
NotDeeper l (r ∷ rs) = level r ≤ l

closing_closing : (m l : ℕ) (fs : List Frame) → m ≤ l → closing m fs ≡ closing l fs ++ closing m (left l fs)
unfolding closing left
closing_closing m l [] h = refl
closing_closing m l (f ∷ fs) h =
    by_leb (λ b. closing m (f ∷ fs) ≡ cond b (end_block f fs ++ closing l fs) [] ++ closing m (cond b (left l fs) (f ∷ fs))) l f.level
    (λ g. rw (le-leb m f.level (omega arith), append_assoc, ← closing_closing m l fs h))
    (λ g. refl)

restored_restored : (m l : ℕ) (b : List Bool) (fs : List Frame) → m ≤ l → restored m (restored l b fs) (left l fs) ≡ restored m b fs
unfolding restored left
restored_restored m l b [] h = refl
restored_restored m l b (f ∷ fs) h =
    by_leb (λ t. restored m (cond t (restored l f.bound fs) b) (cond t (left l fs) (f ∷ fs)) ≡ restored m b (f ∷ fs)) l f.level
    (λ g. rw (le-leb m f.level (omega arith)) (restored_restored m l f.bound fs h))
    (λ g. refl)

-- the innermost frame is less deep than l
abbrev pub Inside : ℕ → List Frame → Type 0
Inside l [] = Unit
Inside l (f ∷ fs) = f.level < l

inside_closing : (l : ℕ) (fs : List Frame) → Inside l fs → closing l fs ≡ []
unfolding closing
inside_closing l [] h = refl
inside_closing l (f ∷ fs) h = rw (lt-leb l f.level h)

pub inside_left : (l : ℕ) (fs : List Frame) → Inside l fs → left l fs ≡ fs
unfolding left
inside_left l [] h = refl
inside_left l (f ∷ fs) h = rw (lt-leb l f.level h)

inside_restored : (l : ℕ) (b : List Bool) (fs : List Frame) → Inside l fs → restored l b fs ≡ b
unfolding restored
inside_restored l b [] h = refl
inside_restored l b (f ∷ fs) h = rw (lt-leb l f.level h)

module _ (c : Body) (sp : ℕ → Bool) where
  here_settled : (l : ℕ) (s : State) (r : Row) (rs : List Row) → level r ≤ l → here c (settled l s) r rs ≡ here c s r rs
  unfolding here settled
  here_settled l s r rs h = rw (left_left (level r) l s.frames h, restored_restored (level r) l s.bound s.frames h)

  next_settled : (l : ℕ) (s : State) (i : ℕ) (r : Row) (rs : List Row) → level r ≤ l → next c sp (settled l s) i r rs ≡ next c sp s i r rs
  unfolding next after settled
  next_settled l s i r rs h = rw (here_settled l s r rs h, left_left (level r) l s.frames h)

  written_settled : (l : ℕ) (s : State) (i : ℕ) (r : Row) (rs : List Row) → level r ≤ l → written c sp s i r rs ≡ closing l s.frames ++ written c sp (settled l s) i r rs
  unfolding written settled
  written_settled l s i r rs h = rw (here_settled l s r rs h, left_left (level r) l s.frames h, closing_closing (level r) l s.frames h, append_assoc)

  -- What open frames have to write can be written as soon as no row to come is in them.
  pub settle_walk : (l : ℕ) (s : State) (i : ℕ) (rs : List Row) → NotDeeper l rs → walk c sp s i rs ≡ closing l s.frames ++ walk c sp (settled l s) i rs
  unfolding walk settled
  settle_walk l s i [] h = closing_closing 0 l s.frames (omega arith)
  settle_walk l s i (r ∷ rs) h = rw (written_settled l s i r rs h, next_settled l s i r rs h, append_assoc)

  -- A row that is deeper than the open frames: its own parts, then the rest.
  module _ (s : State) (i : ℕ) (r : Row) (rs : List Row) where
    abbrev pub row_own : Own
    row_own = own c s.refs s.bound (purpose_of s.frames) r rs

    abbrev pub row_splits : Bool
    row_splits = splits_here sp row_own r rs

    abbrev pub row_after : State
    row_after = after s (level r) i s.frames row_own row_splits

    pub row_walk : Inside (level r) s.frames → walk c sp s i (r ∷ rs) ≡ row_parts i s.frames row_own row_splits ++ walk c sp row_after (suc i) rs
    unfolding walk written next here
    row_walk h = rw (inside_closing (level r) s.frames h, inside_left (level r) s.frames h, inside_restored (level r) s.bound s.frames h)
