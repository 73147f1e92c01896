-- The open frames of the definition, by those of the stack. Assumes nothing.
use Prim.Native.Nat.{ℕ, suc, ◌+◌, ◌-◌, ◌*◌, ◌≤◌, ◌<◌}
use Rattle.std.specs.Prelude as code
use Rattle.std.specs.Prelude.{◌≡◌, Bool, true, false, List, [], ◌∷◌, map, length}
use Rattle.std.specs.Bool.{then_some}
use Rattle.std.proofs.Math.Path.{refl}
use Rattle.std.proofs.lemmas.List.{length-map}
use Rattle.std.proofs.Common.{add-one}
use Rattle.std.proofs.Math.Option.{Option, some, none}
use native.Mathlib.Omega.{arith}
use Rattle.plan.specs.Row.{Row, level}
use Rattle.codegen.specs.Block.{closure_count, closures, numbered, purpose_of}
use Rattle.codegen.specs.Block as block
use Rattle.rows.specs.View.{nth, block_of}
use Rattle.layout.specs.View.{cut}
use Rattle.splitting.specs.Continue.{NotDeeper, Inside}
use Rattle.emits.specs.Marks.{set_of}
use Rattle.context.specs.Closing.{closure_told}
use Rattle.context.specs.declared.body_context.Nesting.{Nesting}
use Rattle.row_frames.specs.Rows.{rows_from, rows_next, rows_none}
use Rattle.view.specs.BlockRows.{level_is}
use Rattle.row_frames.specs.Told.{purpose_told}
use Rattle.row_frames.specs.Stack.{last_level, last_purpose}
use Rattle.row_frames.specs.declared.stack.Frame.{Frame}
use Rattle.body.specs.Told.{StandsIn}
use Rattle.blocks.specs.declared.walk.RowFrame.{RowFrame}

-- one more than the level of the next row, 0 past the last row
unfoldable pub next_level : List Row → ℕ
next_level [] = 0
next_level (r ∷ rs) = suc (level r)

unfoldable pub frame_told : Frame RowFrame → block.Frame
frame_told f = record { level = f.level - 1; row = f.own.row; purpose = purpose_told f.purpose; bound = set_of f.bound; closure = closure_told f.own.closure }

abbrev pub frames_told : List (Frame RowFrame) → List block.Frame
frames_told fs = map frame_told fs

-- ROWS

module _ (words rows : List ℕ) (r last : ℕ) where
  pub level_next : {n : ℕ} → r < last → n ≡ nth (cut words rows r) 0 → n + 1 ≡ next_level (rows_from words rows last r)
  unfolding next_level
  level_next h q = rw (rows_next words rows r last h, level_is (cut words rows r), add-one, q)

  pub level_none : last ≤ r → 0 ≡ next_level (rows_from words rows last r)
  unfolding next_level
  level_none h = rw (rows_none words rows r last h)

  pub row_level : r < last → next_level (rows_from words rows last r) ≡ suc (level (block_of (cut words rows r)))
  unfolding next_level
  row_level h = rw (rows_next words rows r last h)

not_deeper : (l : ℕ) (rs : List Row) → 0 < l → next_level rs ≤ l → NotDeeper (l - 1) rs
unfolding next_level
not_deeper l [] g h = tt
not_deeper l (r ∷ rs) g h = omega arith

-- FRAMES

closures_few : (fs : List block.Frame) → closures fs ≤ length fs
unfolding closures
closures_few [] = omega arith
closures_few (f ∷ fs) = omega (arith, closures_few fs, count_one f.closure)
  where
    count_one : (k : Option ℕ) → closure_count k ≤ 1
    count_one none = omega arith
    count_one (some n) = omega arith

-- how deep the lines inside the frames are
pub depth_some : {n : Nesting} (fs : List (Frame RowFrame)) → StandsIn n (frames_told fs) → length fs < n.depth
depth_some fs s = omega (arith, s.depth, length-map fs frame_told)

pub depth_few : {n : Nesting} (fs : List (Frame RowFrame)) → StandsIn n (frames_told fs) → n.depth ≤ 2 * length fs + 1
depth_few fs s = omega (arith, s.depth, length-map fs frame_told, closures_few (frames_told fs))

pub purpose_last : (fs : List (Frame RowFrame)) → purpose_of (frames_told fs) ≡ last_purpose fs
unfolding frame_told
purpose_last [] = refl
purpose_last (f ∷ fs) = refl

pub inside_last : (fs : List (Frame RowFrame)) (l : ℕ) → length fs ≤ last_level fs → last_level fs < suc l → Inside l (frames_told fs)
unfolding frame_told
inside_last [] l g h = tt
inside_last (f ∷ fs) l g h = omega arith

pub not_deeper_last : (f : Frame RowFrame) (rs : List Row) → 0 < f.level → next_level rs ≤ f.level → NotDeeper (frame_told f).level rs
unfolding frame_told
not_deeper_last f rs g h = not_deeper f.level rs g h

-- the closure of a frame: the next number, if it has one
pub numbered_told : (splits : Bool) (n : ℕ) {k : code.Option ℕ} → k ≡ then_some splits n → closure_told k ≡ numbered splits n
numbered_told true n h = rw h refl
numbered_told false n h = rw h refl
