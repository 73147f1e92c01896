-- The block with splitting on and off: the same parts, but for the closures' and what goes by them.
use Rattle.std.specs.Prelude.{ℕ, suc, ◌+◌, ◌≡◌, refl, Bool, true, false, cond, ◌&&◌, List, [], ◌∷◌, ◌++◌, length, leb}
use Rattle.std.proofs.Common.{sym, ap, append_assoc, zero-add, add-zero, add_assoc}
use Rattle.std.proofs.Math.Option.{Option, some, none}
use Rattle.plan.specs.Row.{Row, level}
use Rattle.codegen.specs.Block.{Body, Line, What, line, edge, Part, Purpose, one_arm, arms_of, arm_body, body, Frame, State, Own, closures, purpose_of, place, end_closure, catchall, end_block, closing, left, restored, is_arm_body, pushed, open_closure, row_parts, after, here, splits_here, next, written, walk, odd_what, odds_of}

-- no weight splits
abbrev pub never : ℕ → Bool
never w = false

unfoldable pub unsplit_frame : Frame → Frame
unsplit_frame f = record { level = f.level; row = f.row; purpose = f.purpose; bound = f.bound; closure = none }

unfoldable pub unsplit_frames : List Frame → List Frame
unsplit_frames [] = []
unsplit_frames (f ∷ fs) = unsplit_frame f ∷ unsplit_frames fs

unfoldable pub unsplit_state : State → State
unsplit_state s = record { refs = s.refs; bound = s.bound; match_split = 0; frames = unsplit_frames s.frames }

unfoldable pub unsplit_part : Part → What → List Part
unsplit_part p (line l) = record { row = p.row; base = p.base; around = 0; what = line l } ∷ []
unsplit_part p (edge e) = []

-- the closures' lines left out, and nothing around the others
unfoldable pub unsplit : List Part → List Part
unsplit [] = []
unsplit (p ∷ ps) = unsplit_part p p.what ++ unsplit ps

pub unsplit_append : (ps qs : List Part) → unsplit (ps ++ qs) ≡ unsplit ps ++ unsplit qs
unfolding unsplit
unsplit_append [] qs = refl
unsplit_append (p ∷ ps) qs = rw (unsplit_append ps qs, append_assoc)

unsplit_length : (fs : List Frame) → length (unsplit_frames fs) ≡ length fs
unfolding unsplit_frames
unsplit_length [] = refl
unsplit_length (f ∷ fs) = ap suc (unsplit_length fs)

unsplit_closures : (fs : List Frame) → closures (unsplit_frames fs) ≡ 0
unfolding unsplit_frames unsplit_frame closures
unsplit_closures [] = refl
unsplit_closures (f ∷ fs) = rw (unsplit_closures fs)

ap_cond : {A B : Type 0} (f : A → B) (b : Bool) (x y : A) → cond b (f x) (f y) ≡ f (cond b x y)
ap_cond f true x y = refl
ap_cond f false x y = refl

unsplit_left : (l : ℕ) (fs : List Frame) → left l (unsplit_frames fs) ≡ unsplit_frames (left l fs)
unfolding unsplit_frames unsplit_frame left
unsplit_left l [] = refl
unsplit_left l (f ∷ fs) = rw (unsplit_left l fs) (ap_cond unsplit_frames (leb l f.level) (left l fs) (f ∷ fs))

unsplit_restored : (l : ℕ) (b : List Bool) (fs : List Frame) → restored l b (unsplit_frames fs) ≡ restored l b fs
unfolding unsplit_frames unsplit_frame restored
unsplit_restored l b [] = refl
unsplit_restored l b (f ∷ fs) = rw (unsplit_restored l f.bound fs)

unsplit_purpose_of : (fs : List Frame) → purpose_of (unsplit_frames fs) ≡ purpose_of fs
unfolding unsplit_frames unsplit_frame
unsplit_purpose_of [] = refl
unsplit_purpose_of (f ∷ fs) = refl

unsplit_place : (i : Option ℕ) (fs : List Frame) (ls : List Line) → place i (unsplit_frames fs) ls ≡ unsplit (place i fs ls)
unfolding place unsplit unsplit_part
unsplit_place i fs [] = refl
unsplit_place i fs (l ∷ ls) = rw (unsplit_length, unsplit_closures, unsplit_place i fs ls)

unsplit_end_closure : (i : ℕ) (fs : List Frame) (k : Option ℕ) → unsplit (end_closure i fs k) ≡ []
unfolding end_closure unsplit unsplit_part
unsplit_end_closure i fs none = refl
unsplit_end_closure i fs (some n) = refl

unsplit_open_closure : (i : ℕ) (fs : List Frame) (b : Bool) → unsplit (open_closure i fs b) ≡ []
unfolding open_closure unsplit unsplit_part
unsplit_open_closure i fs true = refl
unsplit_open_closure i fs false = refl

unsplit_catchall : (f : Frame) (fs : List Frame) (p : Purpose) → catchall (unsplit_frame f) (unsplit_frames fs) p ≡ unsplit (catchall f fs p)
unfolding catchall unsplit_frame unsplit unsplit_part
unsplit_catchall f fs one_arm = refl
unsplit_catchall f fs (arms_of q) = rw (unsplit_length, unsplit_closures)
unsplit_catchall f fs arm_body = refl
unsplit_catchall f fs body = refl

unsplit_end_block : (f : Frame) (fs : List Frame) → end_block (unsplit_frame f) (unsplit_frames fs) ≡ unsplit (end_block f fs)
unfolding end_block end_closure unsplit_frame
unsplit_end_block f fs = rw (unsplit_append, unsplit_append, unsplit_end_closure, ← unsplit_catchall, ← unsplit_place)

unsplit_closing : (l : ℕ) (fs : List Frame) → closing l (unsplit_frames fs) ≡ unsplit (closing l fs)
unfolding closing unsplit_frames unsplit_frame unsplit
unsplit_closing l [] = refl
unsplit_closing l (f ∷ fs) = rw (unsplit_end_block f fs, unsplit_closing l fs, ← unsplit_append (end_block f fs) (closing l fs)) (ap_cond unsplit (leb l f.level) (end_block f fs ++ closing l fs) [])

unsplit_here : (c : Body) (s : State) (r : Row) (rs : List Row) → here c (unsplit_state s) r rs ≡ here c s r rs
unfolding here unsplit_state
unsplit_here c s r rs = rw (unsplit_restored, unsplit_left, unsplit_purpose_of)

unsplit_pushed : (p : Option Purpose) (l i : ℕ) (b : List Bool) (k : Option ℕ) (fs : List Frame) → pushed p l i b none (unsplit_frames fs) ≡ unsplit_frames (pushed p l i b k fs)
unfolding pushed unsplit_frames unsplit_frame
unsplit_pushed none l i b k fs = refl
unsplit_pushed (some p) l i b k fs = refl

-- no arm splits where no weight does
never_splits : (o : Own) (r : Row) (rs : List Row) → splits_here never o r rs ≡ false
unfolding splits_here
never_splits o r rs = go (is_arm_body o.frame)
  where
    go : (b : Bool) → b && false ≡ false
    go true = refl
    go false = refl

unsplit_next : (c : Body) (sp : ℕ → Bool) (s : State) (i : ℕ) (r : Row) (rs : List Row) → next c never (unsplit_state s) i r rs ≡ unsplit_state (next c sp s i r rs)
unfolding next after unsplit_state
unsplit_next c sp s i r rs =
    rw (unsplit_here, never_splits, unsplit_left)
    (ap (λ (fs : List Frame). record { refs = (here c s r rs).refs; bound = (here c s r rs).bound; match_split = 0; frames = fs }) (unsplit_pushed (here c s r rs).frame (level r) i _ _ _))

unsplit_written : (c : Body) (sp : ℕ → Bool) (s : State) (i : ℕ) (r : Row) (rs : List Row) → written c never (unsplit_state s) i r rs ≡ unsplit (written c sp s i r rs)
unfolding written row_parts unsplit_state open_closure
unsplit_written c sp s i r rs = rw (unsplit_here, never_splits, unsplit_left, unsplit_closing, unsplit_place, unsplit_append, unsplit_append, unsplit_open_closure)

pub unsplit_walk : (c : Body) (sp : ℕ → Bool) (s : State) (i : ℕ) (rs : List Row) → walk c never (unsplit_state s) i rs ≡ unsplit (walk c sp s i rs)
unfolding walk unsplit_state
unsplit_walk c sp s i [] = unsplit_closing 0 s.frames
unsplit_walk c sp s i (r ∷ rs) = rw (unsplit_append, ← unsplit_written, ← unsplit_walk c sp (next c sp s i r rs) (suc i) rs, ← unsplit_next c sp s i r rs)

pub odds_append : (ps qs : List Part) → odds_of (ps ++ qs) ≡ odds_of ps + odds_of qs
unfolding odds_of
odds_append [] qs = sym (zero-add _)
odds_append (p ∷ ps) qs = rw (odds_append ps qs) (sym (add_assoc _ _ _))

unsplit_part_odds : (p : Part) (w : What) → odds_of (unsplit_part p w) ≡ odd_what w
unfolding odds_of unsplit_part
unsplit_part_odds p (line l) = add-zero _
unsplit_part_odds p (edge e) = refl

pub unsplit_odds : (ps : List Part) → odds_of (unsplit ps) ≡ odds_of ps
unfolding odds_of unsplit
unsplit_odds [] = refl
unsplit_odds (p ∷ ps) = rw (odds_append, unsplit_odds ps, unsplit_part_odds)
