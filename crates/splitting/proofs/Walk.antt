-- The walk from a split arm on: the parts of the rows below it, the end of its frame, and parts of other rows.
use Prim.Native.Nat.{ℕ, suc, ◌+◌, ◌<◌, ◌≤◌}
use Rattle.std.specs.Prelude.{◌≡◌, Bool, leb}
use Rattle.std.proofs.Math.Path.{refl}
use Rattle.std.proofs.Common.{sym, ap, ◌∙◌, arith}
use Rattle.std.proofs.Math.Bool.{true, false, cond}
use Rattle.std.proofs.Math.Option.{Option, some, none}
use mathlib.Core.List.{List, [], ◌∷◌, ◌++◌, append_assoc, append-nil}
use Rattle.std.proofs.Math.ListN.{length}
use borrow.Author.Tests.{le-leb, lt-leb}
use Rattle.plan.specs.Row.{Row, level}
use Rattle.codegen.specs.Block.{Body, Line, Part, Purpose, one_arm, arms_of, arm_body, body, Frame, State, Own, place, end_closure, catchall, end_block, closing, left, numbered, pushed, open_closure, row_parts, after, here, splits_here, next, written, walk}
use Rattle.splitting.specs.Demand3.{rows_below}
use Rattle.splitting.specs.Cases.{by_bool, by_leb}

-- PARTS OF CERTAIN ROWS

abbrev pub RowIs : (ℕ → Type 0) → Option ℕ → Type 0
RowIs P none = ⊥
RowIs P (some k) = P k

-- each part is of a row k with P k
abbrev pub Each : (ℕ → Type 0) → List Part → Type 0
Each P [] = Unit
Each P (p ∷ ps) = RowIs P p.row × Each P ps

-- each frame is
abbrev pub EachFrame : (ℕ → Type 0) → List Frame → Type 0
EachFrame P [] = Unit
EachFrame P (f ∷ fs) = P f.row × EachFrame P fs

module _ (P : ℕ → Type 0) where
  pub each_append : (ps qs : List Part) → Each P ps → Each P qs → Each P (ps ++ qs)
  each_append [] qs h k = k
  each_append (p ∷ ps) qs h k = (h.0, each_append ps qs h.1 k)

  pub each_place : (i : ℕ) (fs : List Frame) (ls : List Line) → P i → Each P (place (some i) fs ls)
  unfolding place
  each_place i fs [] h = tt
  each_place i fs (l ∷ ls) h = (h, each_place i fs ls h)

  each_end_closure : (i : ℕ) (fs : List Frame) (k : Option ℕ) → P i → Each P (end_closure i fs k)
  unfolding end_closure
  each_end_closure i fs none h = tt
  each_end_closure i fs (some n) h = (h, (h, (h, tt)))

  each_catchall : (f : Frame) (fs : List Frame) (p : Purpose) → P f.row → Each P (catchall f fs p)
  unfolding catchall
  each_catchall f fs one_arm h = tt
  each_catchall f fs (arms_of q) h = (h, tt)
  each_catchall f fs arm_body h = tt
  each_catchall f fs body h = tt

  -- what stands after a closure at the end of its frame
  pub each_frame_end : (f : Frame) (fs : List Frame) (ls : List Line) → P f.row → Each P (catchall f fs f.purpose ++ place (some f.row) fs ls)
  each_frame_end f fs ls h = each_append (catchall f fs f.purpose) _ (each_catchall f fs f.purpose h) (each_place f.row fs ls h)

  each_end_block : (f : Frame) (fs : List Frame) → P f.row → Each P (end_block f fs)
  unfolding end_block
  each_end_block f fs h = each_append (end_closure f.row fs f.closure) _ (each_end_closure f.row fs f.closure h) (each_frame_end f fs _ h)

  each_open : (i : ℕ) (fs : List Frame) (b : Bool) → P i → Each P (open_closure i fs b)
  unfolding open_closure
  each_open i fs true h = (h, tt)
  each_open i fs false h = tt

  each_row : (i : ℕ) (fs : List Frame) (o : Own) (b : Bool) → P i → Each P (row_parts i fs o b)
  unfolding row_parts
  each_row i fs o b h = each_append (place (some i) fs o.lines) _ (each_place i fs o.lines h) (each_open i fs b h)

  pub each_closing : (l : ℕ) (fs : List Frame) → EachFrame P fs → Each P (closing l fs)
  unfolding closing
  each_closing l [] h = tt
  each_closing l (f ∷ fs) h = by_bool (λ b. Each P (cond b (end_block f fs ++ closing l fs) [])) (leb l f.level) (each_append (end_block f fs) _ (each_end_block f fs h.0) (each_closing l fs h.1)) tt

  frames_left : (l : ℕ) (fs : List Frame) → EachFrame P fs → EachFrame P (left l fs)
  unfolding left
  frames_left l [] h = tt
  frames_left l (f ∷ fs) h = by_bool (λ b. EachFrame P (cond b (left l fs) (f ∷ fs))) (leb l f.level) (frames_left l fs h.1) h

  frames_pushed : (x : Option Purpose) (l i : ℕ) (u : List Bool) (k : Option ℕ) (fs : List Frame) → P i → EachFrame P fs → EachFrame P (pushed x l i u k fs)
  unfolding pushed
  frames_pushed none l i u k fs p h = h
  frames_pushed (some x) l i u k fs p h = (p, h)

  pub each_written : (c : Body) (sp : ℕ → Bool) (s : State) (i : ℕ) (r : Row) (rs : List Row) → EachFrame P s.frames → P i → Each P (written c sp s i r rs)
  unfolding written
  each_written c sp s i r rs h p = each_append (closing (level r) s.frames) _ (each_closing (level r) s.frames h) (each_row i _ _ _ p)

  pub frames_next : (c : Body) (sp : ℕ → Bool) (s : State) (i : ℕ) (r : Row) (rs : List Row) → P i → EachFrame P (left (level r) s.frames) → EachFrame P (next c sp s i r rs).frames
  unfolding next after
  frames_next c sp s i r rs p h = frames_pushed (here c s r rs).frame (level r) i _ _ _ p h

  -- rows from i on, inside frames of such rows
  each_walk : (c : Body) (sp : ℕ → Bool) (s : State) (i : ℕ) (rs : List Row) → EachFrame P s.frames → ((k : ℕ) → i ≤ k → P k) → Each P (walk c sp s i rs)
  unfolding walk
  each_walk c sp s i [] h p = each_closing 0 s.frames h
  each_walk c sp s i (r ∷ rs) h p =
      each_append (written c sp s i r rs) _ (each_written c sp s i r rs h (p i (omega arith)))
      (each_walk c sp (next c sp s i r rs) (suc i) rs (frames_next c sp s i r rs (p i (omega arith)) (frames_left (level r) s.frames h)) (λ k g. p k (omega arith)))

-- FRAMES INSIDE A FRAME

-- the frames are deeper than level l
abbrev Deeper : ℕ → List Frame → Type 0
Deeper l [] = Unit
Deeper l (f ∷ fs) = (l < f.level) × Deeper l fs

deeper_left : (l m : ℕ) (fs : List Frame) → Deeper l fs → Deeper l (left m fs)
unfolding left
deeper_left l m [] h = tt
deeper_left l m (f ∷ fs) h = by_bool (λ b. Deeper l (cond b (left m fs) (f ∷ fs))) (leb m f.level) (deeper_left l m fs h.1) h

deeper_pushed : (x : Option Purpose) (l m i : ℕ) (u : List Bool) (k : Option ℕ) (fs : List Frame) → l < m → Deeper l fs → Deeper l (pushed x m i u k fs)
unfolding pushed
deeper_pushed none l m i u k fs p h = h
deeper_pushed (some x) l m i u k fs p h = (p, h)

pushed_over : (x : Option Purpose) (m i : ℕ) (u : List Bool) (k : Option ℕ) (fs gs : List Frame) → pushed x m i u k (fs ++ gs) ≡ pushed x m i u k fs ++ gs
unfolding pushed
pushed_over none m i u k fs gs = refl
pushed_over (some x) m i u k fs gs = refl

module _ (f : Frame) (fs : List Frame) where
  -- a deeper level leaves the frame f
  left_inside : (m : ℕ) (inner : List Frame) → f.level < m → left m (inner ++ (f ∷ fs)) ≡ left m inner ++ (f ∷ fs)
  unfolding left
  left_inside m [] h = rw (lt-leb m f.level h)
  left_inside m (g ∷ inner) h = by_bool (λ b. cond b (left m (inner ++ (f ∷ fs))) (g ∷ inner ++ (f ∷ fs)) ≡ cond b (left m inner) (g ∷ inner) ++ (f ∷ fs)) (leb m g.level) (left_inside m inner h) refl

  closing_inside : (P : ℕ → Type 0) (m : ℕ) (inner : List Frame) → f.level < m → EachFrame P inner → Each P (closing m (inner ++ (f ∷ fs)))
  unfolding closing
  closing_inside P m [] h p = rw (lt-leb m f.level h) tt
  closing_inside P m (g ∷ inner) h p =
      by_bool (λ b. Each P (cond b (end_block g (inner ++ (f ∷ fs)) ++ closing m (inner ++ (f ∷ fs))) [])) (leb m g.level)
      (each_append P (end_block g (inner ++ (f ∷ fs))) _ (each_end_block P g (inner ++ (f ∷ fs)) p.0) (closing_inside P m inner h p.1)) tt

  -- another closes what is inside f, then f, then frames around it
  left_through : (m : ℕ) (inner : List Frame) → m ≤ f.level → Deeper f.level inner → left m (inner ++ (f ∷ fs)) ≡ left m fs
  unfolding left
  left_through m [] h d = rw (le-leb m f.level h)
  left_through m (g ∷ inner) h d = rw (le-leb m g.level (omega (arith, d.0))) (left_through m inner h d.1)

  closing_through : (m : ℕ) (inner : List Frame) → m ≤ f.level → Deeper f.level inner → closing m (inner ++ (f ∷ fs)) ≡ closing (suc f.level) (inner ++ (f ∷ fs)) ++ (end_block f fs ++ closing m fs)
  unfolding closing
  closing_through m [] h d = rw (le-leb m f.level h, lt-leb (suc f.level) f.level (omega arith))
  closing_through m (g ∷ inner) h d = rw (le-leb m g.level (omega (arith, d.0)), le-leb (suc f.level) g.level (omega (arith, d.0)), closing_through m inner h d.1) (sym (append_assoc (end_block g (inner ++ (f ∷ fs))) _ _))

-- THE WALK INSIDE A FRAME

-- the m rows after row j, and the other rows
abbrev pub Below : ℕ → ℕ → ℕ → Type 0
Below j m k = (j < k) × (k < suc j + m)

abbrev pub Other : ℕ → ℕ → ℕ → Type 0
Other j m k = j < k → suc j + m ≤ k

pub record Cut (j m : ℕ) (f : Frame) (fs : List Frame) (ps : List Part) : Type 0 where
  pub inside : List Part
  pub rest : List Part
  pub is : ps ≡ inside ++ (end_block f fs ++ rest)
  pub below : Each (Below j m) inside
  pub other : Each (Other j m) rest

module _ (c : Body) (sp : ℕ → Bool) (j m : ℕ) (f : Frame) (fs : List Frame) (o : EachFrame (Other j m) fs) where
  -- closing through f, with the parts ps after it
  cut_closing : (l : ℕ) (gs inner : List Frame) (ps : List Part) → gs ≡ inner ++ (f ∷ fs) → l ≤ f.level → Deeper f.level inner → EachFrame (Below j m) inner → Each (Other j m) ps → Cut j m f fs (closing l gs ++ ps)
  cut_closing l gs inner ps e h d b p = record {
    inside = closing (suc f.level) (inner ++ (f ∷ fs));
    rest = closing l fs ++ ps;
    is = rw (e, closing_through f fs l inner h d, append_assoc, append_assoc);
    below = closing_inside f fs (Below j m) (suc f.level) inner (omega arith) b;
    other = each_append (Other j m) (closing l fs) ps (each_closing (Other j m) l fs o) p;
  }

  cut_more : (ps qs : List Part) → Each (Below j m) ps → Cut j m f fs qs → Cut j m f fs (ps ++ qs)
  cut_more ps qs h q = record {
    inside = ps ++ q.inside;
    rest = q.rest;
    is = rw (q.is, append_assoc);
    below = each_append (Below j m) ps q.inside h q.below;
    other = q.other;
  }

  -- row r of level l closes f: what it writes after that, and all that follows, is of other rows
  cut_through : (s : State) (i : ℕ) (r : Row) (rs : List Row) (inner : List Frame) → s.frames ≡ inner ++ (f ∷ fs) → level r ≤ f.level → Deeper f.level inner → EachFrame (Below j m) inner → suc j + m ≤ i → Cut j m f fs (walk c sp s i (r ∷ rs))
  unfolding walk written
  cut_through s i r rs inner e h d b g =
      let q : EachFrame (Other j m) (left (level r) s.frames) = rw (e, left_through f fs (level r) inner h d) (frames_left (Other j m) (level r) fs o) in
      rw append_assoc
      (cut_closing (level r) s.frames inner _ e h d b
      (each_append (Other j m) (row_parts i (left (level r) s.frames) (here c s r rs) (splits_here sp (here c s r rs) r rs)) _ (each_row (Other j m) i _ _ _ (λ x. g))
      (each_walk (Other j m) c sp (next c sp s i r rs) (suc i) rs (frames_next (Other j m) c sp s i r rs (λ x. g) q) (λ k u v. omega arith))))

  -- row r is below: so are its parts, and a frame that it opens is inside f
  cut_inside : (s : State) (i : ℕ) (r : Row) (rs : List Row) (inner : List Frame) → s.frames ≡ inner ++ (f ∷ fs) → f.level < level r → Deeper f.level inner → EachFrame (Below j m) inner → Below j m i
      → ((gs : List Frame) → (next c sp s i r rs).frames ≡ gs ++ (f ∷ fs) → Deeper f.level gs → EachFrame (Below j m) gs → Cut j m f fs (walk c sp (next c sp s i r rs) (suc i) rs))
      → Cut j m f fs (walk c sp s i (r ∷ rs))
  unfolding walk written next after
  cut_inside s i r rs inner e h d b g more =
      let x : Own = here c s r rs in
      let k : Option ℕ = numbered (splits_here sp x r rs) s.match_split in
      cut_more (written c sp s i r rs) _
      (each_append (Below j m) (closing (level r) s.frames) _ (rw e (closing_inside f fs (Below j m) (level r) inner h b)) (each_row (Below j m) i _ _ _ g))
      (more (pushed x.frame (level r) i x.outside k (left (level r) inner))
      (ap (pushed x.frame (level r) i x.outside k) (ap (left (level r)) e ∙ left_inside f fs (level r) inner h) ∙ pushed_over x.frame (level r) i x.outside k (left (level r) inner) (f ∷ fs))
      (deeper_pushed x.frame f.level (level r) i _ k _ h (deeper_left f.level (level r) inner d))
      (frames_pushed (Below j m) x.frame (level r) i _ k _ g (frames_left (Below j m) (level r) inner b)))

  -- the walk from inside f on: i is the row, and the rows up to the next of f's level or a lower one end the m rows after row j
  pub cut_walk : (s : State) (i : ℕ) (rs : List Row) (inner : List Frame) → s.frames ≡ inner ++ (f ∷ fs) → Deeper f.level inner → EachFrame (Below j m) inner → j < i → i + length (rows_below f.level rs) ≡ suc j + m → Cut j m f fs (walk c sp s i rs)
  unfolding walk rows_below
  cut_walk s i [] inner e d b g n = rw append-nil at (cut_closing 0 s.frames inner [] e (omega arith) d b tt)
  cut_walk s i (r ∷ rs) inner e d b g n =
      by_leb (λ t. i + length (cond t [] (r ∷ rows_below f.level rs)) ≡ suc j + m → Cut j m f fs (walk c sp s i (r ∷ rs))) (level r) f.level
      (λ h k. cut_through s i r rs inner e h d b (omega arith))
      (λ h k. cut_inside s i r rs inner e h d b (g, omega arith) (λ gs x y z. cut_walk (next c sp s i r rs) (suc i) rs gs x y z (omega arith) (omega arith)))
      n
