-- The loop's invariant: from the middle, what is left to write for the open frames and the rows to come ends where the whole does.
-- Assumes nothing.
use Prim.Native.Nat.{ℕ, suc, ◌+◌, ◌-◌, ◌*◌, ◌≤◌, ◌<◌}
use Rattle.std.specs.Prelude.{◌≡◌, refl, Bool, true, false, cond, min, length, drop}
use Rattle.std.proofs.Common.{sym, ap, subst, ◌∙◌}
use Rattle.std.proofs.lemmas.List.{length-map}
use Rattle.std.proofs.Math.Option.{Option, some, none}
use mathlib.Core.List.{List, [], ◌∷◌}
use native.Mathlib.Omega.{arith}
use Rattle.text.specs.Writes.{SameSink, Writes}
use Rattle.text.specs.declared.sink.Sink.{Sink}
use Rattle.plan.specs.Row.{Row, level}
use Rattle.codegen.specs.Block.{Purpose, closures, numbered, pushed}
use Rattle.codegen.specs.Block as block
use Rattle.rows.specs.View.{nth, block_of}
use Rattle.emits.specs.Marks.{set_of}
use Rattle.emits.specs.Rows.{emitting_start}
use Rattle.context.specs.Closing.{closure_told, block_text}
use Rattle.context.specs.Laws.{parts_puts, is_several, block_is, block_odds}
use Rattle.context.specs.Steps.{altered}
use Rattle.context.specs.declared.body_context.Nesting.{Nesting}
use Rattle.context.specs.declared.body_context.BodyContext.{BodyContext}
use Rattle.row_frames.specs.Rows.{rows_next, Shallow}
use Rattle.row_frames.specs.Stack.{last_level, last_purpose, Last}
use Rattle.row_frames.specs.Told.{purpose_told}
use Rattle.row_frames.specs.declared.Purpose.{Purpose as CodePurpose}
use Rattle.row_frames.specs.declared.stack.Frame.{Frame}
use Rattle.body.specs.declared.Body.{Body}
use Rattle.body.specs.Told.{env_in, row_in, rows_in, body_told, Fits, StandsIn}
use Rattle.body.specs.Walks.{WritesWalk}
use Rattle.blocks.specs.Own.{return_opens}
use Rattle.blocks.specs.Middle.{standing, Middle, middle_close, middle_done, middle_past, middle_own}
use Rattle.blocks.specs.Nesting.{Begun, Ended, stands_begun, stands_ended}
use Rattle.blocks.specs.Frames.{Closed}
use Rattle.blocks.specs.Row.{Splitting, RowKept}
use Rattle.blocks.specs.Stack.{next_level, frame_told, frames_told, purpose_last, inside_last, not_deeper_last, depth_some, depth_few, row_level}
use Rattle.blocks.specs.declared.walk.RowFrame.{RowFrame}

-- The rows from row `first` up to row `last` are written, where the open frames and the root have that many places. That the lent buffer
-- and the room are the same holds whatever the rows are.
pub record BlockWritten (b : Body) (first last places : ℕ) (refs bound : List Bool) (w w' : Sink) : Type 0 where
  pub same : SameSink w w'
  pub is : (sp : ℕ → Bool) → Fits b → Splitting sp b.threshold → Shallow b.bindings.plan.now.words.now b.bindings.plan.now.rows.now first last places → WritesWalk (env_in b) (body_told b) sp (standing (set_of bound) 0 []) 0 (rows_in b last first) w (set_of refs) w'

-- What is left to write at the sink w, of the rows from row r on and the frames `fs`, m closures having numbers, ends where the whole does; the
-- lent buffer and the room are those of the start.
pub record Rest (b : Body) (sp : ℕ → Bool) (first last : ℕ) (w₀ : Sink) (refs₀ bound₀ : List Bool) (fs : List block.Frame) (m r : ℕ) (w : Sink) (refs bound : List Bool) : Type 0 where
  pub buffer : w.out.ghost_name ≡ w₀.out.ghost_name
  pub end : w.end ≡ w₀.end
  pub middle : Middle w₀.end (env_in b) (body_told b) sp (standing (set_of bound₀) 0 []) (rows_in b last first) w₀.out.now w₀.at w₀.odd (set_of refs₀) (set_of bound) m fs (r - first) (rows_in b last r) w.out.now w.at w.odd (set_of refs)

-- the open frames are fs, d of them
pub record Walking (b : Body) (first last : ℕ) (w₀ : Sink) (refs₀ bound₀ : List Bool) (fs : List (Frame RowFrame)) (d r : ℕ) (w : Sink) (s : BodyContext) : Type 0 where
  pub same : SameSink w₀ w
  pub count : length fs ≡ d
  pub room : d < 65
  pub stands : StandsIn s.nesting (frames_told fs)
  pub deep : d < s.nesting.depth
  pub few : s.nesting.depth ≤ 2 * d + 1
  pub begun : s.nesting.match_split + first ≤ r
  pub rest : (sp : ℕ → Bool) → Fits b → Splitting sp b.threshold → Rest b sp first last w₀ refs₀ bound₀ (frames_told fs) s.nesting.match_split r w s.is_ref s.is_bound

none_some : (q : Purpose) → none ≡ some q → ⊥
none_some q h = let z : ◌≡◌ {A = ℕ} 0 1 = cc in omega arith

last_first : (fs : List (Frame RowFrame)) {f : Frame RowFrame} → 0 < length fs → Last fs f → fs ≡ f ∷ drop 1 fs
last_first [] h t = absurd (omega arith)
last_first (g ∷ gs) h t = ap (λ (x : Frame RowFrame). x ∷ gs) (sym (t.frame g gs refl))

module _ {b : Body} {first last : ℕ} {w₀ : Sink} {refs₀ bound₀ : List Bool} where
  pub walking_start : {fs : List (Frame RowFrame)} {d : ℕ} {s : BodyContext} → fs ≡ [] → d ≡ 0 → s.nesting ≡ record { depth = 1; match_split = 0; in_closure = false } → s.is_ref ≡ refs₀ → s.is_bound ≡ bound₀ → Walking b first last w₀ refs₀ bound₀ fs d first w₀ s
  unfolding closures
  walking_start {s = s} empty nothing h g e = rw (empty, nothing) (record {
    same = (refl, refl, refl);
    count = refl;
    room = omega arith;
    stands = rw h (record { depth = refl; closure = refl });
    deep = rw h (omega arith);
    few = rw h (omega arith);
    begun = rw h (omega arith);
    rest = λ sp f y. let z : first - first ≡ 0 = omega arith in rw (h, g, e) (record { buffer = refl; end = refl; middle = rw z (record { is = emitting_start }) });
  })

  module _ {fs : List (Frame RowFrame)} {d r : ℕ} {w : Sink} {s : BodyContext} (k : Walking b first last w₀ refs₀ bound₀ fs d r w s) where
    abbrev Written : ℕ → Type 0
    Written places = BlockWritten b first last places refs₀ bound₀ w₀ w

    -- past the room
    pub walking_past : {places : ℕ} → w.end ≤ w.at → Written places
    walking_past h = record { same = k.same; is = λ sp f y u. record { buffer = k.same.0; size = k.same.1; end = k.same.2; walk = middle_past (k.rest sp f y).middle (rw k.same.2 at h) } }

    -- no row is left, and no frame is open
    abbrev Left : (ℕ → Bool) → List block.Frame → List Row → Type 0
    Left sp gs rs = Middle w₀.end (env_in b) (body_told b) sp (standing (set_of bound₀) 0 []) (rows_in b last first) w₀.out.now w₀.at w₀.odd (set_of refs₀) (set_of s.is_bound) s.nesting.match_split gs (r - first) rs w.out.now w.at w.odd (set_of s.is_ref)

    left_rows : (sp : ℕ → Bool) (rs : List Row) → next_level rs ≤ 0 → Left sp [] rs → Left sp [] []
    unfolding next_level
    left_rows sp [] u m = m
    left_rows sp (x ∷ rs) u m = absurd (omega arith)

    left_frames : (gs : List (Frame RowFrame)) → length gs ≡ 0 → next_level (rows_in b last r) ≤ last_level gs → (sp : ℕ → Bool) → Left sp (frames_told gs) (rows_in b last r) → Left sp [] []
    left_frames [] n u sp m = left_rows sp (rows_in b last r) u m
    left_frames (x ∷ gs) n u sp m = absurd (omega arith)

    pub walking_done : {places : ℕ} {l : ℕ} {f : Frame RowFrame} → Last fs f → d ≡ 0 → l ≡ next_level (rows_in b last r) → l ≤ f.level → Written places
    walking_done t h q g = record { same = k.same; is = λ sp f y u. record { buffer = k.same.0; size = k.same.1; end = k.same.2; walk = middle_done (left_frames fs (omega (arith, k.count)) (omega (arith, q, g, t.level)) sp (k.rest sp f y).middle) } }

    module _ {l : ℕ} (q : l ≡ next_level (rows_in b last r)) where
      level_here : r < last → l ≡ suc (level (block_of (row_in b r)))
      level_here h = q ∙ row_level b.bindings.plan.now.words.now b.bindings.plan.now.rows.now r last h

      -- there is a place for each level
      pub walking_full : {places : ℕ} → length fs ≤ last_level fs → r < last → min places 65 ≤ d + 1 → last_level fs < l → Written places
      walking_full low there h g = record { same = k.same; is = λ sp f y u. absurd (omega (arith, k.count, low, level_here there, u.levels r (omega (arith, k.begun)) there, u.places r (omega (arith, k.begun)) there)) }

    -- the last frame closes
    module _ {l : ℕ} {f : Frame RowFrame} {gs : List (Frame RowFrame)} {d' : ℕ} (q : l ≡ next_level (rows_in b last r)) (opened : fs ≡ f ∷ gs) (few : length gs ≡ d') (h : 0 < f.level) (g : l ≤ f.level) where
      same_count : d - 1 ≡ d'
      same_count = omega (arith, k.count, few, ap (length {A = Frame RowFrame}) opened)

      walking_altered : {n : Nesting} {w' : Sink} → Ended s.nesting d' (closure_told f.own.closure) n
          → Writes (block_text n.depth n.in_closure (closure_told f.own.closure) (is_several (purpose_told f.purpose))) w w'
          → Walking b first last w₀ refs₀ bound₀ gs d' r w' (altered s f.bound n)
      unfolding frame_told
      walking_altered {n} {w'} e p =
          let stands : StandsIn n (frames_told gs) = stands_ended (rw opened at k.stands) (length-map gs frame_told ∙ few) e in
          record {
            same = (p.buffer ∙ k.same.0, p.size ∙ k.same.1, p.end ∙ k.same.2);
            count = few;
            room = omega (arith, k.room, same_count);
            stands = stands;
            deep = omega (arith, few, depth_some gs stands);
            few = omega (arith, few, depth_few gs stands);
            begun = rw e.split k.begun;
            rest = λ sp z y.
                record {
                  buffer = p.buffer ∙ k.same.0;
                  end = p.end ∙ k.same.2;
                  middle = rw (e.split, p.odd) (middle_close (rw opened at (k.rest sp z y).middle) (not_deeper_last f _ h (rw q at g))
                      (parts_puts (block_odds (frame_told f) (frames_told gs)) (rw (block_is (env_in b) (frames_told gs) (frame_told f), ← stands.depth, ← stands.closure) (rw k.same.2 at p.puts))));
                };
          }

      walking_closed : {w' : Sink} {s' : BodyContext} → Closed f (d - 1) w s w' s' → Walking b first last w₀ refs₀ bound₀ gs d' r w' s'
      walking_closed {w'} e = subst (λ (x : BodyContext). Walking b first last w₀ refs₀ bound₀ gs d' r w' x) (sym e.context) (walking_altered (rw same_count at e.nesting) e.text)

    pub walking_close : {l : ℕ} {f : Frame RowFrame} {gs : List (Frame RowFrame)} {d' : ℕ} {w' : Sink} {s' : BodyContext} → length fs ≤ last_level fs → 0 < d → Last fs f → l ≡ next_level (rows_in b last r) → l ≤ f.level → Closed f (d - 1) w s w' s'
        → gs ≡ drop 1 fs → length gs ≡ d' → Walking b first last w₀ refs₀ bound₀ gs d' r w' s'
    walking_close {f = f} {gs} low more t q g e left few =
        let there : 0 < length fs = omega (arith, k.count) in
        walking_closed q (last_first fs there t ∙ ap (λ (hs : List (Frame RowFrame)). f ∷ hs) (sym left)) few (omega (arith, low, t.level, k.count)) g e

    -- a row writes its own
    module _ {w' : Sink} {s' : BodyContext} {x : Option Purpose} {splits : Bool} {kept : List Bool} (there : r < last) (low : length fs ≤ last_level fs) (deeper : last_level fs < suc (level (block_of (row_in b r))))
        (y : RowKept b (last_purpose fs) r last w s x splits w' s' kept) where
      row_rest : (gs : List block.Frame) (n : Nesting) → gs ≡ pushed x (level (block_of (row_in b r))) (r - first) (set_of y.scope) (numbered splits s.nesting.match_split) (frames_told fs) → n.match_split ≡ cond splits (suc s.nesting.match_split) s.nesting.match_split
          → (sp : ℕ → Bool) → Fits b → Splitting sp b.threshold → Rest b sp first last w₀ refs₀ bound₀ gs n.match_split (r + 1) w' s'.is_ref s'.is_bound
      row_rest gs n e c sp z v =
          let next : r + 1 - first ≡ suc (r - first) = omega (arith, k.begun) in
          let p = y.row.parts z (r - first) (frames_told fs) k.stands in
          record {
            buffer = p.buffer ∙ k.same.0;
            end = p.end ∙ k.same.2;
            middle = rw (e, next, c) (middle_own splits (rw (rows_next b.bindings.plan.now.words.now b.bindings.plan.now.rows.now r last there) at (k.rest sp z v).middle) (inside_last fs (level (block_of (row_in b r))) low deeper)
                (rw (purpose_last fs) (record { frame = λ q. sym (y.row.frame (body_told b) q); bound = λ q. sym (y.row.bound (body_told b) q); restored = y.outside (body_told b) })) (y.row.weighs sp v)
                (rw (purpose_last fs) (rw k.same.2 at p.leads)));
          }

      count_more : (c : Bool) → s.nesting.match_split + first ≤ r → cond c (suc s.nesting.match_split) s.nesting.match_split + first ≤ r + 1
      count_more true h = omega arith
      count_more false h = omega arith

  module _ {fs : List (Frame RowFrame)} {d r : ℕ} {w : Sink} {s : BodyContext} (k : Walking b first last w₀ refs₀ bound₀ fs d r w s) (there : r < last) (low : length fs ≤ last_level fs) where
    -- it opens no frame
    pub walking_none : {w' : Sink} {s' : BodyContext} {kept : List Bool} → last_level fs < suc (level (block_of (row_in b r))) → RowKept b (last_purpose fs) r last w s none false w' s' kept → Walking b first last w₀ refs₀ bound₀ fs d (r + 1) w' s'
    unfolding pushed
    walking_none {s' = s'} deeper y = record {
      same = let x = y.row.same in (x.0 ∙ k.same.0, x.1 ∙ k.same.1, x.2 ∙ k.same.2);
      count = k.count;
      room = k.room;
      stands = rw y.row.nesting k.stands;
      deep = rw y.row.nesting k.deep;
      few = rw y.row.nesting k.few;
      begun = rw y.row.nesting (omega (arith, k.begun));
      rest = row_rest k there low deeper y (frames_told fs) s'.nesting refl (ap (λ (n : Nesting). n.match_split) y.row.nesting);
    }

    -- it opens one
    pub walking_some : {gs : List (Frame RowFrame)} {d' : ℕ} {w' : Sink} {s' : BodyContext} {p : CodePurpose} {splits : Bool} {kept : List Bool} {n : Nesting} (f : Frame RowFrame) → d < 64 → last_level fs < f.level → f.level ≡ suc (level (block_of (row_in b r)))
        → RowKept b (last_purpose fs) r last w s (some (purpose_told p)) splits w' s' kept → f.purpose ≡ p → f.bound ≡ kept → f.own.row ≡ r - first → closure_told f.own.closure ≡ numbered splits s'.nesting.match_split → Begun s'.nesting splits n
        → gs ≡ f ∷ fs → length gs ≡ d' → Walking b first last w₀ refs₀ bound₀ gs d' (r + 1) w' (altered s' s'.is_bound n)
    unfolding frame_told pushed
    walking_some {gs} {d'} {s' = s'} {p} {splits} {kept} {n} f room deeper level_is y fp fb fr fc v opened few =
        let begun : Begun s.nesting splits n = rw y.row.nesting at v in
        let closure : closure_told f.own.closure ≡ numbered splits s.nesting.match_split = fc ∙ ap (λ (m : Nesting). numbered splits m.match_split) y.row.nesting in
        let row : Row = block_of (row_in b r) in
        let opens : nth (row_in b r) 1 ≡ 3 → ⊥ = λ h. none_some (purpose_told p) (sym (return_opens (body_told b) (set_of s.is_ref) (set_of s.is_bound) (last_purpose fs) (row_in b r) (rows_in b last (r + 1)) h) ∙ sym (y.row.frame (body_told b) (set_of s.is_ref))) in
        let bound : set_of f.bound ≡ set_of y.scope = ap set_of (fb ∙ y.saved opens) in
        let here : f.level - 1 ≡ level row = omega arith in
        let stands : StandsIn n (frames_told gs) = rw opened (stands_begun (frame_told f) s.nesting.match_split splits k.stands begun closure) in
        record {
          same = let x = y.row.same in (x.0 ∙ k.same.0, x.1 ∙ k.same.1, x.2 ∙ k.same.2);
          count = few;
          room = omega (arith, few, k.count, ap (length {A = Frame RowFrame}) opened);
          stands = stands;
          deep = omega (arith, few, depth_some gs stands);
          few = omega (arith, few, depth_few gs stands);
          begun = rw begun.split (count_more k there low (rw level_is at deeper) y splits k.begun);
          rest = row_rest k there low (rw level_is at deeper) y (frames_told gs) n (rw (opened, here, fr, fp, bound, closure) refl) begun.split;
        }
