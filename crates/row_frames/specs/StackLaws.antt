-- The places of the open frames: what stands where one opens or closes, and that the places keep to `Stacked`. Assumes nothing.
use Rattle.std.specs.Prelude.{ℕ, zero, suc, ◌+◌, ◌-◌, ◌≤◌, ◌<◌, ◌≡◌, refl, Bool, true, false, List, [], ◌∷◌, length, take, drop, reverse, get_or, set, ltb}
use Rattle.std.proofs.Common.{sym, ap, ◌∙◌, arith, length-set, get_or-set_same, get_or-set_other, ltb-true, ltb-false}
use Rattle.std.proofs.lemmas.List.{get_or_default, length-drop, length-take-le, length-reverse, reverse-append}
use Rattle.std.proofs.lemmas.Grind.{get_or_after_one}
use Rattle.std.proofs.Math.Seq.{take-suc}
use Rattle.row_frames.specs.Stack.{open_frames, last_level, Stacked, Last, Pushed}
use Rattle.row_frames.specs.declared.Purpose.{Purpose as CodePurpose}
use Rattle.row_frames.specs.declared.stack.Frame.{Frame}

module _ {T : Type 0} where
  -- the frame at the next place, and those before it
  pub open_next : (frames : List (Frame T)) (d : ℕ) (x : Frame T) → d + 1 < length frames → open_frames frames (d + 1) ≡ get_or frames (d + 1) x ∷ open_frames frames d
  unfolding open_frames
  open_next frames d x h =
      let next : d + 1 ≡ suc d = omega arith in
      let there : d < length (drop 1 frames) = omega (arith, length-drop 1 frames) in
      let place : 1 + d ≡ d + 1 = omega arith in
      ap (λ (n : ℕ). reverse (take n (drop 1 frames))) next
      ∙ ap reverse (take-suc (drop 1 frames) d x there)
      ∙ reverse-append (take d (drop 1 frames)) (get_or (drop 1 frames) d x ∷ [])
      ∙ ap (λ (y : Frame T). y ∷ reverse (take d (drop 1 frames))) (get_or_after_one frames d x ∙ ap (λ (n : ℕ). get_or frames n x) place)

  -- none is open in the root
  pub none_open : (frames : List (Frame T)) → open_frames frames 0 ≡ []
  unfolding open_frames
  none_open frames = refl

  -- as many are open as the place of the last
  pub length_open : (frames : List (Frame T)) (d : ℕ) → d < length frames → length (open_frames frames d) ≡ d
  unfolding open_frames
  length_open frames d h = length-reverse (take d (drop 1 frames)) ∙ length-take-le d (drop 1 frames) (omega (arith, length-drop 1 frames))

  -- a place that is above the last frame is written
  pub open_set : (frames : List (Frame T)) (k : ℕ) (f : Frame T) (d : ℕ) → d < k → d < length frames → open_frames (set frames k f) d ≡ open_frames frames d
  unfolding open_frames
  open_set frames k f zero h r = refl
  open_set frames k f (suc d) h r =
      let size : length (set frames k f) ≡ length frames = length-set frames k f in
      let next : suc d ≡ d + 1 = omega arith in
      rw (next, open_next (set frames k f) d f (omega arith), open_next frames d f (omega arith), get_or-set_other frames k (d + 1) f f (λ e. absurd (omega arith)), open_set frames k f d (omega arith) (omega arith)) refl

  -- a frame can open at the next place, where the bindings of f have been written
  pub can_push : (frames : List (Frame T)) (d : ℕ) {l : ℕ} (f : Frame T) → d + 1 < length frames → last_level (open_frames frames d) < l → (d + 1 < length (set frames (d + 1) f)) × (last_level (open_frames (set frames (d + 1) f) d) < l)
  can_push frames d f room h = (rw (length-set frames (d + 1) f) room, rw (open_set frames (d + 1) f d (omega arith) (omega arith)) h)

  -- and has these bindings then
  pub pushed_over : (frames : List (Frame T)) {frames' : List (Frame T)} {d d' level : ℕ} {purpose : CodePurpose} {own : T} (g : Frame T) → d + 1 < length frames → Pushed level purpose own (set frames (d + 1) g) d frames' d'
      → open_frames frames' d' ≡ record { level = level; purpose = purpose; bound = g.bound; own = own } ∷ open_frames frames d
  pushed_over frames {d = d} {level = level} {purpose} {own} g h p =
      let there : get_or (set frames (d + 1) g) (d + 1) g ≡ g = get_or-set_same frames (d + 1) g g h in
      let below : open_frames (set frames (d + 1) g) d ≡ open_frames frames d = open_set frames (d + 1) g d (omega arith) (omega arith) in
      p.opened g ∙ rw (there, below) refl

  -- where a frame closes, fewer are open
  pub one_less : (fs : List (Frame T)) → 0 < last_level fs → length (drop 1 fs) < length fs
  one_less [] h = absurd (omega arith)
  one_less (f ∷ fs) h = omega arith

  -- the root, where there is a place for it
  root_of : (frames : List (Frame T)) {d : ℕ} → d < length frames → Frame T
  root_of [] h = absurd (omega arith)
  root_of (f ∷ fs) h = f

  head_same : {f g : Frame T} {fs gs : List (Frame T)} → f ∷ fs ≡ g ∷ gs → f ≡ g
  head_same {f} {g} e = ap (λ (l : List (Frame T)). get_or l 0 f) e

  module _ {frames : List (Frame T)} {d : ℕ} (s : Stacked frames d) where
    -- what stands at the last place
    pub last_there : (x : Frame T) → Last (open_frames frames d) (get_or frames d x)
    unfolding open_frames
    last_there x = by_count d s.room where
      none_some : (g : Frame T) (gs : List (Frame T)) → [] ≡ g ∷ gs → ⊥
      none_some g gs e = let z : 0 ≡ suc (length gs) = ap length e in omega arith

      by_count : (n : ℕ) → n < length frames → Last (open_frames frames n) (get_or frames n x)
      by_count zero h = record { level = (s.root x).level; purpose = (s.root x).purpose; frame = λ g gs e. absurd (none_some g gs e) }
      by_count (suc n) h =
          let next : suc n ≡ n + 1 = omega arith in
          rw (next, open_next frames n x (omega arith)) (record { level = refl; purpose = refl; frame = λ g gs e. head_same e })

    -- the last frame is no less deep than there are frames
    pub last_low : length (open_frames frames d) ≤ last_level (open_frames frames d)
    last_low = let x : Frame T = root_of frames s.room in omega (arith, length_open frames d s.room, (last_there x).level, s.low d x (omega arith))

    -- a frame with a level is not the root
    pub not_root : 0 < last_level (open_frames frames d) → 0 < d
    unfolding open_frames
    not_root h = by_count d h where
      by_count : (n : ℕ) → 0 < last_level (open_frames frames n) → 0 < n
      by_count zero g = absurd (omega arith)
      by_count (suc n) g = omega arith

    -- the last one closes
    pub popped : 0 < d → open_frames frames (d - 1) ≡ drop 1 (open_frames frames d)
    popped h =
        let next : d ≡ d - 1 + 1 = omega arith in
        let x : Frame T = root_of frames s.room in
        let before : open_frames frames d ≡ get_or frames (d - 1 + 1) x ∷ open_frames frames (d - 1) = ap (open_frames frames) next ∙ open_next frames (d - 1) x (omega (arith, s.room)) in
        sym (ap (drop 1) before)

    -- a deeper frame is written at the next place
    pub stacked_push : (f : Frame T) → d + 1 < length frames → last_level (open_frames frames d) < f.level → Stacked (set frames (d + 1) f) (d + 1)
    stacked_push f room deeper = record {
      room = omega (arith, length-set frames (d + 1) f);
      root = λ x. rw (get_or-set_other frames (d + 1) 0 f x (λ e. absurd (omega arith))) (s.root x);
      low = λ j x h. by_place j x (ltb j (d + 1)) refl h;
    }
      where
        by_place : (j : ℕ) (x : Frame T) (c : Bool) → ltb j (d + 1) ≡ c → j ≤ d + 1 → j ≤ (get_or (set frames (d + 1) f) j x).level
        by_place j x true e h = let g : j < d + 1 = ltb-true j (d + 1) e in rw (get_or-set_other frames (d + 1) j f x (λ q. absurd (omega arith))) (s.low j x (omega arith))
        by_place j x false e h =
            let g : j ≡ d + 1 = omega (arith, ltb-false j (d + 1) e) in
            rw (g, get_or-set_same frames (d + 1) f x room) (omega (arith, last_low, length_open frames d s.room))

    -- and these are open then
    pub pushed : {level : ℕ} {purpose : CodePurpose} {own : T} (y : Frame T) → d + 1 < length frames
        → Pushed level purpose own frames d (set frames (d + 1) (record { level = level; purpose = purpose; bound = (get_or frames (d + 1) y).bound; own = own })) (d + 1)
    pushed {level} {purpose} {own} y h =
        let f : Frame T = record { level = level; purpose = purpose; bound = (get_or frames (d + 1) y).bound; own = own } in
        record {
          places = length-set frames (d + 1) f;
          opened = λ x. rw (open_next (set frames (d + 1) f) d f (omega (arith, length-set frames (d + 1) f)), get_or-set_same frames (d + 1) f f h, open_set frames (d + 1) f d (omega arith) s.room, get_or_default frames (d + 1) x y h) refl;
        }
