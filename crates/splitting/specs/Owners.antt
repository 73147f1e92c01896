-- What is around a part is what the rows say: how many split arms its row is below.
use Rattle.std.specs.Prelude.{ℕ, zero, suc, ◌+◌, ◌<◌, ◌≤◌, ◌≡◌, refl, Bool, true, false, cond, ◌&&◌, List, [], ◌∷◌, ◌++◌, length, get_or, drop, leb, ltb, eqb}
use Rattle.std.proofs.Common.{sym, ap, ap₂, ◌∙◌, append_assoc, arith, leb-true, leb-false, le-leb, lt-ltb, le-ltb, eqb-true}
use Rattle.std.proofs.Math.Option.{Option, some, none}
use Rattle.std.proofs.lemmas.Bool.{eqb-false}
use Rattle.plan.specs.Constraint.{Constraint}
use Rattle.plan.specs.Row.{Match, Equal, Loop, Return, Row, step, arm, level}
use Rattle.codegen.specs.Block.{Body, Line, line, Part, Purpose, one_arm, arms_of, arm_body, body, Frame, State, Own, arm_count, block_weight, closure_count, closures, purpose_of, place, end_closure, catchall, end_block, closing, left, restored, is_arm_body, numbered, pushed, open_closure, row_parts, after, own, emit_check, matching, opening, nothing_written, returning, emit_arm, here, splits_here, next, written, walk}
use Rattle.codegen.specs.TakeOff.{line_tags, Above, arms_above, arms_of_row, is_arm, splits_arm, lower, belows, Tag, part_tags}
use Rattle.splitting.specs.Cases.{and_left, and_right, by_bool, by_leb, false_true, empty_cons}
use Rattle.splitting.specs.Lines.{around_tags}

-- the levels of the frames that have closures
unfoldable pub closure_level : Frame → Option ℕ → List ℕ → List ℕ
closure_level f none ms = ms
closure_level f (some n) ms = f.level ∷ ms

unfoldable pub closure_levels : List Frame → List ℕ
closure_levels [] = []
closure_levels (f ∷ fs) = closure_level f f.closure (closure_levels fs)

count_level : (f : Frame) (k : Option ℕ) (ms : List ℕ) → length (closure_level f k ms) ≡ closure_count k + length ms
unfolding closure_level
count_level f none ms = omega arith
count_level f (some n) ms = omega arith

count_levels : (fs : List Frame) → length (closure_levels fs) ≡ closures fs
unfolding closure_levels closures
count_levels [] = refl
count_levels (f ∷ fs) = count_level f f.closure (closure_levels fs) ∙ ap (λ (n : ℕ). closure_count f.closure + n) (count_levels fs)

-- the levels fall from frame to frame, and all are lower than l
abbrev pub Chain : ℕ → List Frame → Type 0
Chain l [] = Unit
Chain l (f ∷ fs) = (f.level < l) × Chain f.level fs

abbrev pub Sorted : List Frame → Type 0
Sorted [] = Unit
Sorted (f ∷ fs) = Chain f.level fs

weaken : (l m : ℕ) (fs : List Frame) → l ≤ m → Chain l fs → Chain m fs
weaken l m [] h c = tt
weaken l m (f ∷ fs) h c = (omega (arith, c.0), c.1)

lower_one : (f : Frame) (k : Option ℕ) (l : ℕ) (ms : List ℕ) → f.level < l → lower l (closure_level f k ms) ≡ closure_level f k (lower l ms)
unfolding closure_level lower
lower_one f none l ms h = refl
lower_one f (some n) l ms h = rw (lt-ltb f.level l h)

lower_none : (f : Frame) (k : Option ℕ) (l : ℕ) (ms : List ℕ) → l ≤ f.level → lower l (closure_level f k ms) ≡ lower l ms
unfolding closure_level lower
lower_none f none l ms h = refl
lower_none f (some n) l ms h = rw (le-ltb f.level l h)

lower_all : (l : ℕ) (fs : List Frame) → Chain l fs → lower l (closure_levels fs) ≡ closure_levels fs
unfolding closure_levels lower
lower_all l [] c = refl
lower_all l (f ∷ fs) c = lower_one f f.closure l (closure_levels fs) c.0 ∙ ap (closure_level f f.closure) (lower_all l fs (weaken f.level l fs (omega (arith, c.0)) c.1))

sorted_tail : (f : Frame) (fs : List Frame) → Sorted (f ∷ fs) → Sorted fs
sorted_tail f [] c = tt
sorted_tail f (g ∷ fs) c = c.1

lower_left : (l : ℕ) (fs : List Frame) → Sorted fs → lower l (closure_levels fs) ≡ closure_levels (left l fs)
unfolding closure_levels left lower
lower_left l [] c = refl
lower_left l (f ∷ fs) c =
    by_leb (λ b. lower l (closure_levels (f ∷ fs)) ≡ closure_levels (cond b (left l fs) (f ∷ fs))) l f.level
    (λ h. lower_none f f.closure l (closure_levels fs) h ∙ lower_left l fs (sorted_tail f fs c))
    (λ h. lower_all l (f ∷ fs) (h, c))

chain_left : (l : ℕ) (fs : List Frame) → Sorted fs → Chain l (left l fs)
unfolding left
chain_left l [] c = tt
chain_left l (f ∷ fs) c =
    by_leb (λ b. Chain l (cond b (left l fs) (f ∷ fs))) l f.level
    (λ h. chain_left l fs (sorted_tail f fs c))
    (λ h. (h, c))

pub left_left : (l m : ℕ) (fs : List Frame) → l ≤ m → left l (left m fs) ≡ left l fs
unfolding left
left_left l m [] h = refl
left_left l m (f ∷ fs) h =
    by_leb (λ b. left l (cond b (left m fs) (f ∷ fs)) ≡ left l (f ∷ fs)) m f.level
    (λ g. left_left l m fs h ∙ rw (le-leb l f.level (omega arith)))
    (λ g. refl)

-- each arm stands below a match, its nearest earlier row of a lower level, and the row after a match is an arm of it
unfoldable pub arm_next : ℕ → List Row → Bool
arm_next l [] = false
arm_next l (step m c bs ∷ rs) = false
arm_next l (arm m c bs ∷ rs) = eqb m (suc l)

unfoldable pub arms_placed_row : List Above → Row → List Row → Bool
arms_placed_row above (step l (Match q) bs) rs = arm_next l rs
arms_placed_row above (step l (Equal a b) bs) rs = true
arms_placed_row above (step l (Loop r) bs) rs = true
arms_placed_row above (step l (Return r p) bs) rs = true
arms_placed_row above (arm l c bs) rs = leb 1 (arms_above l above)

unfoldable pub arms_placed : List Above → List Row → Bool
arms_placed above [] = true
arms_placed above (r ∷ rs) = arms_placed_row above r rs && arms_placed (record { level = level r; arms = arms_of_row r rs } ∷ above) rs

unfoldable pub is_arms_of : Purpose → Bool
is_arms_of one_arm = false
is_arms_of (arms_of q) = true
is_arms_of arm_body = false
is_arms_of body = false

-- where the nearest earlier row below level l is a match, the frame around says whether it has two or more arms
unfoldable pub Known : List Above → List Frame → Type 0
Known above fs = (l : ℕ) → 1 ≤ arms_above l above → is_arms_of (purpose_of (left l fs)) ≡ leb 2 (arms_above l above)

-- a row opens a frame for its arms if it has any
unfoldable pub Opened : Option Purpose → ℕ → Type 0
Opened none n = n < 1
Opened (some p) n = 1 ≤ n → is_arms_of p ≡ leb 2 n

opened_zero : (x : Option Purpose) → Opened x 0
unfolding Opened
opened_zero none = omega arith
opened_zero (some p) = λ h. absurd (omega arith)

opened_either : (n q : ℕ) (x y : Own) → x.frame ≡ some one_arm → y.frame ≡ some (arms_of q) → Opened (cond (eqb n 1) x y).frame n
unfolding Opened is_arms_of
opened_either n q x y e f = go (eqb n 1) refl
  where
    go : (b : Bool) → eqb n 1 ≡ b → Opened (cond b x y).frame n
    go true g = rw (e, eqb-true n 1 g) (λ h. refl)
    go false g = rw f (λ h. sym (le-leb 2 n (let z : n ≡ 1 → ⊥ = eqb-false n 1 g in two n h z)))
      where
        two : (n : ℕ) → 1 ≤ n → (n ≡ 1 → ⊥) → 2 ≤ n
        two zero h z = absurd (omega arith)
        two (suc zero) h z = absurd (z refl)
        two (suc (suc n)) h z = omega arith

opened_match : (c : Body) (refs bound : List Bool) (q l : ℕ) (rs : List Row) → arm_next l rs ≡ true → Opened (matching c refs bound q (arm_count l rs) rs).frame (arm_count l rs)
unfolding matching arm_next opening
opened_match c refs bound q l [] h = false_true h
opened_match c refs bound q l (step m k bs ∷ rs) h = false_true h
opened_match c refs bound q l (arm m k bs ∷ rs) h = opened_either (arm_count l (arm m k bs ∷ rs)) q _ _ refl refl

pub opened : (c : Body) (refs bound : List Bool) (p : Purpose) (above : List Above) (r : Row) (rs : List Row) → arms_placed_row above r rs ≡ true → Opened (own c refs bound p r rs).frame (arms_of_row r rs)
unfolding own arms_placed_row emit_check
opened c refs bound p above (step l (Match q) bs) rs h = opened_match c _ _ q l rs h
opened c refs bound p above (step l (Equal a b) bs) rs h = opened_zero _
opened c refs bound p above (step l (Loop x) bs) rs h = opened_zero _
opened c refs bound p above (step l (Return x y) bs) rs h = opened_zero _
opened c refs bound p above (arm l k bs) rs h = opened_zero _

and_assoc : (a b c : Bool) → (a && b) && c ≡ a && (b && c)
and_assoc true b c = refl
and_assoc false b c = refl

-- what is known stays known past a row of level m that has n arms
pub known_pushed : (x : Option Purpose) (m n i : ℕ) (b : List Bool) (k : Option ℕ) (above : List Above) (fs : List Frame) → Opened x n → Known above fs → Known (record { level = m; arms = n } ∷ above) (pushed x m i b k (left m fs))
unfolding Opened Known arms_above pushed left
known_pushed none m n i b k above fs o h l = go (leb l m) refl
  where
    go : (t : Bool) → leb l m ≡ t → 1 ≤ cond (ltb m l) n (arms_above l above) → is_arms_of (purpose_of (left l (left m fs))) ≡ leb 2 (cond (ltb m l) n (arms_above l above))
    go true q = let g : l ≤ m = leb-true l m q in rw (le-ltb m l g, left_left l m fs g) (h l)
    go false q = let g : m < l = leb-false l m q in rw (lt-ltb m l g) (λ e. absurd (omega arith))
known_pushed (some p) m n i b k above fs o h l = go (leb l m) refl
  where
    go : (t : Bool) → leb l m ≡ t → 1 ≤ cond (ltb m l) n (arms_above l above) → is_arms_of (purpose_of (cond t (left l (left m fs)) (record { level = m; row = i; purpose = p; bound = b; closure = k } ∷ left m fs))) ≡ leb 2 (cond (ltb m l) n (arms_above l above))
    go true q = let g : l ≤ m = leb-true l m q in rw (le-ltb m l g, left_left l m fs g) (h l)
    go false q = let g : m < l = leb-false l m q in rw (lt-ltb m l g) o

no_arm_body_either : (b : Bool) (q : ℕ) (x y : Own) → x.frame ≡ some one_arm → y.frame ≡ some (arms_of q) → is_arm_body (cond b x y).frame ≡ false
no_arm_body_either true q x y e f = rw e
no_arm_body_either false q x y e f = rw f

no_arm_body_match : (c : Body) (refs bound : List Bool) (q n : ℕ) (rs : List Row) → is_arm_body (matching c refs bound q n rs).frame ≡ false
unfolding matching opening nothing_written
no_arm_body_match c refs bound q n [] = refl
no_arm_body_match c refs bound q n (step m k bs ∷ rs) = refl
no_arm_body_match c refs bound q n (arm m k bs ∷ rs) = no_arm_body_either (eqb n 1) q _ _ refl refl

arm_body_arms_of : (c : Body) (refs bound : List Bool) (p : Purpose) (k : Constraint) (bs : List (Option ℕ)) → is_arm_body (emit_arm c refs bound p k bs).frame ≡ is_arms_of p
unfolding emit_arm opening nothing_written is_arms_of
arm_body_arms_of c refs bound one_arm k bs = refl
arm_body_arms_of c refs bound (arms_of q) k bs = refl
arm_body_arms_of c refs bound arm_body k bs = refl
arm_body_arms_of c refs bound body k bs = refl

-- an arm has a frame of its own where its match has two or more arms
arm_body_row : (c : Body) (refs bound : List Bool) (above : List Above) (fs : List Frame) (r : Row) (rs : List Row) → Known above fs → arms_placed_row above r rs ≡ true → is_arm_body (own c refs bound (purpose_of (left (level r) fs)) r rs).frame ≡ is_arm r && leb 2 (arms_above (level r) above)
unfolding own arms_placed_row emit_check level opening returning Known
arm_body_row c refs bound above fs (step l (Match q) bs) rs h g = no_arm_body_match c _ _ q (arm_count l rs) rs
arm_body_row c refs bound above fs (step l (Equal a b) bs) rs h g = refl
arm_body_row c refs bound above fs (step l (Loop x) bs) rs h g = refl
arm_body_row c refs bound above fs (step l (Return x y) bs) rs h g = refl
arm_body_row c refs bound above fs (arm l k bs) rs h g = arm_body_arms_of c refs bound (purpose_of (left l fs)) k bs ∙ h l (leb-true 1 _ g)

-- the arms that split in the walk are those that split by the rows
pub splits_same : (c : Body) (sp : ℕ → Bool) (s : State) (above : List Above) (r : Row) (rs : List Row) → Known above s.frames → arms_placed_row above r rs ≡ true → splits_here sp (here c s r rs) r rs ≡ splits_arm sp above r rs
unfolding splits_here splits_arm here
splits_same c sp s above r rs h g = rw (arm_body_row c s.refs (restored (level r) s.bound s.frames) above s.frames r rs h g) (and_assoc (is_arm r) (leb 2 (arms_above (level r) above)) (sp (block_weight (level r) rs)))

-- TAGS

tag_append : (bs : List ℕ) (ps qs : List Part) → part_tags bs (ps ++ qs) ≡ part_tags bs ps ++ part_tags bs qs
unfolding part_tags
tag_append bs [] qs = refl
tag_append bs (p ∷ ps) qs = rw (tag_append bs ps qs, append_assoc)

pub around_append : (ps qs : List Part) → around_tags (ps ++ qs) ≡ around_tags ps ++ around_tags qs
unfolding around_tags
around_append [] qs = refl
around_append (p ∷ ps) qs = rw (around_append ps qs, append_assoc)

-- the tags of parts by their rows are those by what is around them
unfoldable pub Same : List ℕ → List Part → Type 0
Same bs ps = part_tags bs ps ≡ around_tags ps

pub same_append : (bs : List ℕ) (ps qs : List Part) → Same bs ps → Same bs qs → Same bs (ps ++ qs)
unfolding Same
same_append bs ps qs f g = tag_append bs ps qs ∙ ap₂ (λ (x y : List Tag). x ++ y) f g ∙ sym (around_append ps qs)

same_place : (bs : List ℕ) (i : ℕ) (fs : List Frame) (ls : List Line) → get_or bs i 0 ≡ closures fs → Same bs (place (some i) fs ls)
unfolding Same part_tags around_tags place
same_place bs i fs [] h = refl
same_place bs i fs (l ∷ ls) h = ap₂ (λ (x y : List Tag). x ++ y) (ap (λ n. line_tags n (line l)) h) (same_place bs i fs ls h)

same_open_closure : (bs : List ℕ) (i : ℕ) (fs : List Frame) (b : Bool) → Same bs (open_closure i fs b)
unfolding Same part_tags around_tags open_closure
same_open_closure bs i fs true = refl
same_open_closure bs i fs false = refl

same_end_closure : (bs : List ℕ) (i : ℕ) (fs : List Frame) (k : Option ℕ) → Same bs (end_closure i fs k)
unfolding Same part_tags around_tags end_closure
same_end_closure bs i fs none = refl
same_end_closure bs i fs (some n) = refl

same_catchall : (bs : List ℕ) (f : Frame) (fs : List Frame) (p : Purpose) → get_or bs f.row 0 ≡ closures fs → Same bs (catchall f fs p)
unfolding Same part_tags around_tags catchall
same_catchall bs f fs one_arm h = refl
same_catchall bs f fs (arms_of q) h = rw h
same_catchall bs f fs arm_body h = refl
same_catchall bs f fs body h = refl

same_end_block : (bs : List ℕ) (f : Frame) (fs : List Frame) → get_or bs f.row 0 ≡ closures fs → Same bs (end_block f fs)
unfolding end_block
same_end_block bs f fs h = same_append bs (end_closure f.row fs f.closure) _ (same_end_closure bs f.row fs f.closure) (same_append bs (catchall f fs f.purpose) _ (same_catchall bs f fs f.purpose h) (same_place bs f.row fs _ h))

-- each open frame's row is below as many split arms as there are closures around the frame
abbrev pub Owned : List ℕ → List Frame → Type 0
Owned bs [] = Unit
Owned bs (f ∷ fs) = (get_or bs f.row 0 ≡ closures fs) × Owned bs fs

pub nothing_same : (bs : List ℕ) → Same bs []
unfolding Same part_tags around_tags
nothing_same bs = refl

same_closing : (bs : List ℕ) (l : ℕ) (fs : List Frame) → Owned bs fs → Same bs (closing l fs)
unfolding closing
same_closing bs l [] o = nothing_same bs
same_closing bs l (f ∷ fs) o =
    by_bool (λ b. Same bs (cond b (end_block f fs ++ closing l fs) [])) (leb l f.level) (same_append bs (end_block f fs) (closing l fs) (same_end_block bs f fs o.0) (same_closing bs l fs o.1)) (nothing_same bs)

owned_left : (bs : List ℕ) (l : ℕ) (fs : List Frame) → Owned bs fs → Owned bs (left l fs)
unfolding left
owned_left bs l [] o = tt
owned_left bs l (f ∷ fs) o = by_bool (λ b. Owned bs (cond b (left l fs) (f ∷ fs))) (leb l f.level) (owned_left bs l fs o.1) o

pub drop_head : {A : Type 0} (d : A) (i : ℕ) (bs : List A) (x : A) (xs : List A) → drop i bs ≡ x ∷ xs → get_or bs i d ≡ x
drop_head d zero [] x xs h = empty_cons h
drop_head d zero (b ∷ bs) x xs h = cc
drop_head d (suc i) [] x xs h = empty_cons h
drop_head d (suc i) (b ∷ bs) x xs h = drop_head d i bs x xs h

pub drop_tail : {A : Type 0} (i : ℕ) (bs : List A) (x : A) (xs : List A) → drop i bs ≡ x ∷ xs → drop (suc i) bs ≡ xs
drop_tail zero [] x xs h = empty_cons h
drop_tail zero (b ∷ bs) x xs h = cc
drop_tail (suc i) [] x xs h = empty_cons h
drop_tail (suc i) (b ∷ bs) x xs h = drop_tail i bs x xs h

levels_pushed : (x : Option Purpose) (l i : ℕ) (u : List Bool) (n : ℕ) (fs : List Frame) (b : Bool) → (b ≡ true → is_arm_body x ≡ true) → closure_levels (pushed x l i u (numbered b n) fs) ≡ cond b (l ∷ closure_levels fs) (closure_levels fs)
unfolding pushed closure_levels closure_level
levels_pushed none l i u n fs true h = false_true (h refl)
levels_pushed none l i u n fs false h = refl
levels_pushed (some p) l i u n fs true h = refl
levels_pushed (some p) l i u n fs false h = refl

chain_sorted : (l : ℕ) (fs : List Frame) → Chain l fs → Sorted fs
chain_sorted l [] c = tt
chain_sorted l (f ∷ fs) c = c.1

sorted_pushed : (x : Option Purpose) (l i : ℕ) (u : List Bool) (k : Option ℕ) (fs : List Frame) → Chain l fs → Sorted (pushed x l i u k fs)
unfolding pushed
sorted_pushed none l i u k fs c = chain_sorted l fs c
sorted_pushed (some p) l i u k fs c = c

owned_pushed : (bs : List ℕ) (x : Option Purpose) (l i : ℕ) (u : List Bool) (k : Option ℕ) (fs : List Frame) → get_or bs i 0 ≡ closures fs → Owned bs fs → Owned bs (pushed x l i u k fs)
unfolding pushed
owned_pushed bs none l i u k fs h o = o
owned_pushed bs (some p) l i u k fs h o = (h, o)

-- what holds between a state of the walk and the rows' numbers bs, at row i with the rows rs to come
pub record Fits (bs : List ℕ) (sp : ℕ → Bool) (above : List Above) (fs : List Frame) (i : ℕ) (rs : List Row) : Type 0 where
  pub rest : drop i bs ≡ belows sp above (closure_levels fs) rs
  pub sorted : Sorted fs
  pub known : Known above fs
  pub owned : Owned bs fs
  pub nests : arms_placed above rs ≡ true

module _ (c : Body) (sp : ℕ → Bool) (bs : List ℕ) (s : State) (above : List Above) (i : ℕ) (r : Row) (rs : List Row) (f : Fits bs sp above s.frames i (r ∷ rs)) where
  row_nests : arms_placed_row above r rs ≡ true
  unfolding arms_placed
  row_nests = and_left (arms_placed_row above r rs) _ f.nests

  row_rest : drop i bs ≡ closures (left (level r) s.frames) ∷ belows sp (record { level = level r; arms = arms_of_row r rs } ∷ above) (cond (splits_arm sp above r rs) (level r ∷ closure_levels (left (level r) s.frames)) (closure_levels (left (level r) s.frames))) rs
  unfolding belows
  row_rest = f.rest ∙ rw (lower_left (level r) s.frames f.sorted, count_levels)

  row_below : get_or bs i 0 ≡ closures (left (level r) s.frames)
  row_below = drop_head 0 i bs _ _ row_rest

  row_split : splits_here sp (here c s r rs) r rs ≡ splits_arm sp above r rs
  row_split = splits_same c sp s above r rs f.known row_nests

  arm_body_split : splits_here sp (here c s r rs) r rs ≡ true → is_arm_body (here c s r rs).frame ≡ true
  unfolding splits_here
  arm_body_split h = and_left (is_arm_body (here c s r rs).frame) _ h

  row_opened : Opened (here c s r rs).frame (arms_of_row r rs)
  unfolding here
  row_opened = opened c s.refs (restored (level r) s.bound s.frames) (purpose_of (left (level r) s.frames)) above r rs row_nests

  rest_nests : arms_placed (record { level = level r; arms = arms_of_row r rs } ∷ above) rs ≡ true
  unfolding arms_placed
  rest_nests = and_right (arms_placed_row above r rs) _ f.nests

  row_fits : Fits bs sp (record { level = level r; arms = arms_of_row r rs } ∷ above) (next c sp s i r rs).frames (suc i) rs
  unfolding next after
  row_fits = record {
    rest = drop_tail i bs _ _ row_rest ∙ rw (levels_pushed (here c s r rs).frame (level r) i (here c s r rs).outside s.match_split (left (level r) s.frames) (splits_here sp (here c s r rs) r rs) arm_body_split, row_split);
    sorted = sorted_pushed (here c s r rs).frame (level r) i _ _ _ (chain_left (level r) s.frames f.sorted);
    known = known_pushed (here c s r rs).frame (level r) (arms_of_row r rs) i _ _ above s.frames row_opened f.known;
    owned = owned_pushed bs (here c s r rs).frame (level r) i _ _ _ row_below (owned_left bs (level r) s.frames f.owned);
    nests = rest_nests;
  }

  row_same : Same bs (written c sp s i r rs)
  unfolding written row_parts
  row_same = same_append bs (closing (level r) s.frames) _ (same_closing bs (level r) s.frames f.owned) (same_append bs (place (some i) (left (level r) s.frames) (here c s r rs).lines) _ (same_place bs i (left (level r) s.frames) _ row_below) (same_open_closure bs i _ _))

pub same_walk : (c : Body) (sp : ℕ → Bool) (bs : List ℕ) (s : State) (above : List Above) (i : ℕ) (rs : List Row) → Fits bs sp above s.frames i rs → Same bs (walk c sp s i rs)
unfolding walk
same_walk c sp bs s above i [] f = same_closing bs 0 s.frames f.owned
same_walk c sp bs s above i (r ∷ rs) f = same_append bs (written c sp s i r rs) _ (row_same c sp bs s above i r rs f) (same_walk c sp bs (next c sp s i r rs) _ (suc i) rs (row_fits c sp bs s above i r rs f))
