-- The closures are those of the split arms, numbered from 0 in the order of the rows.
use Rattle.std.specs.Prelude.{ℕ, zero, suc, ◌<◌, ◌≤◌, ◌≡◌, cond, get_or, drop, leb, ltb}
use Rattle.std.proofs.Math.Path.{refl, subst}
use Rattle.std.proofs.Common.{sym, ◌∙◌, arith}
use Rattle.std.proofs.Math.Bool.{Bool, true, false}
use Rattle.std.proofs.Math.Option.{Option, some, none}
use mathlib.Core.List.{List, [], ◌∷◌, ◌++◌, append_assoc, append-nil}
use Rattle.std.proofs.Math.Dec.{eqb, leb-zero}
use borrow.Author.Tests.{eq-eqb, ne_eqb, eqb-true, eqb-false, ltb-true, ltb-false}
use Rattle.plan.specs.Plan.{Term, Generated, Environment, Options}
use Rattle.plan.specs.Row.{Row, level}
use Rattle.codegen.specs.Block.{Body, Line, Edge, opens, gives_false, ends, calls, Part, Purpose, one_arm, arms_of, arm_body, body, Frame, State, Own, place, end_closure, catchall, end_block, closing, left, is_arm_body, numbered, pushed, open_closure, row_parts, after, here, splits_here, next, written, walk}
use Rattle.codegen.specs.Piece.{Piece}
use Rattle.codegen.specs.TakeOff.{Above, arms_above, arms_of_row, splits_arm}
use Rattle.codegen.specs.Terms.{rowless, signature, term_end, body_of, start, splits, term_parts}
use Rattle.splitting.specs.Demand3.{edge_at, edges_at}
use Rattle.splitting.specs.Cases.{and_left, and_right, by_bool, false_true, cons_empty}
use Rattle.splitting.specs.Owners.{Known, arms_placed_row, arms_placed, splits_same, known_pushed, opened, drop_head, drop_tail}

-- for each row, the number of its closure if it is a split arm; k split arms stand before
unfoldable pub split_numbers : (ℕ → Bool) → List Above → ℕ → List Row → List (Option ℕ)
split_numbers sp above k [] = []
split_numbers sp above k (r ∷ rs) =
    let b = splits_arm sp above r rs in
    numbered b k ∷ split_numbers sp (record { level = level r; arms = arms_of_row r rs } ∷ above) (cond b (suc k) k) rs

-- a closure's last three lines, and all four
unfoldable pub last_three : Option ℕ → List Edge
last_three none = []
last_three (some n) = gives_false ∷ ends ∷ calls n ∷ []

unfoldable pub all_four : Option ℕ → List Edge
all_four none = []
all_four (some n) = opens ∷ gives_false ∷ ends ∷ calls n ∷ []

-- what the open frames still have to write for row j
unfoldable pub pending : ℕ → List Frame → List Edge
pending j [] = []
pending j (f ∷ fs) = cond (eqb f.row j) (last_three f.closure) [] ++ pending j fs

edges_append : (j : ℕ) (ps qs : List Part) → edges_at j (ps ++ qs) ≡ edges_at j ps ++ edges_at j qs
unfolding edges_at
edges_append j [] qs = refl
edges_append j (p ∷ ps) qs = rw (edges_append j ps qs, append_assoc)

edges_place : (j : ℕ) (i : Option ℕ) (fs : List Frame) (ls : List Line) → edges_at j (place i fs ls) ≡ []
unfolding edges_at edge_at place
edges_place j i fs [] = refl
edges_place j none fs (l ∷ ls) = edges_place j none fs ls
edges_place j (some i) fs (l ∷ ls) = edges_place j (some i) fs ls

edges_catchall : (j : ℕ) (f : Frame) (fs : List Frame) (p : Purpose) → edges_at j (catchall f fs p) ≡ []
unfolding edges_at edge_at catchall
edges_catchall j f fs one_arm = refl
edges_catchall j f fs (arms_of q) = refl
edges_catchall j f fs arm_body = refl
edges_catchall j f fs body = refl

edges_end_closure : (j i : ℕ) (fs : List Frame) (k : Option ℕ) → edges_at j (end_closure i fs k) ≡ cond (eqb i j) (last_three k) []
unfolding edges_at edge_at end_closure last_three
edges_end_closure j i fs none = go (eqb i j)
  where
    go : (b : Bool) → [] ≡ cond b (last_three none) []
    go true = refl
    go false = refl
edges_end_closure j i fs (some n) = go (eqb i j)
  where
    go : (b : Bool) → cond b (gives_false ∷ []) [] ++ (cond b (ends ∷ []) [] ++ (cond b (calls n ∷ []) [] ++ [])) ≡ cond b (last_three (some n)) []
    go true = refl
    go false = refl

edges_end_block : (j : ℕ) (f : Frame) (fs : List Frame) → edges_at j (end_block f fs) ≡ cond (eqb f.row j) (last_three f.closure) []
unfolding end_block
edges_end_block j f fs = rw (edges_append, edges_append, edges_end_closure, edges_catchall, edges_place) (append-nil _)

-- closing frames writes what they have to write, and the others keep theirs
edges_closing : (j l : ℕ) (fs : List Frame) → edges_at j (closing l fs) ++ pending j (left l fs) ≡ pending j fs
unfolding closing left pending edges_at
edges_closing j l [] = refl
edges_closing j l (f ∷ fs) =
    by_bool (λ b. edges_at j (cond b (end_block f fs ++ closing l fs) []) ++ pending j (cond b (left l fs) (f ∷ fs)) ≡ pending j (f ∷ fs)) (leb l f.level)
    (rw (edges_append, edges_end_block, append_assoc, edges_closing j l fs))
    refl

-- the frames' rows are before row i
abbrev pub Before : ℕ → List Frame → Type 0
Before i [] = Unit
Before i (f ∷ fs) = (f.row < i) × Before i fs

pub before_left : (i l : ℕ) (fs : List Frame) → Before i fs → Before i (left l fs)
unfolding left
before_left i l [] b = tt
before_left i l (f ∷ fs) b = by_bool (λ t. Before i (cond t (left l fs) (f ∷ fs))) (leb l f.level) (before_left i l fs b.1) b

before_more : (i : ℕ) (fs : List Frame) → Before i fs → Before (suc i) fs
before_more i [] b = tt
before_more i (f ∷ fs) b = (omega (arith, b.0), before_more i fs b.1)

before_pushed : (x : Option Purpose) (l i : ℕ) (u : List Bool) (k : Option ℕ) (fs : List Frame) → Before i fs → Before (suc i) (pushed x l i u k fs)
unfolding pushed
before_pushed none l i u k fs b = before_more i fs b
before_pushed (some p) l i u k fs b = (omega arith, before_more i fs b)

pending_none : (i j : ℕ) (fs : List Frame) → i ≤ j → Before i fs → pending j fs ≡ []
unfolding pending
pending_none i j [] h b = refl
pending_none i j (f ∷ fs) h b = rw (ne_eqb f.row j (λ q. omega (arith, b.0)), pending_none i j fs h b.1)

append_empty : (x y : List Edge) → x ++ y ≡ [] → x ≡ []
append_empty [] y h = refl
append_empty (e ∷ x) y h = cons_empty h

closing_none : (i j l : ℕ) (fs : List Frame) → i ≤ j → Before i fs → edges_at j (closing l fs) ≡ []
closing_none i j l fs h b = append_empty (edges_at j (closing l fs)) (pending j (left l fs)) (edges_closing j l fs ∙ pending_none i j fs h b)

pushed_other : (j : ℕ) (x : Option Purpose) (l i : ℕ) (u : List Bool) (k : Option ℕ) (fs : List Frame) → (i ≡ j → ⊥) → pending j (pushed x l i u k fs) ≡ pending j fs
unfolding pushed pending
pushed_other j none l i u k fs h = refl
pushed_other j (some p) l i u k fs h = rw (ne_eqb i j h)

pushed_own : (x : Option Purpose) (l i : ℕ) (u : List Bool) (n : ℕ) (fs : List Frame) (b : Bool) → (b ≡ true → is_arm_body x ≡ true) → pending i fs ≡ [] → pending i (pushed x l i u (numbered b n) fs) ≡ last_three (numbered b n)
unfolding pushed pending last_three
pushed_own none l i u n fs true h g = false_true (h refl)
pushed_own none l i u n fs false h g = g
pushed_own (some p) l i u n fs b h g = rw (eq-eqb i i refl, g) (append-nil _)

edges_start : (j i : ℕ) (fs : List Frame) (b : Bool) → edges_at j (open_closure i fs b) ≡ cond b (cond (eqb i j) (opens ∷ []) []) []
unfolding edges_at edge_at open_closure
edges_start j i fs true = append-nil _
edges_start j i fs false = refl

edges_row : (j i : ℕ) (fs : List Frame) (o : Own) (b : Bool) → edges_at j (row_parts i fs o b) ≡ cond b (cond (eqb i j) (opens ∷ []) []) []
unfolding row_parts
edges_row j i fs o b = rw (edges_append, edges_place) (edges_start j i fs b)

edges_row_other : (j i : ℕ) (fs : List Frame) (o : Own) (b : Bool) → (i ≡ j → ⊥) → edges_at j (row_parts i fs o b) ≡ []
edges_row_other j i fs o b h = edges_row j i fs o b ∙ rw (ne_eqb i j h) (by_bool (λ t. cond t [] [] ≡ []) b refl refl)

left_zero : (fs : List Frame) → left 0 fs ≡ []
unfolding left
left_zero [] = refl
left_zero (f ∷ fs) = rw (leb-zero, left_zero fs)

edges_end : (j : ℕ) (fs : List Frame) → edges_at j (closing 0 fs) ≡ pending j fs
unfolding pending
edges_end j fs = sym (append-nil _) ∙ (rw left_zero at (edges_closing j 0 fs))

-- what holds between a state of the walk and the numbers ns of the rows, at row i with the rows rs to come
pub record Numbers (ns : List (Option ℕ)) (sp : ℕ → Bool) (above : List Above) (s : State) (i : ℕ) (rs : List Row) : Type 0 where
  pub rest : drop i ns ≡ split_numbers sp above s.match_split rs
  pub known : Known above s.frames
  pub before : Before i s.frames
  pub nests : arms_placed above rs ≡ true

open_and_last : (b : Bool) (n : ℕ) → cond b (opens ∷ []) [] ++ last_three (numbered b n) ≡ all_four (numbered b n)
unfolding last_three all_four
open_and_last true n = refl
open_and_last false n = refl

drop_none : {A : Type 0} (i j : ℕ) (xs : List A) (d : A) → drop i xs ≡ [] → i ≤ j → get_or xs j d ≡ d
drop_none i j [] d h g = refl
drop_none zero j (x ∷ xs) d h g = cons_empty h
drop_none (suc i) zero (x ∷ xs) d h g = absurd (omega arith)
drop_none (suc i) (suc j) (x ∷ xs) d h g = drop_none i j xs d h (omega arith)

strict : (i j : ℕ) → i ≤ j → (i ≡ j → ⊥) → i < j
strict i j h d = go (ltb i j) refl
  where
    go : (b : Bool) → ltb i j ≡ b → i < j
    go true q = ltb-true i j q
    go false q = absurd (d (omega (arith, ltb-false i j q)))

module _ (c : Body) (sp : ℕ → Bool) where
  arm_body_split : (s : State) (r : Row) (rs : List Row) → splits_here sp (here c s r rs) r rs ≡ true → is_arm_body (here c s r rs).frame ≡ true
  unfolding splits_here
  arm_body_split s r rs h = and_left (is_arm_body (here c s r rs).frame) _ h

  -- rows written before: what their frames have to write
  edges_past : (j : ℕ) (s : State) (i : ℕ) (rs : List Row) → j < i → edges_at j (walk c sp s i rs) ≡ pending j s.frames
  unfolding walk written next after
  edges_past j s i [] h = edges_end j s.frames
  edges_past j s i (r ∷ rs) h =
      rw (edges_append, edges_append, edges_past j (next c sp s i r rs) (suc i) rs (omega arith), edges_row_other j i _ (here c s r rs) _ (λ q. omega arith), pushed_other j (here c s r rs).frame (level r) i _ _ _ (λ q. omega arith), append-nil)
      (edges_closing j (level r) s.frames)

  module _ (ns : List (Option ℕ)) (s : State) (above : List Above) (i : ℕ) (r : Row) (rs : List Row) (f : Numbers ns sp above s i (r ∷ rs)) where
    row_nests : arms_placed_row above r rs ≡ true
    unfolding arms_placed
    row_nests = and_left (arms_placed_row above r rs) _ f.nests

    pub row_split : splits_here sp (here c s r rs) r rs ≡ splits_arm sp above r rs
    row_split = splits_same c sp s above r rs f.known row_nests

    row_number : get_or ns i none ≡ numbered (splits_here sp (here c s r rs) r rs) s.match_split
    unfolding split_numbers
    row_number = drop_head none i ns _ _ f.rest ∙ rw row_split

    pub row_numbers : Numbers ns sp (record { level = level r; arms = arms_of_row r rs } ∷ above) (next c sp s i r rs) (suc i) rs
    unfolding next after split_numbers arms_placed here
    row_numbers = record {
      rest = drop_tail i ns _ _ f.rest ∙ rw row_split;
      known = known_pushed (here c s r rs).frame (level r) (arms_of_row r rs) i _ _ above s.frames (opened c s.refs _ _ above r rs row_nests) f.known;
      before = before_pushed (here c s r rs).frame (level r) i _ _ _ (before_left i (level r) s.frames f.before);
      nests = and_right (arms_placed_row above r rs) _ f.nests;
    }

    -- its own four lines
    row_edges : edges_at i (walk c sp s i (r ∷ rs)) ≡ all_four (get_or ns i none)
    unfolding walk written next after
    row_edges =
        let b : Bool = splits_here sp (here c s r rs) r rs in
        let none_pending : pending i (left (level r) s.frames) ≡ [] = pending_none i i _ (omega arith) (before_left i (level r) s.frames f.before) in
        rw (
          row_number,
          edges_append,
          edges_append,
          closing_none i i (level r) s.frames (omega arith) f.before,
          edges_past i (next c sp s i r rs) (suc i) rs (omega arith),
          edges_row,
          pushed_own (here c s r rs).frame (level r) i (here c s r rs).outside s.match_split (left (level r) s.frames) b (arm_body_split s r rs) none_pending,
          eq-eqb i i refl,
        )
        (open_and_last b s.match_split)

  -- each row has the four lines of a closure with the rows' number, or none
  pub edges_walk : (ns : List (Option ℕ)) (j : ℕ) (s : State) (above : List Above) (i : ℕ) (rs : List Row) → Numbers ns sp above s i rs → i ≤ j → edges_at j (walk c sp s i rs) ≡ all_four (get_or ns j none)
  unfolding walk written split_numbers all_four
  edges_walk ns j s above i [] f h = rw (drop_none i j ns none f.rest h) (edges_end j s.frames ∙ pending_none i j s.frames h f.before)
  edges_walk ns j s above i (r ∷ rs) f h = go (eqb i j) refl (λ g. edges_walk ns j (next c sp s i r rs) _ (suc i) rs (row_numbers ns s above i r rs f) g)
    where
      go : (b : Bool) → eqb i j ≡ b → (i < j → edges_at j (walk c sp (next c sp s i r rs) (suc i) rs) ≡ all_four (get_or ns j none)) → edges_at j (walk c sp s i (r ∷ rs)) ≡ all_four (get_or ns j none)
      go true q ih = subst (λ (k : ℕ). edges_at k (walk c sp s i (r ∷ rs)) ≡ all_four (get_or ns k none)) (eqb-true i j q) (row_edges ns s above i r rs f)
      go false q ih =
          let d : i ≡ j → ⊥ = eqb-false i j q in
          rw (edges_append, edges_append, closing_none i j (level r) s.frames h f.before, edges_row_other j i _ (here c s r rs) _ d) (ih (strict i j h d))

edges_rowless : (j d : ℕ) (ls : List (List Piece)) → edges_at j (rowless d ls) ≡ []
unfolding edges_at edge_at rowless
edges_rowless j d [] = refl
edges_rowless j d (l ∷ ls) = edges_rowless j d ls

edges_signature : (j : ℕ) (env : Environment) (m : Term) → edges_at j (signature env m) ≡ []
unfolding signature
edges_signature j env m = rw (edges_append, edges_append, edges_rowless, edges_rowless, edges_rowless)

edges_last : (j : ℕ) (m : Term) (rs : List Row) → edges_at j (term_end m rs) ≡ []
unfolding term_end
edges_last j m rs = rw (edges_append, edges_rowless, edges_rowless)

pub start_numbers : (sp : ℕ → Bool) (env : Environment) (g : Generated) → arms_placed [] g.rows ≡ true → Numbers (split_numbers sp [] 0 g.rows) sp [] (start env g) 0 g.rows
unfolding start Known arms_above
start_numbers sp env g h = record { rest = refl; known = λ l e. absurd (omega arith); before = tt; nests = h }

-- The closures of a generated term's block: row j has the four lines, with its number, if it is a split arm, and none otherwise.
pub closures_of : (o : Options) (env : Environment) (g : Generated) (j : ℕ) → arms_placed [] g.rows ≡ true → edges_at j (term_parts o env g) ≡ all_four (get_or (split_numbers (splits o env g) [] 0 g.rows) j none)
unfolding term_parts
closures_of o env g j h =
    rw (edges_append, edges_append, edges_signature, edges_last, append-nil)
    (edges_walk (body_of o env g) (splits o env g) (split_numbers (splits o env g) [] 0 g.rows) j (start env g) [] 0 g.rows (start_numbers (splits o env g) env g h) (omega arith))
