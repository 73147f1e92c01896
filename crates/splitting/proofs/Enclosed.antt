-- A closure encloses its body: between its first line and its `false` line stand the parts of the rows below its arm.
use Prim.Native.Nat.{ℕ, suc, ◌+◌, ◌≤◌}
use Rattle.std.specs.Prelude.{◌≡◌, Bool, true, false, cond, ◌&&◌, ltb}
use Rattle.std.proofs.Math.Path.{refl, subst}
use Rattle.std.proofs.Common.{sym, ap, ◌∙◌, le-leb, lt-ltb, le-ltb}
use Rattle.std.proofs.Math.Option.{Option, some, none}
use mathlib.Core.List.{List, [], ◌∷◌, ◌++◌, append_assoc, append-nil}
use native.Mathlib.Omega.{arith}
use Rattle.std.proofs.Math.ListN.{length, get_or}
use Rattle.plan.specs.Plan.{Options, Environment, Generated, Term}
use Rattle.plan.specs.Row.{Row, level}
use Rattle.plan.specs.Lookup.{term_at}
use Rattle.codegen.specs.Piece.{Piece, unbrace}
use Rattle.codegen.specs.Block.{Body, words, opens, gives_false, ends, calls, Part, Purpose, one_arm, arms_of, arm_body, body, Frame, State, Own, closures, place, end_closure, catchall, end_block, closing, left, is_arm_body, numbered, pushed, open_closure, row_parts, after, here, splits_here, next, written, walk}
use Rattle.codegen.specs.Terms.{rowless, signature, term_end, body_of, start, splits, term_parts}
use Rattle.codegen.specs.Enclosing.{among, parts_among, closure_line, Encloses}
use Rattle.codegen.specs.TakeOff.{Above}
use Rattle.splitting.specs.Demand3.{rows_below, split_arms, number}
use Rattle.splitting.specs.Cases.{and_left, by_bool, by_leb, false_true, none_some}
use Rattle.splitting.specs.Owners.{arms_placed, drop_head}
use Rattle.splitting.specs.Closures.{split_numbers, Before, before_left, Numbers, row_split, row_numbers, start_numbers}
use Rattle.splitting.proofs.SplitArms.{block_numbers, closure_number}
use Rattle.splitting.proofs.Walk.{RowIs, Each, EachFrame, each_append, each_frame_end, each_place, each_closing, each_written, Below, Other, Cut, cut_walk}

-- WHICH PARTS ARE TAKEN

among_below : (j m : ℕ) (x : Option ℕ) → RowIs (Below j m) x → among (suc j) m x ≡ true
unfolding among
among_below j m none h = absurd h
among_below j m (some k) h = rw (le-leb (suc j) k (omega (arith, h.0)), lt-ltb k (suc j + m) h.1)

among_other : (j m : ℕ) (x : Option ℕ) → RowIs (Other j m) x → among (suc j) m x ≡ false
unfolding among
among_other j m none h = absurd h
among_other j m (some k) h = by_leb (λ b. b && ltb k (suc j + m) ≡ false) (suc j) k (λ g. le-ltb k (suc j + m) (h (omega arith))) (λ g. refl)

taken_append : (i m : ℕ) (ps qs : List Part) → parts_among i m (ps ++ qs) ≡ parts_among i m ps ++ parts_among i m qs
unfolding parts_among
taken_append i m [] qs = refl
taken_append i m (p ∷ ps) qs = by_bool (λ b. cond b (p ∷ parts_among i m (ps ++ qs)) (parts_among i m (ps ++ qs)) ≡ cond b (p ∷ parts_among i m ps) (parts_among i m ps) ++ parts_among i m qs) (among i m p.row) (ap (λ (x : List Part). p ∷ x) (taken_append i m ps qs)) (taken_append i m ps qs)

all_taken : (j m : ℕ) (ps : List Part) → Each (Below j m) ps → parts_among (suc j) m ps ≡ ps
unfolding parts_among
all_taken j m [] h = refl
all_taken j m (p ∷ ps) h = rw (among_below j m p.row h.0, all_taken j m ps h.1)

none_taken : (j m : ℕ) (ps : List Part) → Each (Other j m) ps → parts_among (suc j) m ps ≡ []
unfolding parts_among
none_taken j m [] h = refl
none_taken j m (p ∷ ps) h = rw (among_other j m p.row h.0, none_taken j m ps h.1)

rowless_taken : (i m d : ℕ) (ls : List (List Piece)) → parts_among i m (rowless d ls) ≡ []
unfolding parts_among among rowless
rowless_taken i m d [] = refl
rowless_taken i m d (l ∷ ls) = rowless_taken i m d ls

signature_taken : (i m : ℕ) (e : Environment) (t : Term) → parts_among i m (signature e t) ≡ []
unfolding signature
signature_taken i m e t = rw (taken_append, taken_append, rowless_taken, rowless_taken, rowless_taken)

end_taken : (i m : ℕ) (t : Term) (rs : List Row) → parts_among i m (term_end t rs) ≡ []
unfolding term_end
end_taken i m t rs = rw (taken_append, rowless_taken, rowless_taken)

-- FROM THE WALK TO THE STATEMENT

-- what the statement says of the walk, with the rows of what stands before and after
record Walked (j n m : ℕ) (ps : List Part) : Type 0 where
  before : List Part
  inside : List Part
  after : List Part
  base : ℕ
  around : ℕ
  is : ps ≡ before ++ (closure_line j base around opens ∷ inside ++ (closure_line j base (suc around) gives_false ∷ closure_line j base around ends ∷ closure_line j base around (calls n) ∷ after))
  others_before : Each (Other j m) before
  below : Each (Below j m) inside
  others_after : Each (Other j m) after

walked_more : (j n m : ℕ) (ps qs : List Part) → Each (Other j m) ps → Walked j n m qs → Walked j n m (ps ++ qs)
walked_more j n m ps qs h w = record {
  before = ps ++ w.before;
  inside = w.inside;
  after = w.after;
  base = w.base;
  around = w.around;
  is = rw (w.is, append_assoc);
  others_before = each_append (Other j m) ps w.before h w.others_before;
  below = w.below;
  others_after = w.others_after;
}

arm_frame : (x : Option Purpose) → is_arm_body x ≡ true → x ≡ some arm_body
arm_frame none h = false_true h
arm_frame (some one_arm) h = false_true h
arm_frame (some (arms_of q)) h = false_true h
arm_frame (some arm_body) h = refl
arm_frame (some body) h = false_true h

-- the frame of a split arm
abbrev arm_of : ℕ → ℕ → List Bool → ℕ → Frame
arm_of l i u n = record { level = l; row = i; purpose = arm_body; bound = u; closure = some n }

pushed_arm : (x : Option Purpose) (l i : ℕ) (u : List Bool) (b : Bool) (n : ℕ) (fs : List Frame) → is_arm_body x ≡ true → b ≡ true → pushed x l i u (numbered b n) fs ≡ arm_of l i u n ∷ fs
unfolding pushed
pushed_arm x l i u b n fs h g = rw (arm_frame x h, g)

opened_arm : (i : ℕ) (fs : List Frame) (b : Bool) → b ≡ true → open_closure i fs b ≡ closure_line i (suc (suc (length fs))) (closures fs) opens ∷ []
unfolding open_closure
opened_arm i fs b h = rw h

others_frames : (i j m : ℕ) (fs : List Frame) → i ≤ j → Before i fs → EachFrame (Other j m) fs
others_frames i j m [] k h = tt
others_frames i j m (f ∷ fs) k h = ((λ g. absurd (omega (arith, h.0))), others_frames i j m fs k h.1)

-- what is written for row i up to its closure's first line, and the walk from there on
arm_walked : (i n m : ℕ) (u : List Bool) (l : ℕ) (fs : List Frame) (ps qs : List Part) → Each (Other i m) ps → Cut i m (arm_of l i u n) fs qs → Walked i n m (ps ++ (closure_line i (suc (suc (length fs))) (closures fs) opens ∷ qs))
unfolding end_block end_closure
arm_walked i n m u l fs ps qs h q = record {
  before = ps;
  inside = q.inside;
  after = (catchall (arm_of l i u n) fs arm_body ++ place (some i) fs (words (unbrace ∷ []) ∷ [])) ++ q.rest;
  base = suc (suc (length fs));
  around = closures fs;
  is = rw q.is;
  others_before = h;
  below = q.below;
  others_after = each_append (Other i m) (catchall (arm_of l i u n) fs arm_body ++ place (some i) fs (words (unbrace ∷ []) ∷ [])) q.rest (each_frame_end (Other i m) (arm_of l i u n) fs (words (unbrace ∷ []) ∷ []) (λ g. absurd (omega arith))) q.other;
}

module _ (c : Body) (sp : ℕ → Bool) where
  next_frames : (s : State) (i : ℕ) (r : Row) (rs : List Row) → splits_here sp (here c s r rs) r rs ≡ true → (next c sp s i r rs).frames ≡ arm_of (level r) i (here c s r rs).outside s.match_split ∷ left (level r) s.frames
  unfolding next after splits_here
  next_frames s i r rs h = pushed_arm (here c s r rs).frame (level r) i _ _ _ _ (and_left (is_arm_body (here c s r rs).frame) _ h) h

  at_arm : (s : State) (i : ℕ) (r : Row) (rs : List Row) → Before i s.frames → splits_here sp (here c s r rs) r rs ≡ true → Walked i s.match_split (length (rows_below (level r) rs)) (walk c sp s i (r ∷ rs))
  unfolding walk written row_parts
  at_arm s i r rs b h =
      let m : ℕ = length (rows_below (level r) rs) in
      let fs : List Frame = left (level r) s.frames in
      let o : Own = here c s r rs in
      let ps : List Part = closing (level r) s.frames ++ place (some i) fs o.lines in
      let bs : EachFrame (Other i m) fs = others_frames i i m fs (omega arith) (before_left i (level r) s.frames b) in
      let q : Cut i m (arm_of (level r) i o.outside s.match_split) fs (walk c sp (next c sp s i r rs) (suc i) rs) = cut_walk c sp i m (arm_of (level r) i o.outside s.match_split) fs bs (next c sp s i r rs) (suc i) rs [] (next_frames s i r rs h) tt tt (omega arith) refl in
      let e : (ps ++ (closure_line i (suc (suc (length fs))) (closures fs) opens ∷ walk c sp (next c sp s i r rs) (suc i) rs)) ≡ walk c sp s i (r ∷ rs) = rw (opened_arm i fs (splits_here sp o r rs) h) (simp append_assoc) in
      subst (Walked i s.match_split m) e
      (arm_walked i s.match_split m o.outside (level r) fs ps _
      (each_append (Other i m) (closing (level r) s.frames) _ (each_closing (Other i m) (level r) s.frames (others_frames i i m s.frames (omega arith) b)) (each_place (Other i m) i fs o.lines (λ g. absurd (omega arith)))) q)

  numbered_some : (b : Bool) (k n : ℕ) → numbered b k ≡ some n → (b ≡ true) × (k ≡ n)
  numbered_some true k n h = (refl, cc)
  numbered_some false k n h = none_some h

  module _ (ns : List (Option ℕ)) (r : Row) (later : List Row) (n : ℕ) where
    abbrev m : ℕ
    m = length (rows_below (level r) later)

    arm_number : (s : State) (above : List Above) (i : ℕ) → Numbers ns sp above s i (r ∷ later) → get_or ns i none ≡ numbered (splits_here sp (here c s r later) r later) s.match_split
    unfolding split_numbers
    arm_number s above i f = drop_head none i ns _ _ f.rest ∙ rw (row_split c sp ns s above i r later f)

    arm_encloses : (s : State) (above : List Above) (i : ℕ) → Numbers ns sp above s i (r ∷ later) → get_or ns i none ≡ some n → Walked i n m (walk c sp s i (r ∷ later))
    arm_encloses s above i f h =
        let q : (splits_here sp (here c s r later) r later ≡ true) × (s.match_split ≡ n) = numbered_some _ _ _ (sym (arm_number s above i f) ∙ h) in
        subst (λ (k : ℕ). Walked i k m (walk c sp s i (r ∷ later))) q.1 (at_arm s i r later f.before q.0)

    walk_encloses : (s : State) (above : List Above) (i j : ℕ) (earlier : List Row) → Numbers ns sp above s i (earlier ++ (r ∷ later)) → i + length earlier ≡ j → get_or ns j none ≡ some n → Walked j n m (walk c sp s i (earlier ++ (r ∷ later)))
    unfolding walk
    walk_encloses s above i j [] f e h =
        let q : i ≡ j = omega arith in
        subst (λ (k : ℕ). get_or ns k none ≡ some n → Walked k n m (walk c sp s i (r ∷ later))) q (arm_encloses s above i f) h
    walk_encloses s above i j (x ∷ earlier) f e h =
        walked_more j n m (written c sp s i x (earlier ++ (r ∷ later))) _
        (each_written (Other j m) c sp s i x (earlier ++ (r ∷ later)) (others_frames i j m s.frames (omega arith) f.before) (λ g. absurd (omega arith)))
        (walk_encloses (next c sp s i x (earlier ++ (r ∷ later))) _ (suc i) j earlier (row_numbers c sp ns s above i x (earlier ++ (r ∷ later)) f) (omega arith) h)

-- what is taken of the walk
inside_taken : (j n m : ℕ) {ps : List Part} (w : Walked j n m ps) → parts_among (suc j) m (w.before ++ (closure_line j w.base w.around opens ∷ w.inside ++ (closure_line j w.base (suc w.around) gives_false ∷ closure_line j w.base w.around ends ∷ closure_line j w.base w.around (calls n) ∷ w.after))) ≡ w.inside
inside_taken j n m w =
    let line : Other j m j = λ g. absurd (omega arith) in
    taken_append (suc j) m w.before _
    ∙ rw (none_taken j m w.before w.others_before)
    (taken_append (suc j) m (closure_line j w.base w.around opens ∷ []) _
    ∙ rw (none_taken j m (closure_line j w.base w.around opens ∷ []) (line, tt))
    (taken_append (suc j) m w.inside _
    ∙ rw (all_taken j m w.inside w.below, none_taken j m (closure_line j w.base (suc w.around) gives_false ∷ closure_line j w.base w.around ends ∷ closure_line j w.base w.around (calls n) ∷ w.after) (line, (line, (line, w.others_after)))) (append-nil _)))

-- of a term's parts, those before and after the walk have no row
encloses : (j n m : ℕ) (ps qs rs : List Part) → parts_among (suc j) m ps ≡ [] → parts_among (suc j) m rs ≡ [] → Walked j n m qs → Encloses j n m (ps ++ (qs ++ rs))
encloses j n m ps qs rs h k w = record {
  before = ps ++ w.before;
  after = w.after ++ rs;
  base = w.base;
  around = w.around;
  is =
      let e : parts_among (suc j) m (ps ++ (qs ++ rs)) ≡ w.inside = taken_append (suc j) m ps (qs ++ rs) ∙ rw (h, taken_append, k, append-nil) (ap (parts_among (suc j) m) w.is ∙ inside_taken j n m w) in
      rw e (rw w.is (simp append_assoc));
}

pub term_encloses : (o : Options) (e : Environment) (g : Generated) (earlier later : List Row) (r : Row) → g.rows ≡ earlier ++ (r ∷ later) → arms_placed [] g.rows ≡ true → get_or (split_arms o e g) (length earlier) false ≡ true
    → Encloses (length earlier) (number (split_arms o e g) (length earlier)) (length (rows_below (level r) later)) (term_parts o e g)
unfolding term_parts
term_encloses o e g earlier later r q h k =
    let j : ℕ = length earlier in
    let m : ℕ = length (rows_below (level r) later) in
    let arms : List Bool = split_arms o e g in
    let sp : ℕ → Bool = splits o e g in
    let ns : List (Option ℕ) = split_numbers sp [] 0 g.rows in
    let n : get_or ns j none ≡ some (number arms j) = ap (λ (x : List (Option ℕ)). get_or x j none) (block_numbers o e g h) ∙ closure_number j arms ∙ ap (λ (b : Bool). numbered b (number arms j)) k in
    let f : Numbers ns sp [] (start e g) 0 (earlier ++ (r ∷ later)) = subst (Numbers ns sp [] (start e g) 0) q (start_numbers sp e g h) in
    encloses j (number arms j) m (signature e (term_at e g.term)) (walk (body_of o e g) sp (start e g) 0 g.rows) (term_end (term_at e g.term) g.rows)
    (signature_taken (suc j) m e _) (end_taken (suc j) m _ _)
    (subst (λ (rs : List Row). Walked j (number arms j) m (walk (body_of o e g) sp (start e g) 0 rs)) (sym q) (walk_encloses (body_of o e g) sp ns r later (number arms j) (start e g) [] 0 j earlier f (omega arith) n))
