-- Block by block: a writer that calls itself for the rows below a row writes what the walk writes.
use Prim.Native.Nat.{ℕ, zero, suc, ◌<◌, ◌≤◌}
use Rattle.std.specs.Prelude.{◌≡◌, refl, Bool, cond, length, leb}
use Rattle.std.proofs.Common.{sym, ◌∙◌, arith, le-leb}
use Rattle.std.proofs.Math.Path.{ap, subst}
use Rattle.std.proofs.Math.Option.{Option, some, none}
use mathlib.Core.List.{List, [], ◌∷◌, ◌++◌, append_assoc, append-nil}
use Rattle.plan.specs.Row.{Row, level}
use Rattle.codegen.specs.Block.{Body, Part, Purpose, Frame, State, closing, left, row_parts, pushed, after, walk}
use Rattle.splitting.specs.Cases.{by_leb}
use Rattle.splitting.specs.Continue.{settled, NotDeeper, Inside, inside_left, settle_walk, row_own, row_splits, row_after, row_walk}

-- what is written, and where the writing goes on
pub record Run : Type 0 where
  pub parts : List Part
  pub state : State
  pub at : ℕ
  pub rows : List Row

-- the rows of level l and deeper that come first, k at least their number
unfoldable pub block : Body → (ℕ → Bool) → ℕ → ℕ → State → ℕ → List Row → Run
block c sp zero l s i rs = record { parts = []; state = s; at = i; rows = rs }
block c sp (suc k) l s i [] = record { parts = []; state = s; at = i; rows = [] }
block c sp (suc k) l s i (r ∷ rs) =
    let below = block c sp k (suc (level r)) (row_after c sp s i r rs) (suc i) rs in
    let more = block c sp k l (settled (level r) below.state) below.at below.rows in
    let all : Run = record { parts = row_parts i s.frames (row_own c sp s i r rs) (row_splits c sp s i r rs) ++ (below.parts ++ (closing (level r) below.state.frames ++ more.parts)); state = more.state; at = more.at; rows = more.rows } in
    cond (leb l (level r)) all (record { parts = []; state = s; at = i; rows = r ∷ rs })

-- the next row is less deep than l
abbrev pub Shallow : ℕ → List Row → Type 0
Shallow l [] = Unit
Shallow l (r ∷ rs) = level r < l

pub record Done (c : Body) (sp : ℕ → Bool) (l : ℕ) (s : State) (i : ℕ) (rs : List Row) (b : Run) : Type 0 where
  pub same : walk c sp s i rs ≡ b.parts ++ walk c sp b.state b.at b.rows
  pub frames : b.state.frames ≡ s.frames
  pub short : length b.rows ≤ length rs
  pub out : Shallow l b.rows

shallow_deeper : (l : ℕ) (rs : List Row) → Shallow (suc l) rs → NotDeeper l rs
shallow_deeper l [] h = tt
shallow_deeper l (r ∷ rs) h = omega arith

left_pushed : (x : Option Purpose) (l i : ℕ) (u : List Bool) (k : Option ℕ) (fs : List Frame) → Inside l fs → left l (pushed x l i u k fs) ≡ fs
unfolding left pushed
left_pushed none l i u k fs h = inside_left l fs h
left_pushed (some p) l i u k fs h = rw (le-leb l l (omega arith)) (inside_left l fs h)

inside_more : (l m : ℕ) (fs : List Frame) → l ≤ m → Inside l fs → Inside m fs
inside_more l m [] g h = tt
inside_more l m (f ∷ fs) g h = omega arith

inside_pushed : (x : Option Purpose) (l i : ℕ) (u : List Bool) (k : Option ℕ) (fs : List Frame) → Inside l fs → Inside (suc l) (pushed x l i u k fs)
unfolding pushed
inside_pushed none l i u k fs h = inside_more l (suc l) fs (omega arith) h
inside_pushed (some p) l i u k fs h = omega arith

regroup : (a b c d w : List Part) → a ++ (b ++ (c ++ (d ++ w))) ≡ (a ++ (b ++ (c ++ d))) ++ w
regroup a b c d w = simp append_assoc

module _ (c : Body) (sp : ℕ → Bool) where
  inside_row : (l : ℕ) (s : State) (i : ℕ) (r : Row) (rs : List Row) → l ≤ level r → Inside l s.frames → Inside (suc (level r)) (row_after c sp s i r rs).frames
  unfolding after
  inside_row l s i r rs h g = inside_pushed _ (level r) i _ _ s.frames (inside_more l (level r) s.frames h g)

  inside_settled : (l : ℕ) (s : State) (i : ℕ) (r : Row) (rs : List Row) (below : Run) → l ≤ level r → Inside l s.frames → Done c sp (suc (level r)) (row_after c sp s i r rs) (suc i) rs below → Inside l (settled (level r) below.state).frames
  unfolding settled after
  inside_settled l s i r rs below h g d = subst (λ (fs : List Frame). Inside l fs) (sym (ap (left (level r)) d.frames ∙ left_pushed _ (level r) i _ _ s.frames (inside_more l (level r) s.frames h g))) g

  -- a row of the block, the rows below it and the rest of the block
  row_done : (l : ℕ) (s : State) (i : ℕ) (r : Row) (rs : List Row) (below more : Run) → l ≤ level r → Inside l s.frames
      → Done c sp (suc (level r)) (row_after c sp s i r rs) (suc i) rs below
      → Done c sp l (settled (level r) below.state) below.at below.rows more
      → Done c sp l s i (r ∷ rs) (record { parts = row_parts i s.frames (row_own c sp s i r rs) (row_splits c sp s i r rs) ++ (below.parts ++ (closing (level r) below.state.frames ++ more.parts)); state = more.state; at = more.at; rows = more.rows })
  unfolding settled after
  row_done l s i r rs below more h g d e =
      let g' : Inside (level r) s.frames = inside_more l (level r) s.frames h g in
      record {
        same = row_walk c sp s i r rs g' ∙ ap (λ (x : List Part). row_parts i s.frames (row_own c sp s i r rs) (row_splits c sp s i r rs) ++ x)
            (d.same ∙ ap (λ (x : List Part). below.parts ++ x) (settle_walk c sp (level r) below.state below.at below.rows (shallow_deeper (level r) below.rows d.out)
            ∙ ap (λ (x : List Part). closing (level r) below.state.frames ++ x) e.same))
            ∙ regroup (row_parts i s.frames (row_own c sp s i r rs) (row_splits c sp s i r rs)) below.parts (closing (level r) below.state.frames) more.parts _;
        frames = e.frames ∙ ap (left (level r)) d.frames ∙ left_pushed _ (level r) i _ _ s.frames g';
        short = omega (arith, d.short, e.short);
        out = e.out;
      }

  pub block_done : (k l : ℕ) (s : State) (i : ℕ) (rs : List Row) → length rs ≤ k → Inside l s.frames → Done c sp l s i rs (block c sp k l s i rs)
  unfolding block
  block_done zero l s i [] h g = record { same = refl; frames = refl; short = omega arith; out = tt }
  block_done zero l s i (r ∷ rs) h g = absurd (omega arith)
  block_done (suc k) l s i [] h g = record { same = refl; frames = refl; short = omega arith; out = tt }
  block_done (suc k) l s i (r ∷ rs) h g =
      let below : Run = block c sp k (suc (level r)) (row_after c sp s i r rs) (suc i) rs in
      let more : Run = block c sp k l (settled (level r) below.state) below.at below.rows in
      let all : Run = record { parts = row_parts i s.frames (row_own c sp s i r rs) (row_splits c sp s i r rs) ++ (below.parts ++ (closing (level r) below.state.frames ++ more.parts)); state = more.state; at = more.at; rows = more.rows } in
      by_leb (λ b. Done c sp l s i (r ∷ rs) (cond b all (record { parts = []; state = s; at = i; rows = r ∷ rs }))) l (level r)
      (λ u.
      let d : Done c sp (suc (level r)) (row_after c sp s i r rs) (suc i) rs below = block_done k (suc (level r)) (row_after c sp s i r rs) (suc i) rs (omega arith) (inside_row l s i r rs u g) in
      row_done l s i r rs below more u g d (block_done k l (settled (level r) below.state) below.at below.rows (omega (arith, d.short)) (inside_settled l s i r rs below u g d)))
      (λ u. record { same = refl; frames = refl; short = omega arith; out = u })

  walk_nothing : (s : State) (i : ℕ) (rs : List Row) → Shallow 0 rs → s.frames ≡ [] → walk c sp s i rs ≡ []
  unfolding walk closing
  walk_nothing s i [] h e = rw e
  walk_nothing s i (r ∷ rs) h e = absurd (omega arith)

  -- the whole block, from no frame on
  pub block_whole : (s : State) (rs : List Row) → s.frames ≡ [] → walk c sp s 0 rs ≡ (block c sp (length rs) 0 s 0 rs).parts
  block_whole s rs e =
      let d : Done c sp 0 s 0 rs (block c sp (length rs) 0 s 0 rs) = block_done (length rs) 0 s 0 rs (omega arith) (rw e tt) in
      let b : Run = block c sp (length rs) 0 s 0 rs in
      d.same ∙ ap (λ (x : List Part). b.parts ++ x) (walk_nothing b.state b.at b.rows d.out (d.frames ∙ e)) ∙ append-nil b.parts
