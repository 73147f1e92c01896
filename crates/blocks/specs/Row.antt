-- What the functions for one row of a block do. Assumes nothing.
use Rattle.std.specs.Prelude as code
use Rattle.std.specs.Prelude.{ℕ, ◌+◌, ◌≤◌, ◌<◌, ◌≡◌, Bool, true, false, ◌&&◌, ltb, leb, min, List, drop}
use Rattle.std.proofs.Math.Path.{refl, sym}
use Rattle.std.proofs.Common.{ap, subst, ◌∙◌, add-one, append_assoc, leb-true, leb-false, arith}
use Rattle.std.proofs.Math.Option.{Option, some, none}
use Rattle.text.specs.Writes.{SameSink, Writes, writes_nil}
use Rattle.text.specs.declared.sink.Sink.{Sink}
use Rattle.plan.specs.Row.{Row, level}
use Rattle.codegen.specs.Writer.{Marks}
use Rattle.codegen.specs.Block as block
use Rattle.codegen.specs.Block.{Own, Purpose, Frame, lets, emit_check, emit_arm, own, is_arm_body, row_parts, block_weight}
use Rattle.rows.specs.View.{nth, patterns_in, block_of}
use Rattle.view.specs.Told.{control_flow_of, constraint_of}
use Rattle.emits.specs.Marks.{set_of}
use Rattle.context.specs.Closing.{opening_text}
use Rattle.context.specs.Laws.{opening_is, opening_odds}
use Rattle.context.specs.declared.body_context.Nesting.{Nesting}
use Rattle.context.specs.declared.body_context.BodyContext.{BodyContext}
use Rattle.view.specs.BlockRows.{level_is, step_is, arm_is}
use Rattle.row_frames.specs.Rows.{rows_none}
use Rattle.row_frames.specs.Told.{purpose_told}
use Rattle.body.specs.declared.Body.{Body}
use Rattle.body.specs.Told.{env_in, row_in, rows_in, body_told, splits_above, Fits, StandsAt, StandsIn}
use Rattle.body.specs.Leads.{place_append}
use Rattle.body.specs.Lines.{Leads, ◌⟫ₗ◌, leads_same, leads_text, lines_none}
use Rattle.body.specs.Own.{WritesOwn, lets_own}
use Rattle.blocks.specs.declared.row.Opened.{Opened}
use Rattle.blocks.specs.Own.{bind_order, check, check_restores, joined, own_joined}

-- which frame a row opens, and whether it has a closure
abbrev pub frame_of : code.Option Opened → Option Purpose
frame_of code.None = none
frame_of (code.Some o) = some (purpose_told o.purpose)

abbrev pub splits_of : code.Option Opened → Bool
splits_of code.None = false
splits_of (code.Some o) = o.splits

-- the weights that split, in code: none, or those above a threshold
pub record Splitting (sp : ℕ → Bool) (threshold : code.Option ℕ) : Type 0 where
  pub is : (w : ℕ) → sp w ≡ splits_above threshold w

-- of row r and a `Body` of the definition, inside a frame of the purpose p, where the bindings of `bound` have names: its lets; its check,
-- or the arm that it is; both
abbrev pub lets_in : Body → Marks → ℕ → block.Body → Marks → Own
lets_in b bound r = λ c q. lets_own (lets c (bind_order (block_of (row_in b r))) q bound)

abbrev pub check_in : Body → Marks → Purpose → ℕ → ℕ → block.Body → Marks → Own
check_in b bound p r last = λ c q. check c q bound p (block_of (row_in b r)) (rows_in b last (r + 1))

abbrev pub own_in : Body → Marks → Purpose → ℕ → ℕ → block.Body → Marks → Own
own_in b bound p r last = λ c q. own c q bound p (block_of (row_in b r)) (rows_in b last (r + 1))

-- how much the rows below row r weigh
abbrev pub weight_in : Body → ℕ → ℕ → ℕ
weight_in b r last = block_weight (level (block_of (row_in b r))) (rows_in b last (r + 1))

-- a number past the last row that can't count one more is as good as one more
pub weight_is : (b : Body) (r last : ℕ) {n k : ℕ} → last < 18446744073709551616 → n ≡ min (r + 1) 18446744073709551615 → k ≡ block_weight (nth (row_in b r) 0) (rows_in b last n) → k ≡ weight_in b r last
weight_is b r last {n} {k} h g e = e ∙ rw (level_is (row_in b r)) (ap (block_weight (nth (row_in b r) 0)) (by_test (leb last r) refl))
  where
    by_test : (x : Bool) → leb last r ≡ x → rows_in b last n ≡ rows_in b last (r + 1)
    by_test true q = let l : last ≤ r = leb-true last r q in rw (rows_none b.bindings.plan.now.words.now b.bindings.plan.now.rows.now n last (omega arith), rows_none b.bindings.plan.now.words.now b.bindings.plan.now.rows.now (r + 1) last (omega arith))
    by_test false q = let l : r < last = leb-false last r q in let m : n ≡ r + 1 = omega arith in rw m

-- From the sink w and the state s, what a row's `o` says of the body leads to w' and s': its lines, and the opening of its closure if it
-- splits, are written inside the frames around. That the lent buffer and the room are the same, which frame it opens, whether that splits,
-- by its weight, and which bindings have names after it, hold wherever the writing is, the frame and the names for every `Body` of the
-- definition.
pub record WritesRow (b : Body) (o : block.Body → Marks → Own) (weight : ℕ) (w : Sink) (s : BodyContext) (opens : Option Purpose) (splits : Bool) (w' : Sink) (s' : BodyContext) : Type 0 where
  pub same : SameSink w w'
  pub parts : Fits b → (i : ℕ) (fs : List Frame) → StandsIn s.nesting fs → Leads (env_in b) (λ r. row_parts i fs (o (body_told b) r) splits) (λ r. (o (body_told b) r).refs) w (set_of s.is_ref) w' (set_of s'.is_ref)
  pub frame : (c : block.Body) (r : Marks) → opens ≡ (o c r).frame
  pub bound : (c : block.Body) (r : Marks) → set_of s'.is_bound ≡ (o c r).bound
  pub nesting : s'.nesting ≡ s.nesting
  pub weighs : (sp : ℕ → Bool) → Splitting sp b.threshold → splits ≡ is_arm_body opens && sp weight

-- Row r, inside a frame of the purpose p, writes its own; unless it is a `return`, which opens no frame, `kept` is the bindings that have
-- names where its frame closes.
pub record RowKept (b : Body) (p : Purpose) (r last : ℕ) (w : Sink) (s : BodyContext) (opens : Option Purpose) (splits : Bool) (w' : Sink) (s' : BodyContext) (kept : List Bool) : Type 0 where
  pub row : WritesRow b (own_in b (set_of s.is_bound) p r last) (weight_in b r last) w s opens splits w' s'
  pub scope : List Bool
  pub saved : (nth (row_in b r) 1 ≡ 3 → ⊥) → kept ≡ scope
  pub outside : (c : block.Body) (q : Marks) → (own_in b (set_of s.is_bound) p r last c q).outside ≡ set_of scope

-- A STEP AND AN ARM

module _ (b : Body) (r : ℕ) (bound : List Bool) {w : Sink} {refs : List Bool} {w' : Sink} {refs' bound' : List Bool} where
  pub step_lets : {d : ℕ} → d < 4095 → ltb (nth (row_in b r) 1) 4 ≡ true
      → WritesOwn (d < 4294967296) b (StandsAt d) (λ c q. lets_own (lets c (drop 7 (row_in b r)) q (set_of bound))) w refs none w' refs' bound'
      → WritesOwn (Unit {0}) b (StandsAt d) (lets_in b (set_of bound) r) w refs none w' refs' bound'
  unfolding bind_order
  step_lets {d} g h u =
      subst (λ (x : Row). WritesOwn (Unit {0}) b (StandsAt d) (λ c q. lets_own (lets c (bind_order x) q (set_of bound))) w refs none w' refs' bound') (sym (step_is (row_in b r) h))
      (record { same = u.same; lines = λ t. u.lines (omega arith); frame = u.frame; bound = u.bound })

  pub step_check : (last : ℕ) (p : Purpose) {opens : Option Purpose} {n : Nesting} → n.depth < 4095 → ltb (nth (row_in b r) 1) 4 ≡ true
      → WritesOwn (n.depth < 4294967296) b (StandsIn n) (λ c q. emit_check c q (set_of bound) (nth (row_in b r) 0) (control_flow_of (row_in b r)) (rows_in b last (r + 1))) w refs opens w' refs' bound'
      → WritesOwn (Unit {0}) b (StandsIn n) (check_in b (set_of bound) p r last) w refs opens w' refs' bound'
  unfolding check
  step_check last p {opens} {n} g h u =
      subst (λ (x : Row). WritesOwn (Unit {0}) b (StandsIn n) (λ c q. check c q (set_of bound) p x (rows_in b last (r + 1))) w refs opens w' refs' bound') (sym (step_is (row_in b r) h))
      (record { same = u.same; lines = λ t. u.lines (omega arith); frame = u.frame; bound = u.bound })

  pub arm_check : (last : ℕ) (p : Purpose) {opens : Option Purpose} {n : Nesting} → ltb (nth (row_in b r) 1) 4 ≡ false
      → WritesOwn (Unit {0}) b (StandsAt n.depth) (λ c q. emit_arm c q (set_of bound) p (constraint_of (row_in b r)) (patterns_in (drop 7 (row_in b r)))) w refs opens w' refs' bound'
      → WritesOwn (Unit {0}) b (StandsIn n) (check_in b (set_of bound) p r last) w refs opens w' refs' bound'
  unfolding check
  arm_check last p {opens} {n} h u =
      subst (λ (x : Row). WritesOwn (Unit {0}) b (StandsIn n) (λ c q. check c q (set_of bound) p x (rows_in b last (r + 1))) w refs opens w' refs' bound') (sym (arm_is (row_in b r) h))
      (record { same = u.same; lines = λ t f i fs s. u.lines t f i fs s.depth; frame = u.frame; bound = u.bound })

pub arm_lets : (b : Body) (r : ℕ) {d : ℕ} {w : Sink} {refs bound : List Bool} → ltb (nth (row_in b r) 1) 4 ≡ false → WritesOwn (Unit {0}) b (StandsAt d) (lets_in b (set_of bound) r) w refs none w refs bound
unfolding bind_order lets
arm_lets b r {d} {w} {refs} {bound} h =
    subst (λ (x : Row). WritesOwn (Unit {0}) b (StandsAt d) (λ c q. lets_own (lets c (bind_order x) q (set_of bound))) w refs none w refs bound) (sym (arm_is (row_in b r) h))
    (record { same = (refl, refl, refl); lines = λ t f i fs k. lines_none; frame = λ c q. refl; bound = λ c q. refl })

-- ONE AFTER THE OTHER

-- what is written, then the opening of its closure
pub ends_row : {b : Body} {o : block.Body → Marks → Own} {weight : ℕ} {w : Sink} {s : BodyContext} {opens : Option Purpose} {w₁ : Sink} {w' : Sink} {s' : BodyContext} (splits : Bool)
    → WritesOwn (Unit {0}) b (StandsIn s.nesting) o w s.is_ref opens w₁ s'.is_ref s'.is_bound → s'.nesting ≡ s.nesting → ((sp : ℕ → Bool) → Splitting sp b.threshold → splits ≡ is_arm_body opens && sp weight) → Writes (opening_text (s.nesting.depth + 1) splits) w₁ w'
    → WritesRow b o weight w s opens splits w' s'
unfolding row_parts
ends_row {b} {s = s} splits u n v x = record {
  same = (x.buffer ∙ u.same.0, x.size ∙ u.same.1, x.end ∙ u.same.2);
  parts = λ f i fs k. (u.lines tt f i fs k).is ⟫ₗ leads_text (opening_odds i fs splits) (rw (opening_is (env_in b) fs i splits, ← k.depth, ← add-one) x);
  frame = u.frame;
  bound = u.bound;
  nesting = n;
  weighs = v;
}

-- what opens no frame has no closure
pub ends_none : {b : Body} {o : block.Body → Marks → Own} {weight : ℕ} {w : Sink} {s : BodyContext} {w' : Sink} {s' : BodyContext}
    → WritesOwn (Unit {0}) b (StandsIn s.nesting) o w s.is_ref none w' s'.is_ref s'.is_bound → s'.nesting ≡ s.nesting → WritesRow b o weight w s none false w' s'
unfolding opening_text
ends_none u n = ends_row false u n (λ sp k. refl) writes_nil

-- a row's lets, then what comes after them
module _ {b : Body} (p : Purpose) (r last : ℕ) {w : Sink} {s : BodyContext} {w₁ : Sink} {s₁ : BodyContext} {opens : Option Purpose} {splits : Bool} {w' : Sink} {s' : BodyContext}
    (u : WritesOwn (Unit {0}) b (StandsIn s.nesting) (lets_in b (set_of s.is_bound) r) w s.is_ref none w₁ s₁.is_ref s₁.is_bound) (n : s₁.nesting ≡ s.nesting) (v : WritesRow b (check_in b (set_of s₁.is_bound) p r last) (weight_in b r last) w₁ s₁ opens splits w' s') where
  writes_row : WritesRow b (own_in b (set_of s.is_bound) p r last) (weight_in b r last) w s opens splits w' s'
  unfolding joined row_parts
  writes_row =
      let row = block_of (row_in b r) in
      let rs = rows_in b last (r + 1) in
      record {
        same = (v.same.0 ∙ u.same.0, v.same.1 ∙ u.same.1, v.same.2 ∙ u.same.2);
        parts = λ f i fs k. leads_same
            (rw (own_joined (body_told b) (set_of s.is_ref) (set_of s.is_bound) p row rs, place_append, append_assoc, ← u.bound (body_told b) (set_of s.is_ref)))
            (rw (own_joined (body_told b) (set_of s.is_ref) (set_of s.is_bound) p row rs, ← u.bound (body_told b) (set_of s.is_ref)))
            ((u.lines tt f i fs k).is ⟫ₗ v.parts f i fs (rw n k));
        frame = λ c q. rw (own_joined c q (set_of s.is_bound) p row rs, ← u.bound c q) (v.frame c (lets c (bind_order row) q (set_of s.is_bound)).refs);
        bound = λ c q. rw (own_joined c q (set_of s.is_bound) p row rs, ← u.bound c q) (v.bound c (lets c (bind_order row) q (set_of s.is_bound)).refs);
        nesting = v.nesting ∙ n;
        weighs = v.weighs;
      }

  pub row_kept : {kept : List Bool} → ((nth (row_in b r) 1 ≡ 3 → ⊥) → kept ≡ s₁.is_bound) → RowKept b p r last w s opens splits w' s' kept
  unfolding joined
  row_kept k = record {
    row = writes_row;
    scope = s₁.is_bound;
    saved = k;
    outside = λ c q. rw (own_joined c q (set_of s.is_bound) p (block_of (row_in b r)) (rows_in b last (r + 1))) (check_restores c _ _ p (block_of (row_in b r)) (rows_in b last (r + 1)) ∙ sym (u.bound c q));
  }
