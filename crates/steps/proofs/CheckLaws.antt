-- What a step and an arm give, kind by kind. Assumes nothing.
use Rattle.std.specs.Prelude.{◌≡◌, refl, ℕ, ◌+◌, ◌*◌, ◌<◌, Bool, true, false, cond, List, [], ◌∷◌, eqb, leb, ltb}
use Rattle.std.proofs.Common.{sym, ap, ◌∙◌, eqb-true, leb-true, leb-false, arith}
use Rattle.std.proofs.Math.Option.{Option, some, none}
use Rattle.text.specs.Sink.{spaces}
use Rattle.text.specs.Writes.{Writes}
use Rattle.text.specs.declared.sink.Sink.{Sink}
use Rattle.plan.specs.Constraint.{Constraint}
use Rattle.plan.specs.Row.{Row, step, arm, Match}
use Rattle.codegen.specs.Writer.{Marks, Writer, said}
use Rattle.codegen.specs.Pattern.{bind_all}
use Rattle.codegen.specs.Block as block
use Rattle.codegen.specs.Block.{Purpose, one_arm, arms_of, Own, Frame, arm_count, one_arm_head, match_head, opening, nothing_written, loop_head, matching, emit_check}
use Rattle.codegen.specs.Piece.{odd_piece, odd_pieces}
use Rattle.rows.specs.View.{nth}
use Rattle.view.specs.Told.{constraint_of}
use Rattle.emits.specs.Marks.{set_of}
use Rattle.context.specs.declared.body_context.Nesting.{Nesting}
use Rattle.row_frames.specs.Arms.{arms_in}
use Rattle.row_frames.specs.Rows.{rows_next}
use Rattle.row_frames.specs.declared.Arms.TheVariants.{Absent, One, Several}
use Rattle.row_frames.proofs.Laws.{arms_absent, arms_step}
use Rattle.view.specs.BlockRows.{arm_is}
use Rattle.body.specs.declared.Body.{Body}
use Rattle.body.specs.Told.{row_in, pattern_in, rows_in, body_told, StandsAt, StandsIn}
use Rattle.body.specs.Own.{WritesOwn}
use Rattle.body.specs.Lines.{lines_none, lines_same, lines_words}
use Rattle.body.specs.Words.{WritesWords, line_sink}

-- WHAT A ROW WRITES, from what it is

module _ {deep : Type 0} {b : Body} {inside : List Frame → Type 0} {w : Sink} {refs : List Bool} {opens : Option Purpose} {w' : Sink} {refs' bound' : List Bool} where
  pub own_same : {u v : block.Body → Marks → Own} → ((c : block.Body) (x : Marks) → u c x ≡ v c x) → WritesOwn deep b inside v w refs opens w' refs' bound' → WritesOwn deep b inside u w refs opens w' refs' bound'
  own_same h p = record {
    same = p.same;
    lines = λ d f i fs x. lines_same (sym (ap (λ (o : Own). o.lines) (h (body_told b) (set_of refs)))) (sym (ap (λ (o : Own). o.refs) (h (body_told b) (set_of refs)))) (p.lines d f i fs x);
    frame = λ c x. p.frame c x ∙ sym (ap (λ (o : Own). o.frame) (h c x));
    bound = λ c x. p.bound c x ∙ sym (ap (λ (o : Own). o.bound) (h c x));
  }

  -- lines that are not too deep here are not too deep there
  pub own_deep : {deep' : Type 0} {u : block.Body → Marks → Own} → (deep' → deep) → WritesOwn deep b inside u w refs opens w' refs' bound' → WritesOwn deep' b inside u w refs opens w' refs' bound'
  own_deep h p = record { same = p.same; lines = λ d. p.lines (h d); frame = p.frame; bound = p.bound }

-- a line of a nesting's depth is one of the nesting
pub own_nested : {deep : Type 0} {b : Body} {n : Nesting} {u : block.Body → Marks → Own} {w : Sink} {refs : List Bool} {opens : Option Purpose} {w' : Sink} {refs' bound' : List Bool}
    → WritesOwn deep b (StandsAt n.depth) u w refs opens w' refs' bound' → WritesOwn deep b (StandsIn n) u w refs opens w' refs' bound'
own_nested p = record { same = p.same; lines = λ d f i fs s. p.lines d f i fs s.depth; frame = p.frame; bound = p.bound }

module _ {deep : Type 0} {b : Body} {w : Sink} {refs : List Bool} where
  pub own_nothing : {inside : List Frame → Type 0} {bound : List Bool} → WritesOwn deep b inside (λ c x. nothing_written x (set_of bound)) w refs none w refs bound
  unfolding nothing_written
  own_nothing = record { same = (refl, refl, refl); lines = λ d f i fs x. lines_none; frame = λ c x. refl; bound = λ c x. refl }

  -- a line that opens a frame: its indentation, its words, its end
  pub own_opening : {depth : ℕ} {w₁ w₂ w' : Sink} {refs' bound' : List Bool} {p : Purpose} (l : Marks) (v : block.Body → Writer) {m : Marks}
      → Writes (spaces (4 * depth)) w w₁ → WritesWords deep b depth (v (body_told b)) w₁ refs w₂ refs' → Writes (10 ∷ []) w₂ w'
      → set_of bound' ≡ m → WritesOwn deep b (StandsAt depth) (λ c x. opening p l m (said (v c) x)) w refs (some p) w' refs' bound'
  unfolding opening
  own_opening l v x y z h = record { same = line_sink x y.same z; lines = λ d f i fs t. lines_words {v = v (body_told b)} t x (y.words d f) z; frame = λ c r. refl; bound = λ c r. h }

-- A MATCH, by its arms

none_one : Absent ≡ One → ⊥
none_one h = let z : ◌≡◌ {A = ℕ} 0 1 = cc in omega arith

none_several : Absent ≡ Several → ⊥
none_several h = let z : ◌≡◌ {A = ℕ} 0 1 = cc in omega arith

one_several : One ≡ Several → ⊥
one_several h = let z : ◌≡◌ {A = ℕ} 0 1 = cc in omega arith

module _ (c : block.Body) (m : Marks) (l q : ℕ) where
  match_absent : (rs : List Row) → Absent ≡ arms_in l rs → (x : Marks) → emit_check c x m l (Match q) rs ≡ nothing_written x m
  unfolding emit_check matching arms_in
  match_absent [] e x = refl
  match_absent (step v f bs ∷ rs) e x = refl
  match_absent (arm v k ps ∷ rs) e x = by_test (eqb (arm_count l (arm v k ps ∷ rs)) 1) e where
    by_test : (t : Bool) → Absent ≡ cond t One Several → emit_check c x m l (Match q) (arm v k ps ∷ rs) ≡ nothing_written x m
    by_test true h = absurd (none_one h)
    by_test false h = absurd (none_several h)

  module _ {rs more : List Row} {v : ℕ} {k : Constraint} {ps : List (Option ℕ)} (e : rs ≡ arm v k ps ∷ more) where
    match_arm : (n : ℕ) → arm_count l rs ≡ n → (x : Marks) → emit_check c x m l (Match q) rs ≡ matching c x m q n (arm v k ps ∷ more)
    unfolding emit_check
    match_arm n h x = rw (h, e)

    arms_are : arms_in l rs ≡ cond (eqb (arm_count l rs) 1) One Several
    unfolding arms_in
    arms_are = rw e

    match_one : One ≡ arms_in l rs → (x : Marks) → emit_check c x m l (Match q) rs ≡ opening one_arm m (bind_all ps m) (said (one_arm_head c (bind_all ps m) q k ps) x)
    unfolding matching
    match_one h x = match_arm 1 (by_test (eqb (arm_count l rs) 1) refl (h ∙ arms_are)) x where
      by_test : (t : Bool) → eqb (arm_count l rs) 1 ≡ t → One ≡ cond t One Several → arm_count l rs ≡ 1
      by_test true g u = eqb-true (arm_count l rs) 1 g
      by_test false g u = absurd (one_several u)

    match_several : Several ≡ arms_in l rs → (x : Marks) → emit_check c x m l (Match q) rs ≡ opening (arms_of q) m m (said (match_head c m q k) x)
    unfolding matching
    match_several h x = match_arm (arm_count l rs) refl x ∙ by_test (eqb (arm_count l rs) 1) refl (h ∙ arms_are) where
      by_test : (t : Bool) → eqb (arm_count l rs) 1 ≡ t → Several ≡ cond t One Several → matching c x m q (arm_count l rs) (arm v k ps ∷ more) ≡ opening (arms_of q) m m (said (match_head c m q k) x)
      by_test true g u = absurd (one_several (sym u))
      by_test false g u = rw g

-- the same where the rows from row `first` up to row `last` stand after it
module _ (b : Body) (m : Marks) (l first last q : ℕ) where
  abbrev of_match : block.Body → Marks → Own
  of_match c x = emit_check c x m l (Match q) (rows_in b last first)

  pub match_of_none : Absent ≡ arms_in l (rows_in b last first) → (c : block.Body) (x : Marks) → of_match c x ≡ nothing_written x m
  match_of_none h c = match_absent c m l q (rows_in b last first) h

  -- the first of them is an arm where there are any
  first_arm : (Absent ≡ arms_in l (rows_in b last first) → ⊥) → rows_in b last first ≡ arm (nth (row_in b first) 0) (constraint_of (row_in b first)) (pattern_in b first) ∷ rows_in b last (first + 1)
  first_arm h = by_place (leb last first) refl where
    by_kind : first < last → (t : Bool) → ltb (nth (row_in b first) 1) 4 ≡ t → rows_in b last first ≡ arm (nth (row_in b first) 0) (constraint_of (row_in b first)) (pattern_in b first) ∷ rows_in b last (first + 1)
    by_kind g true s = absurd (h (arms_step b.bindings.plan.now.words.now b.bindings.plan.now.rows.now l first last g s))
    by_kind g false s = rows_next b.bindings.plan.now.words.now b.bindings.plan.now.rows.now first last g ∙ ap (λ (x : Row). x ∷ rows_in b last (first + 1)) (arm_is (row_in b first) s)

    by_place : (t : Bool) → leb last first ≡ t → rows_in b last first ≡ arm (nth (row_in b first) 0) (constraint_of (row_in b first)) (pattern_in b first) ∷ rows_in b last (first + 1)
    by_place true s = absurd (h (arms_absent b.bindings.plan.now.words.now b.bindings.plan.now.rows.now l first last (leb-true last first s)))
    by_place false s = by_kind (leb-false last first s) (ltb (nth (row_in b first) 1) 4) refl

  pub match_of_one : One ≡ arms_in l (rows_in b last first) → (c : block.Body) (x : Marks) → of_match c x ≡ opening one_arm m (bind_all (pattern_in b first) m) (said (one_arm_head c (bind_all (pattern_in b first) m) q (constraint_of (row_in b first)) (pattern_in b first)) x)
  match_of_one h c = match_one c m l q (first_arm (λ e. none_one (e ∙ sym h))) h

  pub match_of_several : Several ≡ arms_in l (rows_in b last first) → (c : block.Body) (x : Marks) → of_match c x ≡ opening (arms_of q) m m (said (match_head c m q (constraint_of (row_in b first))) x)
  match_of_several h c = match_several c m l q (first_arm (λ e. none_several (e ∙ sym h))) h

-- A LOOP

pub odd_loop : (r q : ℕ) → odd_pieces (loop_head r q) ≡ 0
unfolding loop_head odd_pieces odd_piece
odd_loop r q = refl
