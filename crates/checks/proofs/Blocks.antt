-- Steps by what they do; refusals 8, 9 and 10 row by row. Assumes nothing.
use Prim.Native.Nat.{ℕ, zero, suc, ◌+◌, ◌-◌, ◌≤◌, ◌<◌}
use mathlib.Core.Path.{◌≡◌, refl, ◌∙◌}
use mathlib.Core.Bool.{true, false, cond, ◌||◌}
use mathlib.Core.List.{List, map}
use native.Mathlib.Omega.{arith}
use lib.Dec.{eqb, ltb}
use borrow.Author.Tests.{ne_eqb, le-ltb}
use lib.ListN.{drop}
use Rattle.std.specs.List.{list_all, range_with_len}
use Rattle.plan.specs.Binding.{BindingRow}
use Rattle.plan.specs.Row.{Row, step, arm, level}
use Rattle.plan.specs.Lookup.{binding_at, term_at}
use Rattle.plan.specs.Refusal.{every, is_match, is_loop, is_return, is_iterator, loop_fits, matches_armed, ends_block, returns_last, returns_fit}
use Rattle.rows.specs.View.{nth, wide_at, patterns_in, block_of, step_made, arm_made}
use Rattle.layout.specs.View.{cuts}
use Rattle.rows.specs.declared.kinds.BlockKind.{BlockKind}
use Rattle.rows.specs.declared.kinds.BlockKind.TheVariants as kind
use Rattle.view.proofs.Made.{other_kind}
use Rattle.rows.specs.Kinds.{block_number, block_kind}
use Rattle.rows.proofs.Numbers.{block_numbered}
use Rattle.view.specs.BlockRows.{level_is, step_is}
use Rattle.view.specs.Buffers.{words_of, env_of, plan_of}
use Rattle.view.specs.Told.{control_flow_told, control_flow_of}
use Rattle.view.specs.declared.buffers.Plan.{Plan}
use Rattle.view.specs.declared.block.ControlFlow.{ControlFlow}
use Rattle.view.specs.declared.block.ControlFlow.TheVariants as flow
use Rattle.view.proofs.Laws.{cuts_next, cuts_none}
use Rattle.view.proofs.Plans.{environment_is}
use Rattle.checks.specs.Tests.{armed, ended}
use Rattle.checks.proofs.Every.{every_map}

-- STEPS

module _ (ws : List ℕ) where
  -- the row, if its kind were n
  abbrev row_by : ℕ → Row
  row_by n = cond (ltb n 4) (step (nth ws 0) (step_made n (nth ws 2) (wide_at ws 3)) (drop 7 ws)) (arm (nth ws 0) (arm_made (nth ws 1 - 4) (nth ws 2) (wide_at ws 3)) (patterns_in (drop 7 ws)))

  by_number : (n : ℕ) → (is_match (row_by n) ≡ eqb n 0) × (is_loop (row_by n) ≡ eqb n 2) × (is_return (row_by n) ≡ eqb n 3)
  unfolding step_made
  by_number zero = (refl, refl, refl)
  by_number (suc zero) = (refl, refl, refl)
  by_number (suc (suc zero)) = (refl, refl, refl)
  by_number (suc (suc (suc zero))) = (refl, refl, refl)
  by_number (suc (suc (suc (suc n)))) =
      let m = suc (suc (suc (suc n))) in
      rw (le-ltb m 4 (omega arith), ne_eqb m 0 (λ q. absurd (omega arith)), ne_eqb m 2 (λ q. absurd (omega arith)), ne_eqb m 3 (λ q. absurd (omega arith))) (refl, refl, refl)

  by_word : (is_match (block_of ws) ≡ eqb (nth ws 1) 0) × (is_loop (block_of ws) ≡ eqb (nth ws 1) 2) × (is_return (block_of ws) ≡ eqb (nth ws 1) 3)
  unfolding block_of
  by_word = by_number (nth ws 1)

  -- the kind that is read from the row's word
  module _ (k : BlockKind) (e : k ≡ block_kind (nth ws 1)) where
    by_kind : (is_match (block_of ws) ≡ eqb (block_number k) 0) × (is_loop (block_of ws) ≡ eqb (block_number k) 2) × (is_return (block_of ws) ≡ eqb (block_number k) 3)
    by_kind = rw (e, block_numbered (nth ws 1), by_word.0, by_word.1, by_word.2) (grind arith, grind arith, grind arith)

    pub a_match : k ≡ kind.Match → true ≡ is_match (block_of ws)
    a_match q = rw (by_kind.0, q) refl

    pub no_match : (k ≡ kind.Match → ⊥) → false ≡ is_match (block_of ws)
    no_match n = rw (by_kind.0, other_kind k kind.Match n) refl

  pub arm_fits : ltb (nth ws 1) 4 ≡ false → (bs : List BindingRow) → loop_fits bs (block_of ws) ≡ true
  unfolding block_of loop_fits
  arm_fits h bs = rw h refl

-- a step, by what it does
abbrev as_step : List ℕ → ControlFlow → Row
as_step ws c = step (nth ws 0) (control_flow_told c) (drop 7 ws)

module _ (ws : List ℕ) (c : ControlFlow) (h : ltb (nth ws 1) 4 ≡ true) (e : control_flow_told c ≡ control_flow_of ws) where
  as_step_is : block_of ws ≡ as_step ws c
  as_step_is = step_is ws h ∙ rw e refl

  pub fits_loop : (bs : List BindingRow) (q : ℕ) → c ≡ flow.Loop q → loop_fits bs (block_of ws) ≡ is_iterator (binding_at bs q).binding
  unfolding loop_fits
  fits_loop bs q t = rw (as_step_is, t) refl

  pub fits_other : (bs : List BindingRow) → ((q : ℕ) → c ≡ flow.Loop q → ⊥) → loop_fits bs (block_of ws) ≡ true
  unfolding loop_fits
  fits_other bs n = rw as_step_is (by_flow c n) where
    by_flow : (c : ControlFlow) → ((q : ℕ) → c ≡ flow.Loop q → ⊥) → loop_fits bs (as_step ws c) ≡ true
    by_flow (flow.Match q) n = refl
    by_flow (flow.Equal a b) n = refl
    by_flow (flow.Loop q) n = absurd (n q refl)
    by_flow (flow.Return q p) n = refl

-- 9

module _ (p : Plan) (m : ℕ) where
  pub match_alone : (r : ℕ) → is_match (block_of (words_of p r)) ≡ true → m ≤ r + 1 → armed p m r ≡ false
  match_alone r h g = rw (h, cuts_none p.words.now p.rows.now (r + 1) m g) refl

  pub match_below : (r : ℕ) → is_match (block_of (words_of p r)) ≡ true → r + 1 < m → armed p m r ≡ ltb (nth (words_of p r) 0) (nth (words_of p (r + 1)) 0)
  match_below r h g = rw (h, cuts_next p.words.now p.rows.now (r + 1) m g, level_is (words_of p r), level_is (words_of p (r + 1))) refl

  pub all_armed : (r n : ℕ) → m - r ≡ n → list_all (armed p m) (range_with_len r n) ≡ matches_armed (map block_of (cuts p.words.now p.rows.now r n))
  unfolding matches_armed cuts
  all_armed r zero h = refl
  all_armed r (suc n) h =
      let z : n ≡ m - (r + 1) = omega arith in
      rw (all_armed (r + 1) n (omega arith), z) refl

  -- 8

  -- the rows after row r
  abbrev after : ℕ → List Row
  after r = map block_of (cuts p.words.now p.rows.now (r + 1) (m - (r + 1)))

  pub last_alone : (r : ℕ) → m ≤ r + 1 → ends_block (level (block_of (words_of p r))) (after r) ≡ true
  last_alone r g = rw (cuts_none p.words.now p.rows.now (r + 1) m g) refl

  pub last_before : (r : ℕ) → r + 1 < m → ends_block (level (block_of (words_of p r))) (after r) ≡ ltb (nth (words_of p (r + 1)) 0) (nth (words_of p r) 0)
  last_before r g = rw (cuts_next p.words.now p.rows.now (r + 1) m g, level_is (words_of p r), level_is (words_of p (r + 1))) refl

  module _ (r : ℕ) (k : BlockKind) (e : k ≡ block_kind (nth (words_of p r) 1)) where
    pub ended_loop : k ≡ kind.Loop → false ≡ ended p m r
    ended_loop q = let b = by_kind (words_of p r) k e in rw (b.1, q) refl

    pub ended_return : k ≡ kind.Return → ends_block (level (block_of (words_of p r))) (after r) ≡ ended p m r
    ended_return q = let b = by_kind (words_of p r) k e in rw (b.1, b.2, q) refl

    pub ended_other : (k ≡ kind.Loop → ⊥) → (k ≡ kind.Return → ⊥) → true ≡ ended p m r
    ended_other n l = let b = by_kind (words_of p r) k e in rw (b.1, b.2, other_kind k kind.Loop n, other_kind k kind.Return l) refl

  pub all_ended : (r n : ℕ) → m - r ≡ n → list_all (ended p m) (range_with_len r n) ≡ returns_last (map block_of (cuts p.words.now p.rows.now r n))
  unfolding returns_last cuts
  all_ended r zero h = refl
  all_ended r (suc n) h =
      let z : n ≡ m - (r + 1) = omega arith in
      rw (all_ended (r + 1) n (omega arith), z) refl

pub returns_tests : (p : Plan) → returns_fit (plan_of p) ≡ every (λ g. (term_at (env_of p) g.term).multi || returns_last g.rows) (plan_of p).generated
unfolding returns_fit
returns_tests p = rw (environment_is p.words.now p.rows.now p.tables.now p.bytes.now) refl

-- 10

pub iterates_at : (bs : List BindingRow) (t : List (List ℕ)) → every (loop_fits bs) (map block_of t) ≡ every (λ ws. loop_fits bs (block_of ws)) t
iterates_at bs t = every_map (loop_fits bs) block_of t
