-- The walk's invariant: what is left to put for the rows to come ends where the whole does. Assumes nothing.
use Rattle.std.specs.Prelude.{ℕ, ◌+◌, ◌-◌, ◌≤◌, ◌<◌, ◌≡◌, refl, Bool, Some, None, length, drop}
use Rattle.std.proofs.Math.Path.{sym, subst}
use Rattle.std.proofs.Common.{ap, ◌∙◌, add-one}
use Rattle.std.proofs.Math.Option.{some, none}
use mathlib.Core.List.{List, [], ◌∷◌, ◌++◌}
use native.Mathlib.Omega.{arith}
use Rattle.text.specs.SinkLaws.{puts_past}
use Rattle.text.specs.Writes.{Writes, SameSink, writes_nil, writes_then}
use Rattle.text.specs.declared.sink.Sink.{Sink}
use Rattle.plan.specs.Plan.{Environment}
use Rattle.plan.specs.Binding.{BindingRow}
use Rattle.plan.specs.Row.{Row, level}
use Rattle.codegen.specs.Writer.{Marks}
use Rattle.codegen.specs.Block.{Purpose}
use Rattle.codegen.specs.Terms.{no_marks}
use Rattle.origin.specs.Names.{Scope, Names, after_list, opens, opened, keep, at_row, past}
use Rattle.rows.specs.View.{nth, step_made, block_of}
use Rattle.emits.specs.Marks.{set_of}
use Rattle.row_frames.specs.Rows.{rows_in, rows_next, rows_none, Shallow}
use Rattle.view.specs.BlockRows.{level_is, step_is}
use Rattle.row_frames.specs.Told.{purpose_told, opens_told}
use Rattle.row_frames.specs.declared.Purpose.{Purpose as CodePurpose}
use Rattle.row_frames.specs.declared.stack.Frame.{Frame}
use Rattle.row_frames.specs.Stack.{last_level, last_purpose, Last}
use Rattle.schedule_rules.specs.Faults.{Letters, row_faults, block_faults, no_names}
use Rattle.schedule_rules.specs.Found.{Lower}
use Rattle.schedule_rules.specs.Sheet.{row_lines, table_lines}
use Rattle.view.specs.Buffers.{words_of, env_of}
use Rattle.faults.specs.Kept.{bindings_of}
use Rattle.view.specs.declared.bindings.Bindings.{Bindings}
use Rattle.faults.specs.Row.{JudgesRow}
use Rattle.faults.specs.declared.check.Step.{Step}
use Rattle.faults.specs.declared.names.Names.{Names as CodeNames}
use Rattle.faults.specs.Told.{letters_told}
use Rattle.faults.specs.Stack.{scope_told, scopes_told, names_told, around_last, restore_last, keep_last, restore_none, keep_none}

-- the lines of the rows from row `first` up to row `last` are put
pub record BlockPut (t : Bindings) (term first last places : ℕ) (w w' : Sink) : Type 0 where
  pub same : SameSink w w'
  pub is : Lower (bindings_of t) → Shallow t.plan.now.words.now t.plan.now.rows.now first last places
      → Writes (table_lines term 0 (block_faults (env_of t.plan.now) (bindings_of t) no_names (rows_in t.plan.now last first))) w w'

-- n is of the names and fs of the frames before row r
pub record Walking {T : Type 0} (t : Bindings) (term first last : ℕ) (w₀ : Sink) (fs : List (Frame T)) (r : ℕ) (n : CodeNames) (w : Sink) : Type 0 where
  pub begun : first ≤ r
  pub bindings : n.bindings ≡ t
  pub same : SameSink w₀ w
  pub rest : Lower (bindings_of t) → (w' : Sink)
      → Writes (table_lines term (r - first) (block_faults (env_of t.plan.now) (bindings_of t) (names_told n.bound fs) (rows_in t.plan.now last r))) w w'
      → Writes (table_lines term 0 (block_faults (env_of t.plan.now) (bindings_of t) no_names (rows_in t.plan.now last first))) w₀ w'

-- a frame closes before the row
close_faults : (e : Environment) (bs : List BindingRow) (s s' : Names) (r : Row) (rs : List Row) → at_row s r ≡ at_row s' r → keep (level r) s.scopes ≡ keep (level r) s'.scopes → block_faults e bs s (r ∷ rs) ≡ block_faults e bs s' (r ∷ rs)
unfolding block_faults past
close_faults e bs s s' r rs h g = rw (h, g) refl

-- a row that closes none
row_faults_here : (e : Environment) (bs : List BindingRow) (s s' : Names) (r : Row) (rs : List Row) (m : Marks) → at_row s r ≡ m → past s r rs ≡ s' → block_faults e bs s (r ∷ rs) ≡ row_faults e bs m r rs ∷ block_faults e bs s' rs
unfolding block_faults
row_faults_here e bs s s' r rs m h g = rw (h, g) refl

lines_cons : (term row : ℕ) (f : Letters) (fs : List Letters) → table_lines term row (f ∷ fs) ≡ row_lines term row f ++ table_lines term (row + 1) fs
unfolding table_lines
lines_cons term row f fs = rw add-one refl

-- a `return` opens no frame
return_none : (p : Purpose) (ws : List ℕ) (rs : List Row) → nth ws 1 ≡ 3 → opens p (block_of ws) rs ≡ none
unfolding opens step_made
return_none p ws rs h = rw (step_is ws (rw h refl), h)

none_some : (q : Purpose) → none ≡ some q → ⊥
none_some q h = let z : ◌≡◌ {A = ℕ} 0 1 = cc in omega arith

-- the words of row r
abbrev pub row_words : CodeNames → ℕ → List ℕ
row_words n r = words_of n.bindings.plan.now r

-- what is judged of row r, before the rows up to row `last`, where the frames fs are open
abbrev pub Judged : {T : Type 0} → List (Frame T) → CodeNames → CodeNames → ℕ → ℕ → List Bool → Step → Type 0
Judged fs n n' r last saved s = JudgesRow n n' (last_purpose fs) (nth (row_words n r) 1) (block_of (row_words n r)) (rows_in n.bindings.plan.now last (r + 1)) saved s

-- the frames fs' are open after row r, which opens this frame or none in the frames fs
abbrev pub Follows : {T : Type 0} → List (Frame T) → List (Frame T) → CodeNames → ℕ → Step → Type 0
Follows fs fs' n r s = scopes_told fs' ≡ opened (opens_told s.opens) (level (block_of (row_words n r))) (after_list (block_of (row_words n r)) (set_of n.bound)) (scopes_told fs)

module _ {T : Type 0} (fs : List (Frame T)) (n : CodeNames) (r : ℕ) where
  pub follows_some : {n' : CodeNames} (last : ℕ) {saved : List Bool} (s : Step) → Judged fs n n' r last saved s → {p : CodePurpose} (own : T) → s.opens ≡ Some p
      → Follows fs (record { level = nth (row_words n r) 0 + 1; purpose = p; bound = saved; own = own } ∷ fs) n r s
  unfolding opened scope_told
  follows_some last {saved} s j {p} own h =
      let ws : List ℕ = row_words n r in
      let l : nth ws 0 + 1 - 1 ≡ level (block_of ws) = omega (arith, level_is ws) in
      let o : set_of saved ≡ after_list (block_of ws) (set_of n.bound) =
      j.saved (λ e. none_some (purpose_told p) (sym (return_none (last_purpose fs) ws (rows_in n.bindings.plan.now last (r + 1)) e) ∙ sym j.frame ∙ ap opens_told h)) in
      rw (h, l, o) refl

  pub follows_none : (s : Step) → s.opens ≡ None → Follows fs fs n r s
  unfolding opened
  follows_none s h = rw h refl

  -- the names at a row that closes none, and after it
  module _ (low : length fs ≤ last_level fs) (top : last_level fs ≤ level (block_of (row_words n r))) where
    here_names : at_row (names_told n.bound fs) (block_of (row_words n r)) ≡ set_of n.bound
    unfolding at_row
    here_names = restore_none fs (set_of n.bound) low top

    past_names : {n' : CodeNames} (last : ℕ) {saved : List Bool} (s : Step) → Judged fs n n' r last saved s → (fs' : List (Frame T)) → Follows fs fs' n r s
        → past (names_told n.bound fs) (block_of (row_words n r)) (rows_in n.bindings.plan.now last (r + 1)) ≡ names_told n'.bound fs'
    unfolding past at_row
    past_names {n'} last s j fs' e =
        rw (restore_none fs (set_of n.bound) low top, keep_none fs low top, around_last fs, ← j.names, ← j.frame) (ap (λ (ss : List Scope). record { bound = set_of n'.bound; scopes = ss }) (sym e))

-- no room is left
writes_past : {s : List ℕ} {w : Sink} → w.end ≤ w.at → Writes s w w
writes_past h = record { buffer = refl; size = refl; end = refl; odd = refl; puts = puts_past (omega arith) h }

module _ {T : Type 0} {t : Bindings} {term first last : ℕ} {w₀ : Sink} {fs : List (Frame T)} where
  pub walking_start : {n : CodeNames} → fs ≡ [] → n.bindings ≡ t → set_of n.bound ≡ no_marks → Walking t term first last w₀ fs first n w₀
  walking_start s e h = record {
    begun = omega arith;
    bindings = e;
    same = (refl, refl, refl);
    rest = λ l w' q. let z : first - first ≡ 0 = omega arith in rw (s, h, z) at q;
  }

  module _ {r : ℕ} {n : CodeNames} {w : Sink} (k : Walking t term first last w₀ fs r n w) where
    abbrev Done : ℕ → Type 0
    Done places = BlockPut t term first last places w₀ w

    -- past the room
    pub walking_past : {places : ℕ} → w.end ≤ w.at → Done places
    walking_past h = record { same = k.same; is = λ l s. k.rest l w (writes_past h) }

    -- no row is left
    pub walking_done : {places : ℕ} → last ≤ r → Done places
    unfolding block_faults table_lines
    walking_done h = record { same = k.same; is = λ l s. k.rest l w (rw (rows_none t.plan.now.words.now t.plan.now.rows.now r last h) writes_nil) }

    -- there is a place for each level
    pub walking_crowded : {places : ℕ} → r < last → length fs ≤ last_level fs → places ≤ length fs + 1 → last_level fs ≤ nth (row_words n r) 0 → Done places
    walking_crowded there low h g = let top : last_level fs ≤ nth (words_of t.plan.now r) 0 = rw k.bindings at g in record { same = k.same; is = λ l s. absurd (omega (arith, level_is (words_of t.plan.now r), s.places r k.begun there)) }

    -- the last frame closes
    pub walking_close : {f : Frame T} {n' : CodeNames} → Last fs f → r < last → nth (row_words n r) 0 < f.level → n'.bindings ≡ n.bindings → n'.bound ≡ f.bound → Walking t term first last w₀ (drop 1 fs) r n' w
    unfolding at_row
    walking_close {f} {n'} u there h e g =
        let ws : List ℕ = words_of t.plan.now r in
        let l : level (block_of ws) < f.level = rw (level_is ws) (rw k.bindings at h) in
        let restored : at_row (names_told n.bound fs) (block_of ws) ≡ at_row (names_told n'.bound (drop 1 fs)) (block_of ws) = restore_last u l (set_of n.bound) ∙ rw g refl in
        record {
          begun = k.begun;
          bindings = e ∙ k.bindings;
          same = k.same;
          rest = λ y w' q.
              k.rest y w' (rw (rows_next t.plan.now.words.now t.plan.now.rows.now r last there) (rw (close_faults (env_of t.plan.now) (bindings_of t) (names_told n.bound fs) (names_told n'.bound (drop 1 fs)) (block_of ws) (rows_in t.plan.now last (r + 1)) restored (keep_last u l)) (rw (rows_next t.plan.now.words.now t.plan.now.rows.now r last there) at q)));
        }

-- a row is judged, its lines are put, and the frames fs' are open then
module _ {T : Type 0} {term first last : ℕ} {w₀ : Sink} {fs : List (Frame T)} {r : ℕ} {n : CodeNames} {w : Sink} (low : length fs ≤ last_level fs) where
  row_put : Walking n.bindings term first last w₀ fs r n w → {fs' : List (Frame T)} {n' : CodeNames} {w' : Sink} (s : Step) {saved : List Bool} → r < last → last_level fs ≤ nth (row_words n r) 0 → Judged fs n n' r last saved s
      → Writes (row_lines term (r - first) (letters_told s.faults)) w w' → Follows fs fs' n r s → Walking n.bindings term first last w₀ fs' (r + 1) n' w'
  row_put k {fs'} {n'} {w'} s there deeper j put e =
      let plan = n.bindings.plan.now in
      let ws : List ℕ = words_of plan r in
      let row : Row = block_of ws in
      let rs : List Row = rows_in plan last (r + 1) in
      let top : last_level fs ≤ level row = rw (level_is ws) deeper in
      record {
        begun = omega (arith, k.begun);
        bindings = j.bindings;
        same = (put.buffer ∙ k.same.0, put.size ∙ k.same.1, put.end ∙ k.same.2);
        rest = λ y w₂ q.
            let next : r + 1 - first ≡ r - first + 1 = omega (arith, k.begun) in
            k.rest y w₂ (rw (rows_next plan.words.now plan.rows.now r last there) (rw (row_faults_here (env_of plan) (bindings_of n.bindings) (names_told n.bound fs) (names_told n'.bound fs') row rs (set_of n.bound) (here_names fs n r low top) (past_names fs n r low top last s j fs' e), lines_cons term (r - first)) (writes_then (rw (j.faults_a.is y, j.faults_b.is y, j.faults_c.is y) at put) (rw next at q))));
      }

  pub walking_row : {t : Bindings} → Walking t term first last w₀ fs r n w → {fs' : List (Frame T)} {n' : CodeNames} {w' : Sink} (s : Step) {saved : List Bool} → r < last → last_level fs ≤ nth (row_words n r) 0 → Judged fs n n' r last saved s
      → Writes (row_lines term (r - first) (letters_told s.faults)) w w' → Follows fs fs' n r s → Walking t term first last w₀ fs' (r + 1) n' w'
  walking_row {t} k {fs'} {n'} {w'} s there deeper j put e =
      let same : n.bindings ≡ t = k.bindings in
      subst (λ (x : Bindings). Walking x term first last w₀ fs r n w → Walking x term first last w₀ fs' (r + 1) n' w') same (λ k'. row_put k' s there deeper j put e) k
