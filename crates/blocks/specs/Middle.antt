-- The walk over the rows from the middle: what is left to write, where a frame closes and where a row writes its own. Assumes nothing.
use Rattle.std.specs.Prelude.{◌≡◌, Bool, cond, ◌&&◌, ℕ, suc, ◌+◌, ◌≤◌}
use Rattle.std.proofs.Math.Path.{refl, sym}
use Rattle.std.proofs.Common.{ap, ◌∙◌, add-zero, arith}
use Rattle.std.proofs.Math.Option.{Option}
use mathlib.Core.List.{List, [], ◌∷◌, ◌++◌, append_assoc}
use Rattle.std.proofs.Math.Nat.{add_assoc}
use Rattle.std.proofs.Math.ListN.{length, length-append}
use Rattle.std.proofs.lemmas.List.Edits.{sets}
use borrow.Author.Tests.{le-leb, lt-leb}
use Rattle.text.specs.SinkLaws.{sets_append}
use Rattle.plan.specs.Plan.{Environment}
use Rattle.plan.specs.Row.{Row, level}
use Rattle.codegen.specs.Writer.{Marks}
use Rattle.codegen.specs.Block.{Body, Part, Purpose, Frame, State, purpose_of, end_block, closing, left, restored, is_arm_body, numbered, pushed, row_parts, after, own, here, splits_here, next, written, walk, block_weight, text_of, odds_of}
use Rattle.splitting.specs.Lines.{text_append}
use Rattle.splitting.specs.Simulation.{odds_append}
use Rattle.splitting.specs.Marks.{with_refs}
use Rattle.splitting.specs.Continue.{NotDeeper, Inside, inside_left}
use Rattle.emits.specs.Place.{Place, over, place, place_over, count_over, place_cases}
use Rattle.emits.specs.Place as emits
use Rattle.emits.specs.Rows.{run_parts, PartsEmit, run_row, run_walk, RowEmits, WalkEmits, Emitting, emitting_row}
use Rattle.body.specs.Leads.{Leads}

-- where the bindings of b have names, m closures are numbered and the frames fs are open; the marks of references are in the place
unfoldable pub standing : Marks → ℕ → List Frame → State
standing b m fs = record { refs = []; bound = b; match_split = m; frames = fs }

-- A FRAME CLOSES, where no row to come is in it

module _ (c : Body) (sp : ℕ → Bool) (q b : Marks) (m : ℕ) (f : Frame) (fs : List Frame) where
  abbrev before : State
  before = with_refs (standing b m (f ∷ fs)) q

  abbrev closed : State
  closed = with_refs (standing f.bound m fs) q

  here_close : (r : Row) (rs : List Row) → level r ≤ f.level → here c before r rs ≡ here c closed r rs
  unfolding here left restored with_refs standing
  here_close r rs h = rw (le-leb (level r) f.level h)

  next_close : (i : ℕ) (r : Row) (rs : List Row) → level r ≤ f.level → next c sp before i r rs ≡ next c sp closed i r rs
  unfolding next after left with_refs standing
  next_close i r rs h = rw (here_close r rs h, le-leb (level r) f.level h)

  written_close : (i : ℕ) (r : Row) (rs : List Row) → level r ≤ f.level → written c sp before i r rs ≡ end_block f fs ++ written c sp closed i r rs
  unfolding written closing left with_refs standing
  written_close i r rs h = rw (here_close r rs h, le-leb (level r) f.level h, append_assoc)

  walk_close : (i : ℕ) (rs : List Row) → NotDeeper f.level rs → walk c sp before i rs ≡ end_block f fs ++ walk c sp closed i rs
  unfolding walk closing with_refs standing
  walk_close i [] h = rw (le-leb 0 f.level (omega arith))
  walk_close i (r ∷ rs) h = rw (written_close i r rs h, next_close i r rs h, append_assoc)

module _ (e : ℕ) (env : Environment) (c : Body) (sp : ℕ → Bool) (b : Marks) (m : ℕ) (f : Frame) (fs : List Frame) (i : ℕ) (rs : List Row) (d : NotDeeper f.level rs) (o : List ℕ) (at n : ℕ) (q : Marks) where
  run_close : run_walk e env c sp (standing f.bound m fs) i rs (run_parts e env (end_block f fs) q (place e o at n q)) ≡ run_walk e env c sp (standing b m (f ∷ fs)) i rs (place e o at n q)
  unfolding run_walk run_parts
  run_close =
      let ps : List Part = end_block f fs in
      place_cases (λ x. run_walk e env c sp (standing f.bound m fs) i rs (run_parts e env ps q x) ≡ run_walk e env c sp (standing b m (f ∷ fs)) i rs x) e o at n q
      (λ h g. place_cases (λ x. run_walk e env c sp (standing f.bound m fs) i rs x ≡ run_walk e env c sp (standing b m (f ∷ fs)) i rs (emits.here o at n q)) e (sets o at (text_of env ps)) (at + length (text_of env ps)) (n + odds_of ps) q
      (λ h' g'. rw (walk_close c sp q b m f fs i rs d, text_append, sets_append, length-append, odds_append, ← add_assoc, ← add_assoc))
      (λ h'. sym (place_over e _ _ _ _ (rw (walk_close c sp q b m f fs i rs d, text_append, length-append) (omega arith))))
      (λ h'. sym (count_over e _ _ _ _ (rw (walk_close c sp q b m f fs i rs d, odds_append) (omega arith)))))
      (λ h. refl) (λ h. refl)

-- What is left to write from here, i rows into the block, ends where the whole does.
pub record Middle (e : ℕ) (env : Environment) (c : Body) (sp : ℕ → Bool) (s₀ : State) (rows : List Row) (o₀ : List ℕ) (at₀ n₀ : ℕ) (q₀ b : Marks) (m : ℕ) (fs : List Frame) (i : ℕ) (rs : List Row) (o : List ℕ) (at n : ℕ) (q : Marks) : Type 0 where
  pub is : Emitting e env c sp s₀ rows o₀ at₀ n₀ q₀ (standing b m fs) i rs o at n q

module _ {e : ℕ} {env : Environment} {c : Body} {sp : ℕ → Bool} {s₀ : State} {rows : List Row} {o₀ : List ℕ} {at₀ n₀ : ℕ} {q₀ b : Marks} {m : ℕ} {i : ℕ} {o : List ℕ} {at n : ℕ} {q : Marks} where
  pub middle_close : {f : Frame} {fs : List Frame} {rs : List Row} {o' : List ℕ} {at' n' : ℕ} → Middle e env c sp s₀ rows o₀ at₀ n₀ q₀ b m (f ∷ fs) i rs o at n q → NotDeeper f.level rs → PartsEmit e env (end_block f fs) o at n q o' at' n' q
      → Middle e env c sp s₀ rows o₀ at₀ n₀ q₀ f.bound m fs i rs o' at' n' q
  middle_close {f} {fs} {rs} g d p = record {
    is = record { rest = λ o'' at'' n'' w. g.is.rest o'' at'' n'' (record { is = w.is ∙ ap (run_walk e env c sp (standing f.bound m fs) i rs) p.is ∙ run_close e env c sp b m f fs i rs d o at n q }) };
  }

  -- nothing is left to write
  pub middle_done : Middle e env c sp s₀ rows o₀ at₀ n₀ q₀ b m [] i [] o at n q → WalkEmits e env c sp s₀ 0 rows o₀ at₀ n₀ q₀ o at n
  unfolding run_walk walk closing with_refs standing text_of odds_of
  middle_done g = g.is.rest o at n (record { is = place_cases (λ x. place {S = Unit {0}} e o at n tt ≡ run_walk e env c sp (standing b m []) i [] x) e o at n q (λ h k. simp add-zero) (λ h. place_over e o at n tt h) (λ h. count_over e o at n tt h) })

  -- past the room nothing need be written
  pub middle_past : {fs : List Frame} {rs : List Row} → Middle e env c sp s₀ rows o₀ at₀ n₀ q₀ b m fs i rs o at n q → e ≤ at → WalkEmits e env c sp s₀ 0 rows o₀ at₀ n₀ q₀ o at n
  unfolding run_walk
  middle_past g h = g.is.rest o at n (record { is = rw (place_over e o at n q h) (place_over e o at n tt h) })

-- A ROW, deeper than the open frames, writes its own

-- what row r, inside a frame of purpose p, opens, the bindings that have names after it, and those that have names where the frame closes
pub record Owned (c : Body) (b : Marks) (p : Purpose) (r : Row) (rs : List Row) (x : Option Purpose) (b' outside : Marks) : Type 0 where
  pub frame : (q : Marks) → (own c q b p r rs).frame ≡ x
  pub bound : (q : Marks) → (own c q b p r rs).bound ≡ b'
  pub restored : (q : Marks) → (own c q b p r rs).outside ≡ outside

inside_closing : (l : ℕ) (fs : List Frame) → Inside l fs → closing l fs ≡ []
unfolding closing
inside_closing l [] h = refl
inside_closing l (f ∷ fs) h = rw (lt-leb l f.level h)

inside_restored : (l : ℕ) (b : Marks) (fs : List Frame) → Inside l fs → restored l b fs ≡ b
unfolding restored
inside_restored l b [] h = refl
inside_restored l b (f ∷ fs) h = rw (lt-leb l f.level h)

module _ (c : Body) (sp : ℕ → Bool) (b : Marks) (m : ℕ) (fs : List Frame) (i : ℕ) (r : Row) (rs : List Row) {x : Option Purpose} {b' outside : Marks} (t : Bool)
    (d : Inside (level r) fs) (w : Owned c b (purpose_of fs) r rs x b' outside) (y : t ≡ is_arm_body x && sp (block_weight (level r) rs)) where
  splits_is : (q : Marks) → splits_here sp (own c q b (purpose_of fs) r rs) r rs ≡ t
  unfolding splits_here
  splits_is q = rw (w.frame q) (sym y)

  written_is : (q : Marks) → written c sp (with_refs (standing b m fs) q) i r rs ≡ row_parts i fs (own c q b (purpose_of fs) r rs) t
  unfolding written here with_refs standing
  written_is q = rw (inside_closing (level r) fs d, inside_left (level r) fs d, inside_restored (level r) b fs d, splits_is q)

  refs_are : (q : Marks) → (next c sp (with_refs (standing b m fs) q) i r rs).refs ≡ (own c q b (purpose_of fs) r rs).refs
  unfolding next here after with_refs standing
  refs_are q = rw (inside_left (level r) fs d, inside_restored (level r) b fs d)

  next_is : with_refs (next c sp (standing b m fs) i r rs) [] ≡ standing b' (cond t (suc m) m) (pushed x (level r) i outside (numbered t m) fs)
  unfolding next here after with_refs standing
  next_is = rw (inside_left (level r) fs d, inside_restored (level r) b fs d, splits_is [], w.frame [], w.bound [], w.restored [])

  row_leads : {e : ℕ} {env : Environment} {o : List ℕ} {at n : ℕ} {q : Marks} {o' : List ℕ} {at' n' : ℕ} {q' : Marks} → Leads e env (λ u. row_parts i fs (own c u b (purpose_of fs) r rs) t) (λ u. (own c u b (purpose_of fs) r rs).refs) o at n q o' at' n' q'
      → RowEmits e env c sp (standing b m fs) i r rs o at n q o' at' n' q'
  unfolding run_row run_parts
  row_leads {e} {env} {o} {at} {n} {q} l = record {
    is = l.is ∙ place_cases (λ z. run_parts e env (row_parts i fs (own c q b (purpose_of fs) r rs) t) (own c q b (purpose_of fs) r rs).refs z ≡ run_row e env c sp (standing b m fs) i r rs z) e o at n q (λ h g. rw (written_is q, refs_are q)) (λ h. refl) (λ h. refl);
  }

-- the marks of references are in the place, and not in the state
module _ (e : ℕ) (env : Environment) (c : Body) (sp : ℕ → Bool) (s : State) (i : ℕ) (rs : List Row) where
  state_same : (x : Place Marks) → run_walk e env c sp (with_refs s []) i rs x ≡ run_walk e env c sp s i rs x
  unfolding run_walk with_refs
  state_same over = refl
  state_same (emits.here o at n q) = refl

module _ {e : ℕ} {env : Environment} {c : Body} {sp : ℕ → Bool} {s₀ : State} {rows : List Row} {o₀ : List ℕ} {at₀ n₀ : ℕ} {q₀ b : Marks} {m : ℕ} {fs : List Frame} {i : ℕ} {r : Row} {rs : List Row} {o : List ℕ} {at n : ℕ} {q : Marks} where
  pub middle_own : {x : Option Purpose} {b' outside : Marks} {o' : List ℕ} {at' n' : ℕ} {q' : Marks} (t : Bool) → Middle e env c sp s₀ rows o₀ at₀ n₀ q₀ b m fs i (r ∷ rs) o at n q → Inside (level r) fs
      → Owned c b (purpose_of fs) r rs x b' outside → t ≡ is_arm_body x && sp (block_weight (level r) rs)
      → Leads e env (λ u. row_parts i fs (own c u b (purpose_of fs) r rs) t) (λ u. (own c u b (purpose_of fs) r rs).refs) o at n q o' at' n' q'
      → Middle e env c sp s₀ rows o₀ at₀ n₀ q₀ b' (cond t (suc m) m) (pushed x (level r) i outside (numbered t m) fs) (suc i) rs o' at' n' q'
  middle_own {o' = o'} {at'} {n'} {q'} t g d w y l =
      let s : State = next c sp (standing b m fs) i r rs in
      record {
        is = record {
          rest = λ o'' at'' n'' z. (emitting_row g.is (row_leads c sp b m fs i r rs t d w y l)).rest o'' at'' n''
              (record { is = z.is ∙ ap (λ (v : State). run_walk e env c sp v (suc i) rs (place e o' at' n' q')) (sym (next_is c sp b m fs i r rs t d w y)) ∙ state_same e env c sp s (suc i) rs (place e o' at' n' q') });
        };
      }
