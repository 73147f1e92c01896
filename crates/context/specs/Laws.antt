-- The bytes of the definition's parts that begin and end blocks and closures. Assumes nothing.
use Prim.Native.Nat.{ℕ, zero, suc, ◌+◌}
use Rattle.std.specs.Prelude.{◌≡◌, Bool, List, [], ◌∷◌, ◌++◌, length, ltb}
use Rattle.std.proofs.Math.Path.{refl}
use Rattle.std.proofs.Common.{sym, ap, ◌∙◌, append-nil, add-zero, lt-ltb}
use Rattle.std.proofs.Math.Bool.{true, false}
use Rattle.std.proofs.Math.Option.{Option, some, none}
use native.Mathlib.Omega.{arith}
use Rattle.text.specs.Sink.{Puts, view, put}
use Rattle.text.specs.SinkLaws.{view_held, view_past}
use Rattle.plan.specs.Plan.{Environment}
use Rattle.codegen.specs.Piece.{indent, bytes, render, odd_piece, odd_pieces}
use Rattle.codegen.specs.Block.{gives_false, ends, calls, Part, Purpose, one_arm, arms_of, arm_body, body, Frame, closures, place, end_closure, catchall, end_block, open_closure, iter_overflow_action, line_bytes, edge_bytes, what_bytes, part_bytes, text_of, odds_of}
use Rattle.splitting.specs.Lines.{text_append}
use Rattle.splitting.specs.Simulation.{odds_append}
use Rattle.emits.specs.Place.{with_sink, place_sink, place_cases}
use Rattle.emits.specs.Place as emits
use Rattle.emits.specs.Rows.{run_parts, PartsEmit}
use Rattle.context.specs.Closing.{line_of, overflow_action, call_bytes, opening_text, closure_text, catchall_text, block_text}

-- bytes that are put are the parts that they are the text of
pub parts_puts : {S : Type 0} {e : ℕ} {env : Environment} {ps : List Part} {o : List ℕ} {at n : ℕ} {s : S} {o' : List ℕ} {at' : ℕ} → odds_of ps ≡ 0 → Puts e (text_of env ps) o at o' at' → PartsEmit e env ps o at n s o' at' n s
unfolding run_parts with_sink put
parts_puts {e = e} {env} {ps} {o} {at} {n} {s} {o'} {at'} z p = record {
  is = place_sink e n s o' at' ∙ ap (with_sink e n s) p.is
      ∙ place_cases (λ x. with_sink e n s (put e (text_of env ps) (view e o at)) ≡ run_parts e env ps s x) e o at n s
      (λ h g. rw (view_held e o at h, z, add-zero) (sym (place_sink e n s _ _)))
      (λ h. rw (view_past e o at h))
      (λ h. sym (ap (with_sink e n s) p.is) ∙ sym (place_sink e n s o' at') ∙ emits.count_over e o' at' n s h);
}

-- is the frame a match of several arms?
abbrev pub is_several : Purpose → Bool
is_several one_arm = false
is_several (arms_of q) = true
is_several arm_body = false
is_several body = false

pub action_is : (k : ℕ) → iter_overflow_action k ≡ overflow_action (ltb 0 k)
unfolding overflow_action
action_is zero = refl
action_is (suc k) = rw (lt-ltb 0 (suc k) (omega arith))

module _ (env : Environment) (fs : List Frame) where
  abbrev pub around : ℕ
  around = closures fs + suc (length fs)

  deeper : closures fs + suc (suc (length fs)) ≡ suc around
  deeper = omega arith

  three_lines : (n : ℕ) → (indent (suc (suc around)) ++ (edge_bytes (suc (closures fs)) gives_false ++ (10 ∷ []))) ++ ((indent (suc around) ++ (edge_bytes (closures fs) ends ++ (10 ∷ []))) ++ (indent (suc around) ++ (edge_bytes (closures fs) (calls n) ++ (10 ∷ []))))
      ≡ closure_text (suc around) (ltb 0 (closures fs)) (some n)
  unfolding edge_bytes closure_text call_bytes line_of
  three_lines n = rw (action_is (closures fs))

  closure_is : (i : ℕ) (k : Option ℕ) → text_of env (end_closure i fs k) ≡ closure_text (suc around) (ltb 0 (closures fs)) k
  unfolding text_of end_closure part_bytes what_bytes closure_text
  closure_is i none = refl
  closure_is i (some n) = let z : suc (closures fs) + suc (suc (length fs)) ≡ suc (suc around) = omega arith in rw (append-nil, z, deeper) (three_lines n)

  catchall_is : (f : Frame) (p : Purpose) → text_of env (catchall f fs p) ≡ catchall_text (suc around) (is_several p)
  unfolding text_of catchall catchall_text part_bytes what_bytes line_bytes line_of render bytes
  catchall_is f one_arm = refl
  catchall_is f (arms_of q) = rw (append-nil, deeper)
  catchall_is f arm_body = refl
  catchall_is f body = refl

  pub block_is : (f : Frame) → text_of env (end_block f fs) ≡ block_text around (ltb 0 (closures fs)) f.closure (is_several f.purpose)
  unfolding text_of end_block block_text place part_bytes what_bytes line_bytes line_of render bytes
  block_is f = rw (text_append env, text_append env, closure_is, catchall_is, append-nil)

  pub opening_is : (i : ℕ) (b : Bool) → text_of env (open_closure i fs b) ≡ opening_text (suc around) b
  unfolding text_of open_closure opening_text part_bytes what_bytes edge_bytes line_of
  opening_is i true = rw (append-nil, deeper)
  opening_is i false = refl

closure_odds : (fs : List Frame) (i : ℕ) (k : Option ℕ) → odds_of (end_closure i fs k) ≡ 0
unfolding odds_of end_closure
closure_odds fs i none = refl
closure_odds fs i (some n) = refl

catchall_odds : (f : Frame) (fs : List Frame) (p : Purpose) → odds_of (catchall f fs p) ≡ 0
unfolding odds_of catchall odd_pieces odd_piece
catchall_odds f fs one_arm = refl
catchall_odds f fs (arms_of q) = refl
catchall_odds f fs arm_body = refl
catchall_odds f fs body = refl

pub block_odds : (f : Frame) (fs : List Frame) → odds_of (end_block f fs) ≡ 0
unfolding odds_of end_block place odd_pieces odd_piece
block_odds f fs = rw (odds_append, odds_append, closure_odds, catchall_odds)

pub opening_odds : (i : ℕ) (fs : List Frame) (b : Bool) → odds_of (open_closure i fs b) ≡ 0
unfolding odds_of open_closure
opening_odds i fs true = refl
opening_odds i fs false = refl
