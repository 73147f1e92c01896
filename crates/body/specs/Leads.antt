-- What code does that writes parts that go by the marks of references. Assumes nothing.
use Rattle.std.specs.Prelude.{◌≡◌, ℕ, suc, ◌+◌, ◌*◌, ◌≤◌}
use Rattle.std.proofs.Math.Path.{refl, sym, ap}
use Rattle.std.proofs.Common.{◌∙◌, add-zero, zero-add, arith}
use Rattle.std.proofs.Math.Option.{Option}
use mathlib.Core.List.{List, [], ◌∷◌, ◌++◌, append-nil}
use Rattle.std.proofs.Math.Nat.{add_assoc}
use Rattle.std.proofs.Math.ListN.{length, length-append}
use Rattle.std.proofs.lemmas.List.Edits.{sets}
use Rattle.text.specs.Codes.{codes}
use Rattle.text.specs.Sink.{put, view, spaces, Puts}
use Rattle.text.specs.SinkLaws.{sets_append, view_held, view_past}
use Rattle.plan.specs.Plan.{Environment}
use Rattle.codegen.specs.Piece.{indent, render, odd_pieces}
use Rattle.codegen.specs.Writer.{Marks, Writer, said}
use Rattle.codegen.specs.Block.{Line, words, overflow, What, line, Part, Frame, closures, iter_overflow_action, line_bytes, what_bytes, part_bytes, text_of, odd_what, odds_of}
use Rattle.codegen.specs.Block as block
use Rattle.splitting.specs.Lines.{text_append}
use Rattle.splitting.specs.Simulation.{odds_append}
use Rattle.emits.specs.Place.{Place, over, here, place, place_over, count_over, place_cases, with_sink, place_sink}
use Rattle.emits.specs.Emits.{run, Emits}
use Rattle.emits.specs.Rows.{run_parts, PartsEmit}

-- from here, what w writes leads there; a gives the marks after it
pub record Leads (e : ℕ) (env : Environment) (w : Marks → List Part) (a : Marks → Marks) (o : List ℕ) (at n : ℕ) (q : Marks) (o' : List ℕ) (at' n' : ℕ) (q' : Marks) : Type 0 where
  pub is : place e o' at' n' q' ≡ run_parts e env (w q) (a q) (place e o at n q)

-- ONE AFTER THE OTHER

-- bytes, a count and marks that go by the marks before
unfoldable move : ℕ → (Marks → List ℕ) → (Marks → ℕ) → (Marks → Marks) → Place Marks → Place Marks
move e t k a over = over
move e t k a (here o at n q) = place e (sets o at (t q)) (at + length (t q)) (n + k q) (a q)

module _ (e : ℕ) (t : Marks → List ℕ) (k : Marks → ℕ) (a : Marks → Marks) (t' : Marks → List ℕ) (k' : Marks → ℕ) (a' : Marks → Marks) where
  move_move : (x : Place Marks) → move e t' k' a' (move e t k a x) ≡ move e (λ q. t q ++ t' (a q)) (λ q. k q + k' (a q)) (λ q. a' (a q)) x
  unfolding move
  move_move over = refl
  move_move (here o at n q) =
      place_cases (λ x. move e t' k' a' x ≡ move e (λ r. t r ++ t' (a r)) (λ r. k r + k' (a r)) (λ r. a' (a r)) (here o at n q)) e (sets o at (t q)) (at + length (t q)) (n + k q) (a q)
      (λ h g. rw (sets_append, length-append, ← add_assoc, ← add_assoc))
      (λ h. sym (place_over e _ _ _ _ (rw length-append (omega arith))))
      (λ h. sym (count_over e _ _ _ _ (omega arith)))

-- parts are moved by their text and their odd literals
module _ (e : ℕ) (env : Environment) (w : Marks → List Part) (a : Marks → Marks) (o : List ℕ) (at n : ℕ) (q : Marks) where
  parts_move : run_parts e env (w q) (a q) (place e o at n q) ≡ move e (λ r. text_of env (w r)) (λ r. odds_of (w r)) a (place e o at n q)
  unfolding run_parts move
  parts_move = place_cases (λ x. run_parts e env (w q) (a q) x ≡ move e (λ r. text_of env (w r)) (λ r. odds_of (w r)) a x) e o at n q (λ h g. refl) (λ h. refl) (λ h. refl)

infixr 5 ◌⟫ₗ◌
pub ◌⟫ₗ◌ : {e : ℕ} {env : Environment} {w : Marks → List Part} {a : Marks → Marks} {w' : Marks → List Part} {a' : Marks → Marks} {o : List ℕ} {at n : ℕ} {q : Marks} {o₁ : List ℕ} {at₁ n₁ : ℕ} {q₁ : Marks} {o₂ : List ℕ} {at₂ n₂ : ℕ} {q₂ : Marks}
    → Leads e env w a o at n q o₁ at₁ n₁ q₁ → Leads e env w' a' o₁ at₁ n₁ q₁ o₂ at₂ n₂ q₂ → Leads e env (λ r. w r ++ w' (a r)) (λ r. a' (a r)) o at n q o₂ at₂ n₂ q₂
◌⟫ₗ◌ {e} {env} {w} {a} {w'} {a'} {o} {at} {n} {q} {o₁} {at₁} {n₁} {q₁} x y = record {
  is = y.is ∙ parts_move e env w' a' o₁ at₁ n₁ q₁
      ∙ ap (move e (λ r. text_of env (w' r)) (λ r. odds_of (w' r)) a') (x.is ∙ parts_move e env w a o at n q)
      ∙ move_move e (λ r. text_of env (w r)) (λ r. odds_of (w r)) a (λ r. text_of env (w' r)) (λ r. odds_of (w' r)) a' (place e o at n q)
      ∙ sym (parts_move e env (λ r. w r ++ w' (a r)) (λ r. a' (a r)) o at n q ∙ same);
}
  where
    same : move e (λ r. text_of env (w r ++ w' (a r))) (λ r. odds_of (w r ++ w' (a r))) (λ r. a' (a r)) (place e o at n q) ≡ move e (λ r. text_of env (w r) ++ text_of env (w' (a r))) (λ r. odds_of (w r) + odds_of (w' (a r))) (λ r. a' (a r)) (place e o at n q)
    same = simp (text_append, odds_append)

-- nothing
pub leads_none : {e : ℕ} {env : Environment} {o : List ℕ} {at n : ℕ} {q : Marks} → Leads e env (λ r. []) (λ r. r) o at n q o at n q
unfolding run_parts text_of odds_of
leads_none {e} {env} {o} {at} {n} {q} = record { is = place_cases (λ x. place e o at n q ≡ run_parts e env [] q x) e o at n q (λ h g. simp add-zero) (λ h. place_over e o at n q h) (λ h. count_over e o at n q h) }

-- past the room nothing is known, and nothing need be done
pub leads_past : {e : ℕ} {env : Environment} {w : Marks → List Part} {a : Marks → Marks} {o : List ℕ} {at n : ℕ} {q : Marks} {o' : List ℕ} {at' n' : ℕ} {q' : Marks} → e ≤ at → e ≤ at' → Leads e env w a o at n q o' at' n' q'
unfolding run_parts
leads_past {e} {env} {w} {a} {o} {at} {n} {q} {o'} {at'} {n'} {q'} h g = record { is = rw (place_over e o at n q h, place_over e o' at' n' q' g) }

-- only the marks that there are count
pub leads_same : {e : ℕ} {env : Environment} {w : Marks → List Part} {a : Marks → Marks} {w' : Marks → List Part} {a' : Marks → Marks} {o : List ℕ} {at n : ℕ} {q : Marks} {o' : List ℕ} {at' n' : ℕ} {q' : Marks}
    → w q ≡ w' q → a q ≡ a' q → Leads e env w a o at n q o' at' n' q' → Leads e env w' a' o at n q o' at' n' q'
leads_same {e} {env} {o = o} {at} {n} {q} h g x = record { is = rw (← h, ← g) x.is }

-- parts that go by no mark
pub leads_parts : {e : ℕ} {env : Environment} {ps : List Part} {o : List ℕ} {at n : ℕ} {q : Marks} {o' : List ℕ} {at' n' : ℕ} → PartsEmit e env ps o at n q o' at' n' q → Leads e env (λ r. ps) (λ r. r) o at n q o' at' n' q
leads_parts x = record { is = x.is }

-- LINES

puts_move : {e : ℕ} {t o : List ℕ} {at : ℕ} {o' : List ℕ} {at' : ℕ} (n : ℕ) (q : Marks) → Puts e t o at o' at' → place e o' at' n q ≡ move e (λ r. t) (λ r. 0) (λ r. r) (place e o at n q)
unfolding move put with_sink
puts_move {e} {t} {o} {at} {o'} {at'} n q p =
    place_sink e n q o' at' ∙ ap (with_sink e n q) p.is
    ∙ place_cases (λ x. with_sink e n q (put e t (view e o at)) ≡ move e (λ r. t) (λ r. 0) (λ r. r) x) e o at n q
    (λ h g. rw (view_held e o at h, add-zero) (sym (place_sink e n q (sets o at t) (at + length t))))
    (λ h. rw (view_past e o at h))
    (λ h. sym (ap (with_sink e n q) p.is) ∙ sym (place_sink e n q o' at') ∙ count_over e o' at' n q h)

run_move : (e : ℕ) (env : Environment) (d : ℕ) (v : Writer) (x : Place Marks) → run e env d v x ≡ move e (λ r. render env d (said v r).pieces) (λ r. odd_pieces (said v r).pieces) (λ r. (said v r).refs) x
unfolding run move
run_move e env d v over = refl
run_move e env d v (here o at n q) = refl

-- a line of a row, whose base and closures make its depth
module _ {e : ℕ} {env : Environment} {i : Option ℕ} {base around d : ℕ} {o : List ℕ} {at : ℕ} {o₁ : List ℕ} {at₁ : ℕ} {o₂ : List ℕ} {at₂ : ℕ} {o' : List ℕ} {at' : ℕ} {n : ℕ} {q : Marks} where
  part_move : {n' : ℕ} {q' : Marks} (v : Marks → What) (a : Marks → Marks) → d ≡ around + base → Puts e (spaces (4 * d)) o at o₁ at₁
      → place e o₂ at₂ n' q' ≡ move e (λ r. what_bytes env d around (v r)) (λ r. odd_what (v r)) a (place e o₁ at₁ n q)
      → Puts e (10 ∷ []) o₂ at₂ o' at'
      → Leads e env (λ r. record { row = i; base = base; around = around; what = v r } ∷ []) a o at n q o' at' n' q'
  unfolding text_of odds_of part_bytes indent
  part_move {n'} {q'} v a h x y z = record {
    is = puts_move n' q' z ∙ ap (move e (λ r. 10 ∷ []) (λ r. 0) (λ r. r)) (y ∙ ap (move e (λ r. what_bytes env d around (v r)) (λ r. odd_what (v r)) a) (puts_move n q x))
        ∙ move_move e _ _ _ _ _ _ _ ∙ move_move e _ _ _ _ _ _ _
        ∙ sym (parts_move e env (λ r. record { row = i; base = base; around = around; what = v r } ∷ []) a o at n q ∙ simp (← h, append-nil, zero-add));
  }

  -- words
  pub leads_words : {v : Writer} {n' : ℕ} {q' : Marks} → d ≡ around + base → Puts e (spaces (4 * d)) o at o₁ at₁ → Emits e env d v o₁ at₁ n q o₂ at₂ n' q' → Puts e (10 ∷ []) o₂ at₂ o' at'
      → Leads e env (λ r. record { row = i; base = base; around = around; what = line (words (said v r).pieces) } ∷ []) (λ r. (said v r).refs) o at n q o' at' n' q'
  unfolding what_bytes line_bytes
  leads_words {v} h x y z = part_move (λ r. line (words (said v r).pieces)) (λ r. (said v r).refs) h x (y.is ∙ run_move e env d v (place e o₁ at₁ n q)) z

  -- what goes by no mark, and has no literal
  pub leads_what : {w : What} → odd_what w ≡ 0 → d ≡ around + base → Puts e (spaces (4 * d)) o at o₁ at₁ → Puts e (what_bytes env d around w) o₁ at₁ o₂ at₂ → Puts e (10 ∷ []) o₂ at₂ o' at'
      → Leads e env (λ r. record { row = i; base = base; around = around; what = w } ∷ []) (λ r. r) o at n q o' at' n q
  leads_what {w} g h x y z = part_move (λ r. w) (λ r. r) h x (rw g (puts_move n q y)) z

-- THE LINES OF A ROW, inside frames

pub place_append : (i : Option ℕ) (fs : List Frame) (ls ms : List Line) → block.place i fs (ls ++ ms) ≡ block.place i fs ls ++ block.place i fs ms
unfolding block.place
place_append i fs [] ms = refl
place_append i fs (l ∷ ls) ms = rw (place_append i fs ls ms)

-- from here, the lines x of row i, inside the frames fs, lead there
pub record LinesLead (e : ℕ) (env : Environment) (i : Option ℕ) (fs : List Frame) (x : Marks → List Line) (a : Marks → Marks) (o : List ℕ) (at n : ℕ) (q : Marks) (o' : List ℕ) (at' n' : ℕ) (q' : Marks) : Type 0 where
  pub is : Leads e env (λ r. block.place i fs (x r)) a o at n q o' at' n' q'

module _ {e : ℕ} {env : Environment} {i : Option ℕ} {fs : List Frame} where
  infixr 5 ◌⟫ᵢ◌
  pub ◌⟫ᵢ◌ : {x y : Marks → List Line} {a b : Marks → Marks} {o : List ℕ} {at n : ℕ} {q : Marks} {o₁ : List ℕ} {at₁ n₁ : ℕ} {q₁ : Marks} {o₂ : List ℕ} {at₂ n₂ : ℕ} {q₂ : Marks}
      → LinesLead e env i fs x a o at n q o₁ at₁ n₁ q₁ → LinesLead e env i fs y b o₁ at₁ n₁ q₁ o₂ at₂ n₂ q₂ → LinesLead e env i fs (λ r. x r ++ y (a r)) (λ r. b (a r)) o at n q o₂ at₂ n₂ q₂
  ◌⟫ᵢ◌ {x} {y} {a} {q = q} u v = record { is = leads_same (sym (place_append i fs (x q) (y (a q)))) refl (u.is ⟫ₗ v.is) }

  pub lines_none : {o : List ℕ} {at n : ℕ} {q : Marks} → LinesLead e env i fs (λ r. []) (λ r. r) o at n q o at n q
  unfolding block.place
  lines_none = record { is = leads_none }

  pub lines_past : {x : Marks → List Line} {a : Marks → Marks} {o : List ℕ} {at n : ℕ} {q : Marks} {o' : List ℕ} {at' n' : ℕ} {q' : Marks} → e ≤ at → e ≤ at' → LinesLead e env i fs x a o at n q o' at' n' q'
  lines_past h g = record { is = leads_past h g }

  pub lines_same : {x y : Marks → List Line} {a b : Marks → Marks} {o : List ℕ} {at n : ℕ} {q : Marks} {o' : List ℕ} {at' n' : ℕ} {q' : Marks} → x q ≡ y q → a q ≡ b q → LinesLead e env i fs x a o at n q o' at' n' q' → LinesLead e env i fs y b o at n q o' at' n' q'
  lines_same h g u = record { is = leads_same (ap (block.place i fs) h) g u.is }

-- the line of a writer, and the marks after it
abbrev pub said_line : Writer → Marks → List Line
said_line v r = words (said v r).pieces ∷ []

abbrev pub said_refs : Writer → Marks → Marks
said_refs v r = (said v r).refs

module _ {e : ℕ} {env : Environment} {i : Option ℕ} {fs : List Frame} {d : ℕ} {o : List ℕ} {at : ℕ} {o₁ : List ℕ} {at₁ : ℕ} {o₂ : List ℕ} {at₂ : ℕ} {o' : List ℕ} {at' : ℕ} {n : ℕ} {q : Marks} where
  -- words
  pub lines_words : {v : Writer} {n' : ℕ} {q' : Marks} → d ≡ closures fs + suc (length fs) → Puts e (spaces (4 * d)) o at o₁ at₁ → Emits e env d v o₁ at₁ n q o₂ at₂ n' q' → Puts e (10 ∷ []) o₂ at₂ o' at'
      → LinesLead e env i fs (said_line v) (said_refs v) o at n q o' at' n' q'
  unfolding block.place
  lines_words h x y z = record { is = leads_words h x y z }

  -- the overflow line
  pub lines_overflow : d ≡ closures fs + suc (length fs) → Puts e (spaces (4 * d)) o at o₁ at₁
      → Puts e (codes "if returns.len() >= MAX_ISLE_RETURNS { " ++ (iter_overflow_action (closures fs) ++ codes " }")) o₁ at₁ o₂ at₂ → Puts e (10 ∷ []) o₂ at₂ o' at'
      → LinesLead e env i fs (λ r. overflow ∷ []) (λ r. r) o at n q o' at' n q
  unfolding block.place what_bytes line_bytes
  lines_overflow h x y z = record { is = leads_what {w = line overflow} refl h x y z }
