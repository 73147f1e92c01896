-- Line by line: what editing leaves of the bytes of parts.
use Prim.Native.Nat.{ℕ, zero, suc, ◌+◌, ◌*◌}
use Rattle.std.specs.Prelude.{◌≡◌, Bool, false, not, ◌&&◌, eqb}
use Rattle.std.proofs.Math.Path.{refl, ap}
use Rattle.std.proofs.Common.{sym, ◌∙◌}
use Rattle.std.proofs.Math.Bool.{true}
use Rattle.std.proofs.Math.Option.{some}
use mathlib.Core.List.{List, [], ◌∷◌, ◌++◌, append_assoc, append-nil}
use Rattle.std.proofs.Math.Nat.{add_assoc, zero-add}
use native.Mathlib.Omega.{arith}
use Rattle.std.proofs.Math.ListN.{replicate}
use Rattle.std.proofs.lemmas.List.{replicate-append-replicate}
use Rattle.std.proofs.lemmas.Bool.{not-true}
use Rattle.text.specs.Split.{starts_with}
use Rattle.plan.specs.Plan.{Environment}
use Rattle.text.specs.Sink.{spaces}
use Rattle.codegen.specs.Block.{words, overflow, Edge, opens, gives_false, ends, calls, What, line, edge, Part, line_bytes, edge_bytes, what_bytes, part_bytes, text_of}
use Rattle.codegen.specs.Piece.{plain, indent, Piece, bytes, render, break_piece, breaks}
use Rattle.codegen.specs.TakeOff.{Tag, closure, kept, overflowing, line_tags, first_line, other_lines, plain_return, spaces_off, edited, edit_lines}
use Rattle.codegen.specs.TakeOffLaws.{spaces_off_spaces}
use Rattle.splitting.specs.Cases.{and_left, and_right}
use Rattle.splitting.specs.Plains.{Clean, plain_append, plain_indent, plain_decimal, Seen, ended, inline, seen}
use Rattle.splitting.specs.Simulation.{unsplit_part, unsplit}

first_line_at : (u s : List ℕ) → plain u ≡ true → first_line (u ++ (10 ∷ s)) ≡ u
unfolding first_line
first_line_at [] s p = refl
first_line_at (c ∷ u) s p = rw (not-true (eqb c 10) (and_left (not (eqb c 10)) (plain u) p), first_line_at u s (and_right (not (eqb c 10)) (plain u) p))

other_lines_at : (u s : List ℕ) → plain u ≡ true → other_lines (u ++ (10 ∷ s)) ≡ s
unfolding other_lines
other_lines_at [] s p = refl
other_lines_at (c ∷ u) s p = rw (not-true (eqb c 10) (and_left (not (eqb c 10)) (plain u) p), other_lines_at u s (and_right (not (eqb c 10)) (plain u) p))

broken_at : (u s : List ℕ) → plain (u ++ (10 ∷ s)) ≡ false
broken_at [] s = refl
broken_at (c ∷ u) s = rw (broken_at u s) (go (not (eqb c 10)))
  where
    go : (b : Bool) → b && false ≡ false
    go true = refl
    go false = refl

-- one line, with what is left of it and of those after it
edit_line : (g : Tag) (gs : List Tag) (u v s r : List ℕ) → plain u ≡ true → edited g u ≡ some v → edit_lines gs s ≡ some r → edit_lines (g ∷ gs) (u ++ (10 ∷ s)) ≡ some (v ++ r)
unfolding edit_lines
edit_line g gs u v s r p h k = rw (broken_at u s, first_line_at u s p, other_lines_at u s p, h, k)

indent_add : (a b : ℕ) → indent (a + b) ≡ indent a ++ indent b
unfolding indent spaces
indent_add a b = let q : 4 * (a + b) ≡ 4 * a + 4 * b = omega arith in rw (q, ← replicate-append-replicate {A = ℕ} (4 * a) (4 * b) 32)

-- what is left of a line that is n closures deep
indent_off : (n : ℕ) (u : List ℕ) → spaces_off (4 * n) (indent n ++ u) ≡ some u
unfolding indent spaces
indent_off n u = spaces_off_spaces (4 * n) u

kept_off : (n : ℕ) (u : List ℕ) → edited (kept n) (indent n ++ u) ≡ some (u ++ (10 ∷ []))
unfolding edited
kept_off n u = rw (indent_off n u)

overflowing_off : (n : ℕ) (u : List ℕ) → edited (overflowing n) (indent n ++ u) ≡ some (plain_return u ++ (10 ∷ []))
unfolding edited
overflowing_off n u = rw (indent_off n u)

closure_off : (u : List ℕ) → edited closure u ≡ some []
unfolding edited
closure_off u = refl

pub edit_kept : (n : ℕ) (gs : List Tag) (u s r : List ℕ) → plain u ≡ true → edit_lines gs s ≡ some r → edit_lines (kept n ∷ gs) ((indent n ++ u) ++ (10 ∷ s)) ≡ some (u ++ (10 ∷ r))
edit_kept n gs u s r p k = edit_line (kept n) gs (indent n ++ u) (u ++ (10 ∷ [])) s r (plain_append (indent n) u (plain_indent n) p) (kept_off n u) k ∙ ap some (append_assoc u (10 ∷ []) r)

-- tags by what is around each part
unfoldable pub around_tags : List Part → List Tag
around_tags [] = []
around_tags (p ∷ ps) = line_tags p.around p.what ++ around_tags ps

pub text_append : (env : Environment) (ps qs : List Part) → text_of env (ps ++ qs) ≡ text_of env ps ++ text_of env qs
unfolding text_of
text_append env [] qs = refl
text_append env (p ∷ ps) qs = rw (text_append env ps qs, append_assoc)

module _ {env : Environment} (c : Clean env) where
  -- words that stand after the plain bytes u of their first line
  edit_words : (ps : List Piece) (n base : ℕ) (u : List ℕ) (gs : List Tag) (s r : List ℕ) → plain u ≡ true → edit_lines gs s ≡ some r
      → edit_lines (replicate (suc (breaks ps)) (kept n) ++ gs) ((indent n ++ u) ++ (render env (n + base) ps ++ (10 ∷ s))) ≡ some (u ++ (render env base ps ++ (10 ∷ r)))
  unfolding render breaks break_piece bytes
  edit_words [] n base u gs s r p k = edit_kept n gs u s r p k
  edit_words (x ∷ ps) n base u gs s r p k = go x (seen c x) (λ v q. edit_words ps n base v gs s r q k)
    where
      go : (x : Piece) → Seen env x
          → ((v : List ℕ) → plain v ≡ true → edit_lines (replicate (suc (breaks ps)) (kept n) ++ gs) ((indent n ++ v) ++ (render env (n + base) ps ++ (10 ∷ s))) ≡ some (v ++ (render env base ps ++ (10 ∷ r))))
          → edit_lines (replicate (suc (breaks (x ∷ ps))) (kept n) ++ gs) ((indent n ++ u) ++ (render env (n + base) (x ∷ ps) ++ (10 ∷ s))) ≡ some (u ++ (render env base (x ∷ ps) ++ (10 ∷ r)))
      go x (ended i) f =
          let q : 1 + breaks ps ≡ suc (breaks ps) = omega arith in
          let w : indent (n + base + i) ≡ indent n ++ indent (base + i) = rw add_assoc (indent_add n (base + i)) in
          rw (q, w) (edit_kept n _ u _ _ p (ap (edit_lines _) (append_assoc (indent n ++ indent (base + i)) _ _) ∙ f (indent (base + i)) (plain_indent (base + i)) ∙ ap some (sym (append_assoc (indent (base + i)) (render env base ps) _))))
      go x (inline {p = y} h e z) f = rw (z, zero-add, e (n + base) base) (simp append_assoc (simp append_assoc at (f (u ++ bytes env base y) (plain_append u (bytes env base y) p (h base)))))

  -- spaces before a text change nothing in where its `return true;` stands
  plain_return_spaces : (n : ℕ) (u : List ℕ) → plain_return (replicate n 32 ++ u) ≡ replicate n 32 ++ plain_return u
  unfolding plain_return starts_with
  plain_return_spaces zero u = refl
  plain_return_spaces (suc n) u = ap (λ (r : List ℕ). 32 ∷ r) (plain_return_spaces n u)

  plain_return_overflow : (n : ℕ) → plain_return (line_bytes env 0 n overflow) ≡ line_bytes env 0 0 overflow
  unfolding plain_return starts_with line_bytes
  plain_return_overflow zero = refl
  plain_return_overflow (suc n) = refl

  plain_overflow : (n : ℕ) → plain (line_bytes env 0 n overflow) ≡ true
  unfolding line_bytes
  plain_overflow zero = refl
  plain_overflow (suc n) = refl

  plain_return_line : (n base : ℕ) → plain_return (indent base ++ line_bytes env 0 n overflow) ≡ indent base ++ line_bytes env 0 0 overflow
  unfolding indent spaces
  plain_return_line n base = plain_return_spaces (4 * base) _ ∙ ap (λ (r : List ℕ). replicate (4 * base) 32 ++ r) (plain_return_overflow n)

  edit_overflow : (n base : ℕ) (gs : List Tag) (s r : List ℕ) → edit_lines gs s ≡ some r
      → edit_lines (overflowing n ∷ gs) (indent (n + base) ++ (line_bytes env 0 n overflow ++ (10 ∷ s))) ≡ some (indent base ++ (line_bytes env 0 0 overflow ++ (10 ∷ r)))
  edit_overflow n base gs s r k =
      rw (indent_add, append_assoc, ← append_assoc (indent base) (line_bytes env 0 n overflow) (10 ∷ s), ← append_assoc (indent n) (indent base ++ line_bytes env 0 n overflow) (10 ∷ s))
      (edit_line (overflowing n) gs (indent n ++ (indent base ++ line_bytes env 0 n overflow)) _ s r (plain_append (indent n) (indent base ++ line_bytes env 0 n overflow) (plain_indent n) (plain_append (indent base) (line_bytes env 0 n overflow) (plain_indent base) (plain_overflow n))) (overflowing_off n _) k
      ∙ rw (plain_return_line, append_assoc, append_assoc))

  plain_edge : (n : ℕ) (e : Edge) → plain (edge_bytes n e) ≡ true
  unfolding edge_bytes
  plain_edge n opens = refl
  plain_edge n gives_false = refl
  plain_edge n ends = refl
  plain_edge zero (calls k) = plain_decimal k
  plain_edge (suc n) (calls k) = plain_decimal k

  edit_edge : (d n : ℕ) (e : Edge) (gs : List Tag) (s r : List ℕ) → edit_lines gs s ≡ some r → edit_lines (closure ∷ gs) (indent d ++ (edge_bytes n e ++ (10 ∷ s))) ≡ some r
  edit_edge d n e gs s r k = rw (← append_assoc (indent d) (edge_bytes n e) (10 ∷ s)) (edit_line closure gs (indent d ++ edge_bytes n e) [] s r (plain_append (indent d) (edge_bytes n e) (plain_indent d) (plain_edge n e)) (closure_off _) k)

  part_bytes_then : (d k : ℕ) (w : What) (s : List ℕ) → part_bytes env d k w ++ s ≡ indent d ++ (what_bytes env d k w ++ (10 ∷ s))
  unfolding part_bytes
  part_bytes_then d k w s = append_assoc (indent d) (what_bytes env d k w ++ (10 ∷ [])) s ∙ ap (λ (r : List ℕ). indent d ++ r) (append_assoc (what_bytes env d k w) (10 ∷ []) s)

  -- a part, by what it is
  edit_what : (w : What) (p : Part) (n : ℕ) (gs : List Tag) (s r : List ℕ) → edit_lines gs s ≡ some r → edit_lines (line_tags n w ++ gs) (part_bytes env (n + p.base) n w ++ s) ≡ some (text_of env (unsplit_part p w) ++ r)
  unfolding unsplit_part text_of what_bytes line_bytes
  edit_what (line (words ps)) p n gs s r k =
      rw (part_bytes_then, append-nil, part_bytes_then, zero-add, indent_add) (edit_words ps n p.base (indent p.base) gs s r (plain_indent p.base) k)
  edit_what (line overflow) p n gs s r k = rw (part_bytes_then, append-nil, part_bytes_then, zero-add) (edit_overflow n p.base gs s r k)
  edit_what (edge e) p n gs s r k = rw part_bytes_then (edit_edge (n + p.base) n e gs s r k)

  -- the tags by what is around each part make of the text that of the parts without closures
  pub edit_parts : (ps : List Part) (gs : List Tag) (s r : List ℕ) → edit_lines gs s ≡ some r → edit_lines (around_tags ps ++ gs) (text_of env ps ++ s) ≡ some (text_of env (unsplit ps) ++ r)
  unfolding around_tags text_of unsplit
  edit_parts [] gs s r k = k
  edit_parts (p ∷ ps) gs s r k = rw (append_assoc, append_assoc, text_append, append_assoc) (edit_what p.what p p.around (around_tags ps ++ gs) (text_of env ps ++ s) _ (edit_parts ps gs s r k))
