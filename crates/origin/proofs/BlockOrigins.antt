-- What blocks and terms write: the literals and quoted texts of the parts of a block table are those of its origins, in order.
use Rattle.std.specs.Prelude.{ℕ, suc, ◌+◌, ◌≡◌, Bool, cond, ◌||◌, leb, eqb, get_or}
use Rattle.std.proofs.Math.Path.{refl}
use Rattle.std.proofs.Common.{sym, ap, arith}
use Rattle.std.proofs.Math.Bool.{true, false}
use Rattle.std.proofs.Math.Option.{Option, some, none}
use mathlib.Core.List.{List, [], ◌∷◌, ◌++◌, append_assoc, append-nil}
use Rattle.text.specs.Split.{same}
use Rattle.plan.specs.Plan.{FunctionKind, Options, Environment, Term, Generated}
use Rattle.plan.specs.Binding.{Binding, ConstBool, ConstInt, ConstPrim, Argument, Extractor, Constructor, Iterator, MakeVariant, MakeStruct, MakeSome, MatchSome, MatchTuple, MatchVariant, ExtractStruct}
use Rattle.plan.specs.Constraint as constraint
use Rattle.plan.specs.Constraint.{Constraint}
use Rattle.plan.specs.Row.{ControlFlow, Match, Equal, Loop, Return, Row, step, arm, level}
use Rattle.plan.specs.Lookup.{term_at, binding_at}
use Rattle.codegen.specs.Piece.{Piece, fix, brace}
use Rattle.codegen.specs.Writer.{Marks, insert, Writer, said, say, ◌▸◌}
use Rattle.codegen.specs.ReturnKind.{by_return_kind}
use Rattle.codegen.specs.Sema.{is_ref, ExternalSig, constructor_sig, is_external}
use Rattle.codegen.specs.Block.{Body, Line, words, overflow, line, Part, Purpose, one_arm, arms_of, arm_body, body, Own, buffer, iter_return, let_head, let_line, lets, one_arm_head, match_head, opening, nothing_written, matching, equal_head, loop_head, return_line, log_lines, returning, emit_check, emit_arm, own, Frame, State, place, end_closure, catchall, end_block, closing, purpose_of, left, restored, open_closure, row_parts, here, splits_here, next, written, walk, arm_count}
use Rattle.codegen.specs.Expr.{emit_expr, emit_source}
use Rattle.codegen.specs.Pattern.{bind_all, emit_constraint}
use Rattle.codegen.specs.Terms.{rowless, argument_lines, signature, ends_in_return, last_expr, term_end, body_of, start, splits, term_parts}
use Rattle.origin.specs.Names.{keep, around, at_row}
use Rattle.origin.proofs.NamesLaws.{scopes_of, names_of, lets_listed, at_row_same, around_keep_same, past_same}
use Rattle.origin.specs.Origin.{Origin, of_arm, of_name, of_return, of_declared, row_at, term_of, arm_int, row_int, if_int, expr_origins, list_origins, match_origins, check_origins, arm_origins, row_origins, rows_origins, last_origins, origins, Spelled, done, quietly, number, Words, unquoted, log_line, last_line, Written, in_words, at_overflow, at_closure, Parts, no_parts, one_part}
use Rattle.origin.proofs.PieceOrigins.{either, both, by_kind, Quiet, all_quiet, append, quiet_first, Writes, says, asks, ◌then◌, writes_said, says_quiet, after, Named, extractor_named, constructor_named, cloned_fine, emit_expr_fine, emit_source_fine, emit_constraint_fine}

module _ (o : Options) (e : Environment) (g : Generated) where
  -- what `body_of` is
  abbrev c : Body
  c = record { env = e; bindings = g.bindings; log = o.log; ret_kind = (constructor_sig (term_of e g)).ret_kind; term_name = (term_of e g).name }

  -- LINES AND PARTS

  data Lines (i : Option ℕ) : List Line → List Origin → Type 0 where
    no_lines : Lines i [] []
    one_line : {l : Line} {ls : List Line} {os us : List Origin} → Written e g i (line l) os → Lines i ls us → Lines i (l ∷ ls) (os ++ us)

  -- a line without quoted texts, and others after it
  bare : {i : Option ℕ} {ps : List Piece} {ls : List Line} {os us : List Origin} → Spelled e g false ps os → Lines i ls us → Lines i (words ps ∷ ls) (os ++ us)
  bare h k = one_line (in_words (unquoted h)) k

  -- lines with neither literals nor quoted texts after it
  bare_last : {i : Option ℕ} {ps : List Piece} {ls : List Line} {os : List Origin} → Spelled e g false ps os → Lines i ls [] → Lines i (words ps ∷ ls) os
  bare_last {i} {ps} {ls} {os} h k = let both : Lines i (words ps ∷ ls) (os ++ []) = bare h k in rw (append-nil os) at both

  lines_append : {i : Option ℕ} {ls ms : List Line} {os us : List Origin} → Lines i ls os → Lines i ms us → Lines i (ls ++ ms) (os ++ us)
  lines_append no_lines k = k
  lines_append {us = us} (one_line {os = x} {us = y} h hs) k = rw (append_assoc x y us) (one_line h (lines_append hs k))

  parts_append : {ps qs : List Part} {os us : List Origin} → Parts e g ps os → Parts e g qs us → Parts e g (ps ++ qs) (os ++ us)
  parts_append no_parts k = k
  parts_append {us = us} (one_part {os = x} {us = y} p h hs) k = rw (append_assoc x y us) (one_part p h (parts_append hs k))

  -- parts with neither literals nor quoted texts
  abbrev Bare : List Part → Type 0
  Bare ps = Parts e g ps []

  bare_after : {ps qs : List Part} {os : List Origin} → Parts e g ps os → Bare qs → Parts e g (ps ++ qs) os
  bare_after {os = os} h k = rw (append-nil os) at (parts_append h k)

  -- FRAMES

  place_fine : (i : Option ℕ) (fs : List Frame) {ls : List Line} {os : List Origin} → Lines i ls os → Parts e g (place i fs ls) os
  unfolding place
  place_fine i fs no_lines = no_parts
  place_fine i fs (one_line h hs) = one_part _ h (place_fine i fs hs)

  end_closure_fine : (i : ℕ) (fs : List Frame) (n : Option ℕ) → Bare (end_closure i fs n)
  unfolding end_closure
  end_closure_fine i fs none = no_parts
  end_closure_fine i fs (some n) = one_part _ (at_closure _) (one_part _ (at_closure _) (one_part _ (at_closure _) no_parts))

  catchall_fine : (f : Frame) (fs : List Frame) (p : Purpose) → Bare (catchall f fs p)
  unfolding catchall
  catchall_fine f fs one_arm = no_parts
  catchall_fine f fs (arms_of b) = one_part _ (in_words (unquoted (all_quiet refl))) no_parts
  catchall_fine f fs arm_body = no_parts
  catchall_fine f fs body = no_parts

  closing_fine : (l : ℕ) (fs : List Frame) → Bare (closing l fs)
  unfolding closing end_block
  closing_fine l [] = no_parts
  closing_fine l (f ∷ fs) =
      either Bare (leb l f.level)
      (parts_append (parts_append (end_closure_fine f.row fs f.closure) (parts_append (catchall_fine f fs f.purpose) (place_fine (some f.row) fs (bare_last (all_quiet refl) no_lines)))) (closing_fine l fs))
      no_parts

  -- ROWS

  -- what row i writes
  abbrev Owns : ℕ → Own → List Origin → Type 0
  Owns i w os = Lines (some i) w.lines os

  expr : (bound : Marks) (b : ℕ) → Writes e g (emit_expr e g.bindings bound b) (expr_origins o e g bound b)
  unfolding expr_origins
  expr bound b = emit_expr_fine bound b

  source : (bound : Marks) (b : ℕ) (k : Constraint) → Writes e g (emit_source e g.bindings bound b k) (expr_origins o e g bound b)
  unfolding expr_origins
  source bound b k = emit_source_fine bound b k

  opening_fine : (i : ℕ) (p : Purpose) (outside bound : Marks) {w : Writer} (r : Marks) {os : List Origin} → Writes e g w os → Owns i (opening p outside bound (said w r)) os
  unfolding opening
  opening_fine i p outside bound r h = bare_last (writes_said r h) no_lines

  buffer_fine : (b : ℕ) (x : ExternalSig) (f : FunctionKind) → Named x → Quiet e g (let_head b (buffer x f))
  unfolding buffer let_head same
  buffer_fine b x f n =
      by_kind (λ y. Quiet e g (let_head b y)) x.ret_kind
      (quietly _ refl (quietly _ refl (quietly _ refl (append (either (Quiet e g) (is_external f) (quietly _ refl (quiet_first x.func_name n.func (all_quiet refl))) (all_quiet refl)) (all_quiet refl))))) (all_quiet refl) (all_quiet refl)

  iter_return_fine : (b : ℕ) (k : Binding) → Quiet e g (let_head b (iter_return e k))
  unfolding iter_return let_head
  iter_return_fine b (ConstBool v) = all_quiet refl
  iter_return_fine b (ConstInt n v) = all_quiet refl
  iter_return_fine b (ConstPrim n) = all_quiet refl
  iter_return_fine b (Argument i) = all_quiet refl
  iter_return_fine b (Extractor m) = buffer_fine b _ (term_at e m).xtor (extractor_named (term_at e m))
  iter_return_fine b (Constructor m) = buffer_fine b _ (term_at e m).ctor (constructor_named (term_at e m))
  iter_return_fine b Iterator = all_quiet refl
  iter_return_fine b (MakeVariant n k) = all_quiet refl
  iter_return_fine b (MakeStruct n) = all_quiet refl
  iter_return_fine b MakeSome = all_quiet refl
  iter_return_fine b MatchSome = all_quiet refl
  iter_return_fine b (MatchTuple f) = all_quiet refl
  iter_return_fine b (MatchVariant f) = all_quiet refl
  iter_return_fine b (ExtractStruct f) = all_quiet refl

  lets_fine : (i : ℕ) (bs : List ℕ) (refs bound : Marks) → Lines (some i) (lets c bs refs bound).lines (list_origins o e g bs bound)
  unfolding lets let_line list_origins
  lets_fine i [] refs bound = no_lines
  lets_fine i (b ∷ bs) refs bound =
      bare (writes_said refs (says (iter_return_fine b (binding_at g.bindings b).binding) then after (expr bound b) (says_quiet refl))) (lets_fine i bs (said (let_line c bound b) refs).refs (insert bound b))

  -- a match whose only arm is that of row j: of a constant, and of what has no literal
  constant_fine : (bound : Marks) (b : ℕ) (k : Constraint) (bs : List (Option ℕ)) (j : ℕ) → row_int (row_at g j) ≡ arm_int k
      → Writes e g (say (fix "if " refl ∷ []) ▸ emit_expr e g.bindings bound b ▸ say (fix " == " refl ∷ []) ▸ emit_constraint e b k bs ▸ say (brace ∷ [])) (expr_origins o e g bound b ++ if_int (arm_int k) (of_arm j))
  constant_fine bound b k bs j h = says_quiet refl then (expr bound b then (says_quiet refl then after (emit_constraint_fine b k bs (of_arm j) h) (says_quiet refl)))

  pattern_fine : (bound : Marks) (b : ℕ) (k : Constraint) (bs : List (Option ℕ)) → Writes e g (emit_constraint e b k bs) []
      → Writes e g (say (fix "if let " refl ∷ []) ▸ emit_constraint e b k bs ▸ say (fix " = " refl ∷ []) ▸ emit_source e g.bindings bound b k ▸ say (brace ∷ [])) (expr_origins o e g bound b ++ [])
  pattern_fine bound b k bs h = says_quiet refl then (h then (says_quiet refl then (source bound b k then says_quiet refl)))

  one_arm_fine : (bound : Marks) (b : ℕ) (k : Constraint) (bs : List (Option ℕ)) (j : ℕ) → row_int (row_at g j) ≡ arm_int k → Writes e g (one_arm_head c bound b k bs) (expr_origins o e g bound b ++ if_int (arm_int k) (of_arm j))
  unfolding one_arm_head
  one_arm_fine bound b (constraint.ConstBool v) bs j h = constant_fine bound b (constraint.ConstBool v) bs j h
  one_arm_fine bound b (constraint.ConstInt n v) bs j h = constant_fine bound b (constraint.ConstInt n v) bs j h
  one_arm_fine bound b (constraint.ConstPrim n) bs j h = constant_fine bound b (constraint.ConstPrim n) bs j h
  one_arm_fine bound b (constraint.Variant n k) bs j h = pattern_fine bound b (constraint.Variant n k) bs (emit_constraint_fine b (constraint.Variant n k) bs (of_arm j) h)
  one_arm_fine bound b (constraint.Struct n) bs j h = pattern_fine bound b (constraint.Struct n) bs (emit_constraint_fine b (constraint.Struct n) bs (of_arm j) h)
  one_arm_fine bound b constraint.Some bs j h = pattern_fine bound b constraint.Some bs (emit_constraint_fine b constraint.Some bs (of_arm j) h)

  -- past the end of a list of rows
  abbrev none_such : Row
  none_such = arm 0 constraint.Some []

  -- row j is the first of rs, the rows after row i
  matching_fine : (i j : ℕ) (refs bound : Marks) (b n : ℕ) (rs : List Row) → get_or rs 0 none_such ≡ row_at g j → Owns i (matching c refs bound b n rs) (match_origins o e g j bound b n rs)
  unfolding matching nothing_written match_head match_origins
  matching_fine i j refs bound b n [] h = no_lines
  matching_fine i j refs bound b n (step l k bs ∷ rs) h = no_lines
  matching_fine i j refs bound b n (arm l k bs ∷ rs) h =
      both (Owns i) (eqb n 1)
      (opening_fine i one_arm bound (bind_all bs bound) refs (one_arm_fine (bind_all bs bound) b k bs j (ap row_int (sym h))))
      (opening_fine i (arms_of b) bound bound refs (says_quiet refl then after (source bound b k) (says_quiet refl)))

  log_fine : (i l r p : ℕ) (bs : List ℕ) → row_at g i ≡ step l (Return r p) bs → Lines (some i) (log_lines c p) (cond o.log (of_name ∷ of_return i ∷ []) [])
  unfolding log_lines
  log_fine i l r p bs h = both (Lines (some i)) o.log (one_line (in_words (log_line i l r p bs h)) no_lines) no_lines

  return_fine : (i : ℕ) (bound : Marks) (r : ℕ) (refs : Marks) → Lines (some i) (words (said (return_line c bound r) refs).pieces ∷ by_return_kind c.ret_kind (overflow ∷ []) [] []) (expr_origins o e g bound r)
  unfolding return_line
  return_fine i bound r refs =
      bare_last (writes_said refs
      (says (by_kind (λ x. Quiet e g (x ∷ [])) c.ret_kind (all_quiet refl) (all_quiet refl) (all_quiet refl)) then after (expr bound r) (asks cloned_fine then says (by_kind (λ x. Quiet e g (x ∷ [])) c.ret_kind (all_quiet refl) (all_quiet refl) (all_quiet refl)))))
      (by_kind (λ ls. Lines (some i) ls []) c.ret_kind (one_line at_overflow no_lines) no_lines no_lines)

  check_fine : (i : ℕ) (refs bound : Marks) (l : ℕ) (k : ControlFlow) (bs : List ℕ) (rs : List Row) → row_at g i ≡ step l k bs → get_or rs 0 none_such ≡ row_at g (suc i) → Owns i (emit_check c refs bound l k rs) (check_origins o e g i bound l k rs)
  unfolding emit_check equal_head loop_head returning check_origins
  check_fine i refs bound l (Match b) bs rs h f = matching_fine i (suc i) refs bound b (arm_count l rs) rs f
  check_fine i refs bound l (Equal a b) bs rs h f = opening_fine i body bound bound refs (says_quiet refl then (expr bound a then (says_quiet refl then after (expr bound b) (says_quiet refl))))
  check_fine i refs bound l (Loop r) bs rs h f = opening_fine i body bound (insert bound r) refs (says_quiet refl)
  check_fine i refs bound l (Return r p) bs rs h f = bare (all_quiet refl) (lines_append (log_fine i l r p bs h) (return_fine i bound r refs))

  arm_fine : (i : ℕ) (refs bound : Marks) (p : Purpose) (k : Constraint) (bs : List (Option ℕ)) → row_int (row_at g i) ≡ arm_int k → Owns i (emit_arm c refs bound p k bs) (arm_origins o e g i p k)
  unfolding emit_arm nothing_written arm_origins
  arm_fine i refs bound one_arm k bs h = no_lines
  arm_fine i refs bound (arms_of b) k bs h = opening_fine i arm_body bound (bind_all bs bound) refs (after (emit_constraint_fine b k bs (of_arm i) h) (says_quiet refl))
  arm_fine i refs bound arm_body k bs h = no_lines
  arm_fine i refs bound body k bs h = no_lines

  own_fine : (i : ℕ) (refs bound : Marks) (p : Purpose) (r : Row) (rs : List Row) → row_at g i ≡ r → get_or rs 0 none_such ≡ row_at g (suc i) → Owns i (own c refs bound p r rs) (row_origins o e g i bound p r rs)
  unfolding own row_origins
  own_fine i refs bound p (step l k bs) rs h f =
      lines_append (lets_fine i bs refs bound) (rw (← lets_listed c bs refs bound) (check_fine i (lets c bs refs bound).refs (lets c bs refs bound).bound l k bs rs h f))
  own_fine i refs bound p (arm l k bs) rs h f = arm_fine i refs bound p k bs (ap row_int h)

  -- the rows rs are those of the block table from row i on
  abbrev From : ℕ → List Row → Type 0
  From i rs = (k : ℕ) → get_or rs k none_such ≡ row_at g (i + k)

  tail : (i : ℕ) (r : Row) (rs : List Row) → From i (r ∷ rs) → From (suc i) rs
  tail i r rs h k = let z : suc i + k ≡ i + suc k = omega arith in rw z (h (suc k))

  first : (i : ℕ) (rs : List Row) → From i rs → get_or rs 0 none_such ≡ row_at g i
  first i rs h = let z : i + 0 ≡ i = omega arith in rw z at (h 0)

  all_rows : From 0 g.rows
  all_rows k = let z : 0 + k ≡ k = omega arith in rw z refl

  -- row i itself, with the names that there are before it
  here_fine : (t : State) (i : ℕ) (r : Row) (rs : List Row) → From i (r ∷ rs) → Owns i (here c t r rs) (row_origins o e g i (at_row (names_of t) r) (around (keep (level r) (names_of t).scopes)) r rs)
  unfolding here
  here_fine t i r rs h =
      rw (at_row_same t r, around_keep_same t r)
      (own_fine i t.refs (restored (level r) t.bound t.frames) (purpose_of (left (level r) t.frames)) r rs (sym (first i (r ∷ rs) h)) (first (suc i) rs (tail i r rs h)))

  walk_fine : (split : ℕ → Bool) (t : State) (i : ℕ) (rs : List Row) → From i rs → Parts e g (walk c split t i rs) (rows_origins o e g (names_of t) i rs)
  unfolding walk written row_parts open_closure rows_origins
  walk_fine split t i [] h = closing_fine 0 t.frames
  walk_fine split t i (r ∷ rs) h =
      parts_append
      (parts_append (closing_fine (level r) t.frames)
      (bare_after (place_fine (some i) (left (level r) t.frames) (here_fine t i r rs h))
      (either Bare (splits_here split (here c t r rs) r rs) (one_part _ (at_closure _) no_parts) no_parts)))
      (rw (past_same c split t i r rs) (walk_fine split (next c split t i r rs) (suc i) rs (tail i r rs h)))

  -- TERMS

  -- lines that have no row
  data Rowless : List (List Piece) → List Origin → Type 0 where
    no_more : Rowless [] []
    one_more : {l : List Piece} {ls : List (List Piece)} {os us : List Origin} → Words e g none l os → Rowless ls us → Rowless (l ∷ ls) (os ++ us)

  rowless_fine : (d : ℕ) {ls : List (List Piece)} {os : List Origin} → Rowless ls os → Parts e g (rowless d ls) os
  unfolding rowless
  rowless_fine d no_more = no_parts
  rowless_fine d (one_more h hs) = one_part _ (in_words h) (rowless_fine d hs)

  quiet_more : {l : List Piece} {ls : List (List Piece)} → Quiet e g l → Rowless ls [] → Rowless (l ∷ ls) []
  quiet_more h k = one_more (unquoted h) k

  argument_lines_fine : (i : ℕ) (ts : List ℕ) {ls : List (List Piece)} → Rowless ls [] → Rowless (argument_lines e i ts ++ ls) []
  unfolding argument_lines same
  argument_lines_fine i [] h = h
  argument_lines_fine i (t ∷ ts) h =
      quiet_more (quietly _ refl (number i (quietly _ refl (append (either (Quiet e g) (is_ref e t) (all_quiet refl) done) (all_quiet refl))))) (argument_lines_fine (suc i) ts h)

  signature_fine : (m : Term) → Bare (signature e m)
  unfolding signature same
  signature_fine m =
      let x : ExternalSig = constructor_sig m in
      parts_append
      (rowless_fine 0 (quiet_more done (quiet_more (all_quiet refl) (quiet_more (quietly _ refl (quiet_first x.func_name (constructor_named m).func (all_quiet refl))) no_more))))
      (parts_append
      (rowless_fine 1 (quiet_more (all_quiet refl) (argument_lines_fine 0 x.param_tys (by_kind (λ ls. Rowless ls []) x.ret_kind (quiet_more (all_quiet refl) no_more) no_more no_more))))
      (rowless_fine 0 (quiet_more (quietly _ refl (append (by_kind (Quiet e g) x.ret_kind (all_quiet refl) (all_quiet refl) (all_quiet refl)) (all_quiet refl))) no_more)))

  -- the last line, by whether the term is multi and whether it is partial
  last_fine : Rowless (last_expr (term_of e g)) (cond ((term_of e g).multi || (term_of e g).partial) [] (of_name ∷ of_declared ∷ []))
  unfolding last_expr constructor_sig by_return_kind
  last_fine = go (term_of e g).multi (term_of e g).partial refl refl
    where
      go : (a b : Bool) → (term_of e g).multi ≡ a → (term_of e g).partial ≡ b → Rowless (last_expr (term_of e g)) (cond (a || b) [] (of_name ∷ of_declared ∷ []))
      go true b h k = rw h no_more
      go false true h k = rw (h, k) (quiet_more (all_quiet refl) no_more)
      go false false h k = rw (h, k) (one_more last_line no_more)

  end_fine : Parts e g (term_end (term_of e g) g.rows) (last_origins o e g)
  unfolding term_end last_origins
  end_fine = bare_after (rowless_fine 1 (both Rowless (ends_in_return false g.rows) no_more last_fine)) (rowless_fine 0 (quiet_more (all_quiet refl) no_more))

  pub term_origins : Parts e g (term_parts o e g) (origins o e g)
  unfolding term_parts body_of origins start names_of scopes_of
  term_origins = parts_append (signature_fine (term_of e g)) (parts_append (walk_fine (splits o e g) (start e g) 0 g.rows all_rows) end_fine)
