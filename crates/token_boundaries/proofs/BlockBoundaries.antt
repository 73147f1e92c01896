-- What blocks and terms write: in each line each literal and each quoted text stands as it must. Assumes nothing.
use Rattle.std.specs.Prelude.{ℕ, suc, ◌≡◌, Bool, true, false, cond, ◌&&◌, leb, eqb, get_or}
use Rattle.std.proofs.Math.Path.{refl}
use Rattle.std.proofs.Math.Option.{Option, some, none}
use mathlib.Core.List.{List, [], ◌∷◌, ◌++◌}
use Rattle.plan.specs.Plan.{FunctionKind, absent, internal, external, Options, Environment, Term, Generated}
use Rattle.plan.specs.Binding.{Binding, ConstBool, ConstInt, ConstPrim, Argument, Extractor, Constructor, Iterator, MakeVariant, MakeStruct, MakeSome, MatchSome, MatchTuple, MatchVariant, ExtractStruct}
use Rattle.plan.specs.Constraint.{Constraint}
use Rattle.plan.specs.Row.{ControlFlow, Match, Equal, Loop, Return, Row, step, arm, level}
use Rattle.plan.specs.Lookup.{term_at, binding_at}
use Rattle.codegen.specs.Piece.{Piece, fix, type, num, brace}
use Rattle.codegen.specs.Writer.{Marks, insert, Writer, said, say}
use Rattle.codegen.specs.Sema.{is_ref, ExternalSig, func_name_of, extractor_sig, constructor_sig, is_external}
use Rattle.codegen.specs.Block.{Body, Line, words, overflow, What, line, edge, Part, Purpose, one_arm, arms_of, arm_body, body, Own, buffer, iter_return, let_head, let_line, lets, is_constant, one_arm_head, match_head, opening, nothing_written, matching, equal_head, loop_head, return_line, log_lines, returning, emit_check, emit_arm, own, Frame, State, place, end_closure, catchall, end_block, closing, purpose_of, left, restored, open_closure, row_parts, here, splits_here, next, written, walk, arm_count}
use Rattle.codegen.specs.Expr.{emit_expr}
use Rattle.codegen.specs.Pattern.{bind_all}
use Rattle.codegen.specs.Terms.{rowless, argument_lines, signature, ends_in_return, last_expr, term_end, body_of, start, splits, term_parts, all_parts}
use Rattle.splitting.specs.Cases.{and_left, and_right, and_both}
use Rattle.origin.proofs.PieceOrigins.{either, by_kind}
use Rattle.token_boundaries.specs.PieceBoundaries.{separated, is_separated, sound, run, Leads, keeps, separates, writes, closes, asks, ◌⨾◌}
use Rattle.token_boundaries.proofs.ExprBoundaries.{Value, cloned_leads, emit_expr_leads, emit_source_leads, emit_constraint_leads}

-- of a line, which begins where a token may begin
abbrev Sound : List Piece → Type 0
Sound ps = sound (run separated ps) ≡ true

abbrev line_sound : Line → Bool
line_sound (words ps) = sound (run separated ps)
line_sound overflow = true

abbrev pub what_sound : What → Bool
what_sound (line l) = line_sound l
what_sound (edge g) = true

abbrev lines_sound : List Line → Bool
lines_sound [] = true
lines_sound (l ∷ ls) = line_sound l && lines_sound ls

abbrev pub parts_sound : List Part → Bool
parts_sound [] = true
parts_sound (p ∷ ps) = what_sound p.what && parts_sound ps

abbrev pieces_sound : List (List Piece) → Bool
pieces_sound [] = true
pieces_sound (l ∷ ls) = sound (run separated l) && pieces_sound ls

abbrev Lines : List Line → Type 0
Lines ls = lines_sound ls ≡ true

abbrev Parts : List Part → Type 0
Parts ps = parts_sound ps ≡ true

said_sound : {w : Writer} (r : Marks) → Value w → Sound (said w r).pieces
said_sound r h = h.leads separated r refl

lines_append : (ls ms : List Line) → Lines ls → Lines ms → Lines (ls ++ ms)
lines_append [] ms h g = g
lines_append (l ∷ ls) ms h g = and_both (and_left (line_sound l) (lines_sound ls) h) (lines_append ls ms (and_right (line_sound l) (lines_sound ls) h) g)

parts_append : (ps qs : List Part) → Parts ps → Parts qs → Parts (ps ++ qs)
parts_append [] qs h g = g
parts_append (p ∷ ps) qs h g = and_both (and_left (what_sound p.what) (parts_sound ps) h) (parts_append ps qs (and_right (what_sound p.what) (parts_sound ps) h) g)

-- FRAMES

place_sound : (i : Option ℕ) (fs : List Frame) (ls : List Line) → Lines ls → Parts (place i fs ls)
unfolding place
place_sound i fs [] h = refl
place_sound i fs (l ∷ ls) h = and_both (and_left (line_sound l) (lines_sound ls) h) (place_sound i fs ls (and_right (line_sound l) (lines_sound ls) h))

end_closure_sound : (i : ℕ) (fs : List Frame) (n : Option ℕ) → Parts (end_closure i fs n)
unfolding end_closure
end_closure_sound i fs none = refl
end_closure_sound i fs (some n) = refl

catchall_sound : (f : Frame) (fs : List Frame) (p : Purpose) → Parts (catchall f fs p)
unfolding catchall
catchall_sound f fs one_arm = refl
catchall_sound f fs (arms_of q) = refl
catchall_sound f fs arm_body = refl
catchall_sound f fs body = refl

closing_sound : (l : ℕ) (fs : List Frame) → Parts (closing l fs)
unfolding closing end_block
closing_sound l [] = refl
closing_sound l (f ∷ fs) =
    either Parts (leb l f.level)
    (parts_append (end_block f fs) _ (parts_append (end_closure f.row fs f.closure) _ (end_closure_sound f.row fs f.closure) (parts_append (catchall f fs f.purpose) _ (catchall_sound f fs f.purpose) (place_sound (some f.row) fs _ refl))) (closing_sound l fs))
    refl

-- ROWS

-- each line that a row writes
abbrev Owns : Own → Type 0
Owns o = Lines o.lines

opening_sound : (p : Purpose) (outside bound : Marks) (w : Writer) (r : Marks) → Value w → Owns (opening p outside bound (said w r))
unfolding opening
opening_sound p outside bound w r h = and_both (said_sound r h) refl

-- the beginning of a `let`, up to its value
buffer_leads : (b : ℕ) (t : Piece) (m : Term) (k : FunctionKind) → Leads is_separated (say (let_head b (some (cond (is_external k) (fix "C::" refl ∷ func_name_of k t m ++ (fix "_returns" refl ∷ [])) (fix "ContextIterWrapper::<ConstructorVec<_>, _>" refl ∷ []))))) is_separated
unfolding let_head func_name_of is_external
buffer_leads b t m absent = keeps refl
buffer_leads b t m internal = keeps refl
buffer_leads b t m (external n) = keeps refl

let_begins : (b : ℕ) → Leads is_separated (say (let_head b none)) is_separated
unfolding let_head
let_begins b = keeps refl

iter_return_leads : (e : Environment) (b : ℕ) (k : Binding) → Leads is_separated (say (let_head b (iter_return e k))) is_separated
unfolding iter_return buffer extractor_sig constructor_sig
iter_return_leads e b (ConstBool v) = let_begins b
iter_return_leads e b (ConstInt n v) = let_begins b
iter_return_leads e b (ConstPrim n) = let_begins b
iter_return_leads e b (Argument i) = let_begins b
iter_return_leads e b (Extractor m) = by_kind (λ o. Leads is_separated (say (let_head b o)) is_separated) (extractor_sig (term_at e m)).ret_kind (buffer_leads b _ (term_at e m) (term_at e m).xtor) (let_begins b) (let_begins b)
iter_return_leads e b (Constructor m) = by_kind (λ o. Leads is_separated (say (let_head b o)) is_separated) (constructor_sig (term_at e m)).ret_kind (buffer_leads b _ (term_at e m) (term_at e m).ctor) (let_begins b) (let_begins b)
iter_return_leads e b Iterator = let_begins b
iter_return_leads e b (MakeVariant n k) = let_begins b
iter_return_leads e b (MakeStruct n) = let_begins b
iter_return_leads e b MakeSome = let_begins b
iter_return_leads e b MatchSome = let_begins b
iter_return_leads e b (MatchTuple f) = let_begins b
iter_return_leads e b (MatchVariant f) = let_begins b
iter_return_leads e b (ExtractStruct f) = let_begins b

module _ (c : Body) where
  expr : (bound : Marks) (b : ℕ) → Value (emit_expr c.env c.bindings bound b)
  expr bound b = emit_expr_leads c.env c.bindings bound b

  lets_sound : (bs : List ℕ) (refs bound : Marks) → Lines (lets c bs refs bound).lines
  unfolding lets let_line
  lets_sound [] refs bound = refl
  lets_sound (b ∷ bs) refs bound =
      and_both (said_sound {w = let_line c bound b} refs (iter_return_leads c.env b (binding_at c.bindings b).binding ⨾ expr bound b ⨾ closes refl))
      (lets_sound bs (said (let_line c bound b) refs).refs (insert bound b))

  one_arm_leads : (bound : Marks) (q : ℕ) (k : Constraint) (bs : List (Option ℕ)) → Value (one_arm_head c bound q k bs)
  unfolding one_arm_head
  one_arm_leads bound q k bs =
      either Value (is_constant k)
      (keeps refl ⨾ expr bound q ⨾ separates refl ⨾ emit_constraint_leads c.env q k bs ⨾ closes refl)
      (keeps refl ⨾ emit_constraint_leads c.env q k bs ⨾ separates refl ⨾ emit_source_leads c.env c.bindings bound q k ⨾ closes refl)

  matching_sound : (refs bound : Marks) (q n : ℕ) (rs : List Row) → Owns (matching c refs bound q n rs)
  unfolding matching nothing_written match_head
  matching_sound refs bound q n [] = refl
  matching_sound refs bound q n (step l k bs ∷ rs) = refl
  matching_sound refs bound q n (arm l k bs ∷ rs) =
      either Owns (eqb n 1)
      (opening_sound one_arm bound _ (one_arm_head c (bind_all bs bound) q k bs) refs (one_arm_leads (bind_all bs bound) q k bs))
      (opening_sound (arms_of q) bound bound (match_head c bound q k) refs (keeps refl ⨾ emit_source_leads c.env c.bindings bound q k ⨾ closes refl))

  returning_sound : (bound : Marks) (r p : ℕ) (refs : Marks) → Owns (returning c bound r p refs)
  unfolding returning log_lines return_line
  returning_sound bound r p refs =
      lines_append (log_lines c p) _ (either Lines c.log refl refl)
      (and_both (said_sound {w = return_line c bound r} refs
      (by_kind (λ x. Leads is_separated (say (x ∷ [])) is_separated) c.ret_kind (keeps refl) (keeps refl) (keeps refl)
      ⨾ expr bound r ⨾ asks cloned_leads ⨾ by_kind (λ x. Leads sound (say (x ∷ [])) sound) c.ret_kind (closes refl) (closes refl) (closes refl)))
      (by_kind Lines c.ret_kind refl refl refl))

  check_sound : (refs bound : Marks) (l : ℕ) (k : ControlFlow) (rs : List Row) → Owns (emit_check c refs bound l k rs)
  unfolding emit_check equal_head loop_head
  check_sound refs bound l (Match q) rs = matching_sound refs bound q (arm_count l rs) rs
  check_sound refs bound l (Equal a b) rs = opening_sound body bound bound (equal_head c bound a b) refs (keeps refl ⨾ expr bound a ⨾ separates refl ⨾ expr bound b ⨾ closes refl)
  check_sound refs bound l (Loop r) rs = opening_sound body bound (insert bound r) (say (loop_head r (get_or (binding_at c.bindings r).sources 0 0))) refs (writes refl)
  check_sound refs bound l (Return r p) rs = returning_sound bound r p refs

  arm_sound : (refs bound : Marks) (p : Purpose) (k : Constraint) (bs : List (Option ℕ)) → Owns (emit_arm c refs bound p k bs)
  unfolding emit_arm nothing_written
  arm_sound refs bound one_arm k bs = refl
  arm_sound refs bound (arms_of q) k bs = opening_sound arm_body bound (bind_all bs bound) _ refs (emit_constraint_leads c.env q k bs ⨾ closes refl)
  arm_sound refs bound arm_body k bs = refl
  arm_sound refs bound body k bs = refl

  own_sound : (refs bound : Marks) (p : Purpose) (r : Row) (rs : List Row) → Owns (own c refs bound p r rs)
  unfolding own
  own_sound refs bound p (step l k bs) rs =
      lines_append (lets c bs refs bound).lines _ (lets_sound bs refs bound) (check_sound (lets c bs refs bound).refs (lets c bs refs bound).bound l k rs)
  own_sound refs bound p (arm l k bs) rs = arm_sound refs bound p k bs

  walk_sound : (splits : ℕ → Bool) (s : State) (i : ℕ) (rs : List Row) → Parts (walk c splits s i rs)
  unfolding walk written row_parts open_closure here
  walk_sound splits s i [] = closing_sound 0 s.frames
  walk_sound splits s i (r ∷ rs) =
      let o : Own = here c s r rs in
      parts_append (written c splits s i r rs) _
      (parts_append (closing (level r) s.frames) _ (closing_sound (level r) s.frames)
      (parts_append (place (some i) (left (level r) s.frames) o.lines) _
      (place_sound (some i) (left (level r) s.frames) o.lines (own_sound s.refs (restored (level r) s.bound s.frames) (purpose_of (left (level r) s.frames)) r rs))
      (either Parts (splits_here splits o r rs) refl refl)))
      (walk_sound splits (next c splits s i r rs) (suc i) rs)

-- TERMS

rowless_sound : (d : ℕ) (ls : List (List Piece)) → pieces_sound ls ≡ true → Parts (rowless d ls)
unfolding rowless
rowless_sound d [] h = refl
rowless_sound d (l ∷ ls) h = and_both (and_left (sound (run separated l)) (pieces_sound ls) h) (rowless_sound d ls (and_right (sound (run separated l)) (pieces_sound ls) h))

pieces_append : (ls ms : List (List Piece)) → pieces_sound ls ≡ true → pieces_sound ms ≡ true → pieces_sound (ls ++ ms) ≡ true
pieces_append [] ms h g = g
pieces_append (l ∷ ls) ms h g = and_both (and_left (sound (run separated l)) (pieces_sound ls) h) (pieces_append ls ms (and_right (sound (run separated l)) (pieces_sound ls) h) g)

argument_lines_sound : (e : Environment) (i : ℕ) (ts : List ℕ) → pieces_sound (argument_lines e i ts) ≡ true
unfolding argument_lines
argument_lines_sound e i [] = refl
argument_lines_sound e i (t ∷ ts) = and_both (either (λ ps. Sound (fix "arg" refl ∷ num i ∷ fix ": " refl ∷ ps ++ (type t ∷ fix "," refl ∷ []))) (is_ref e t) refl refl) (argument_lines_sound e (suc i) ts)

signature_line : (k : FunctionKind) (m : Term) → Sound (fix "pub fn " refl ∷ func_name_of k (fix "constructor_" refl) m ++ (fix "<C: Context>(" refl ∷ []))
unfolding func_name_of
signature_line absent m = refl
signature_line internal m = refl
signature_line (external n) m = refl

signature_sound : (e : Environment) (m : Term) → Parts (signature e m)
unfolding signature constructor_sig
signature_sound e m =
    let g : ExternalSig = constructor_sig m in
    parts_append (rowless 0 _) _ (rowless_sound 0 _ (and_both (signature_line m.ctor m) refl))
    (parts_append (rowless 1 _) _ (rowless_sound 1 _ (pieces_append (argument_lines e 0 g.param_tys) _ (argument_lines_sound e 0 g.param_tys) (by_kind (λ ls. pieces_sound ls ≡ true) g.ret_kind refl refl refl)))
    (rowless_sound 0 _ (and_both (by_kind (λ ps. Sound (fix ") -> " refl ∷ ps ++ (brace ∷ []))) g.ret_kind refl refl refl) refl)))

end_sound : (m : Term) (rs : List Row) → Parts (term_end m rs)
unfolding term_end last_expr
end_sound m rs =
    parts_append (rowless 1 _) _ (rowless_sound 1 _ (either (λ ls. pieces_sound ls ≡ true) (ends_in_return false rs) refl (by_kind (λ ls. pieces_sound ls ≡ true) (constructor_sig m).ret_kind refl refl refl)))
    (rowless_sound 0 _ refl)

term_sound : (o : Options) (e : Environment) (g : Generated) → Parts (term_parts o e g)
unfolding term_parts
term_sound o e g =
    parts_append (signature e (term_at e g.term)) _ (signature_sound e (term_at e g.term))
    (parts_append (walk (body_of o e g) (splits o e g) (start e g) 0 g.rows) _ (walk_sound (body_of o e g) (splits o e g) (start e g) 0 g.rows) (end_sound (term_at e g.term) g.rows))

pub all_sound : (o : Options) (e : Environment) (gs : List Generated) → Parts (all_parts o e gs)
unfolding all_parts
all_sound o e [] = refl
all_sound o e (g ∷ gs) = parts_append (term_parts o e g) _ (term_sound o e g) (all_sound o e gs)
