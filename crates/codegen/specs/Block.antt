-- A block's rows in order, with a stack of open frames: codegen.rs 672, `emit_block_contents`.
-- Assumes nothing: these are definitions.
use Rattle.std.specs.Prelude.{ℕ, zero, suc, ◌+◌, Bool, true, false, cond, ◌&&◌, List, [], ◌∷◌, ◌++◌, length, ◌==◌, nat_le, slice_index}
use Rattle.std.specs.Prelude.{refl}
use Rattle.std.proofs.Math.Option.{Option, some, none}
use Rattle.text.specs.Codes.{codes}
use Rattle.text.specs.Digits.{decimal}
use Rattle.plan.specs.Plan.{Environment, FunctionKind}
use Rattle.plan.specs.Binding.{Binding, BindingRow, ConstBool, ConstInt, ConstPrim, Argument, Extractor, Constructor, Iterator, MakeVariant, MakeStruct, MakeSome, MatchSome, MatchTuple, MatchVariant, ExtractStruct}
use Rattle.plan.specs.Constraint as constraint
use Rattle.plan.specs.Constraint.{Constraint}
use Rattle.plan.specs.Row.{ControlFlow, Match, Equal, Loop, Return, Row, step, arm, level}
use Rattle.plan.specs.Lookup.{term_at, binding_at}
use Rattle.codegen.specs.Piece.{Piece, fix, pos, quoted_sym, quoted_pos, var, new, brace, unbrace, break, indent, render, odd_pieces}
use Rattle.codegen.specs.Writer.{Marks, insert, Writer, Said, said, say, ask, ◌▸◌}
use Rattle.codegen.specs.ReturnKind.{ReturnKind, by_return_kind}
use Rattle.codegen.specs.Sema.{ExternalSig, extractor_sig, constructor_sig, is_external}
use Rattle.codegen.specs.Expr.{emit_expr, emit_source, cloned}
use Rattle.codegen.specs.Pattern.{bind_all, emit_constraint}

-- what does not change while a generated term is written (`BodyContext`, codegen.rs 82)
pub record Body : Type 0 where
  pub env : Environment
  pub bindings : List BindingRow
  pub log : Bool
  pub ret_kind : ReturnKind
  pub term_name : ℕ

-- PARTS: whole lines

-- what a row writes: words, which may be several lines, or the overflow line, which goes by the closures around it
pub data Line : Type 0 where
  words : List Piece → Line
  overflow : Line

-- the four lines of a closure; the last has its number
pub data Edge : Type 0 where
  opens : Edge
  gives_false : Edge
  ends : Edge
  calls : ℕ → Edge

pub data What : Type 0 where
  line : Line → What
  edge : Edge → What

-- lines of a row (none: of no row), their depth without closures, and how many closures are around
pub record Part : Type 0 where
  pub row : Option ℕ
  pub base : ℕ
  pub around : ℕ
  pub what : What

-- ROWS

-- how many arms a match of level l has: the rows one level deeper, up to the next row of its level or a lower one
unfoldable pub arm_count : ℕ → List Row → ℕ
arm_count l [] = 0
arm_count l (r ∷ rs) =
    let more = arm_count l rs in
    cond (nat_le (level r) l) 0 (cond (level r == suc l) (suc more) more)

abbrev pub step_weight : Row → ℕ
step_weight (step l c bs) = 1
step_weight (arm l c bs) = 0

-- codegen.rs 644, `block_weight`, of the rows below a row of level l: "1 for each step plus the weights below it"
unfoldable pub block_weight : ℕ → List Row → ℕ
block_weight l [] = 0
block_weight l (r ∷ rs) = let more = step_weight r + block_weight l rs in cond (nat_le (level r) l) 0 more

-- WHAT A ROW WRITES

-- what a frame is for: a match of one arm, another match with its source, an arm of such a match, or an `equal` or `loop`
pub data Purpose : Type 0 where
  one_arm : Purpose
  arms_of : ℕ → Purpose
  arm_body : Purpose
  body : Purpose

-- what a row writes, the marks after it, and the frame that it opens; `outside` is restored when the frame is closed
pub record Own : Type 0 where
  pub lines : List Line
  pub refs : Marks
  pub outside : Marks
  pub bound : Marks
  pub frame : Option Purpose

-- codegen.rs 694, `iter_return`: the type of the buffer for what a call returns many of
unfoldable pub buffer : ExternalSig → FunctionKind → Option (List Piece)
buffer g f =
    by_return_kind g.ret_kind
    (some (cond (is_external f) (fix "C::" refl ∷ g.func_name ++ (fix "_returns" refl ∷ [])) (fix "ContextIterWrapper::<ConstructorVec<_>, _>" refl ∷ [])))
    none none

unfoldable pub iter_return : Environment → Binding → Option (List Piece)
iter_return e (ConstBool v) = none
iter_return e (ConstInt n v) = none
iter_return e (ConstPrim n) = none
iter_return e (Argument i) = none
iter_return e (Extractor m) = buffer (extractor_sig (term_at e m)) (term_at e m).xtor
iter_return e (Constructor m) = buffer (constructor_sig (term_at e m)) (term_at e m).ctor
iter_return e Iterator = none
iter_return e (MakeVariant n k) = none
iter_return e (MakeStruct n) = none
iter_return e MakeSome = none
iter_return e MatchSome = none
iter_return e (MatchTuple f) = none
iter_return e (MatchVariant f) = none
iter_return e (ExtractStruct f) = none

unfoldable pub let_head : ℕ → Option (List Piece) → List Piece
let_head b none = fix "let " refl ∷ new b ∷ fix " = " refl ∷ []
let_head b (some ps) = fix "let mut " refl ∷ new b ∷ fix " = " refl ∷ ps ++ (fix "::default();" refl ∷ break 0 ∷ [])

unfoldable pub let_line : Body → Marks → ℕ → Writer
let_line c bound b =
    say (let_head b (iter_return c.env (binding_at c.bindings b).binding)) ▸ emit_expr c.env c.bindings bound b ▸ say (fix ";" refl ∷ [])

pub record Lets : Type 0 where
  pub lines : List Line
  pub refs : Marks
  pub bound : Marks

-- a step's `bind_order`: each binding has a name from the line after its own on
unfoldable pub lets : Body → List ℕ → Marks → Marks → Lets
lets c [] refs bound = record { lines = []; refs = refs; bound = bound }
lets c (b ∷ bs) refs bound =
    let w = said (let_line c bound b) refs in
    let more = lets c bs w.refs (insert bound b) in
    record { lines = words w.pieces ∷ more.lines; refs = more.refs; bound = more.bound }

abbrev pub is_constant : Constraint → Bool
is_constant (constraint.ConstBool v) = true
is_constant (constraint.ConstInt n v) = true
is_constant (constraint.ConstPrim n) = true
is_constant (constraint.Variant n k) = false
is_constant (constraint.Struct n) = false
is_constant constraint.Some = false

-- codegen.rs 742: a match with one arm; `bound` has the arm's bindings. Of a constant the source comes first, else the pattern.
unfoldable pub one_arm_head : Body → Marks → ℕ → Constraint → List (Option ℕ) → Writer
one_arm_head c bound q k bs =
    cond (is_constant k)
    (say (fix "if " refl ∷ []) ▸ emit_expr c.env c.bindings bound q ▸ say (fix " == " refl ∷ []) ▸ emit_constraint c.env q k bs ▸ say (brace ∷ []))
    (say (fix "if let " refl ∷ []) ▸ emit_constraint c.env q k bs ▸ say (fix " = " refl ∷ []) ▸ emit_source c.env c.bindings bound q k ▸ say (brace ∷ []))

-- codegen.rs 767: another match, by its first arm's constraint
unfoldable pub match_head : Body → Marks → ℕ → Constraint → Writer
match_head c bound q k = say (fix "match " refl ∷ []) ▸ emit_source c.env c.bindings bound q k ▸ say (brace ∷ [])

-- a row that opens a frame
unfoldable pub opening : Purpose → Marks → Marks → Said → Own
opening p outside bound w = record { lines = words w.pieces ∷ []; refs = w.refs; outside = outside; bound = bound; frame = some p }

unfoldable pub nothing_written : Marks → Marks → Own
nothing_written refs bound = record { lines = []; refs = refs; outside = bound; bound = bound; frame = none }

-- a match with n arms, the first of which is the next row
unfoldable pub matching : Body → Marks → Marks → ℕ → ℕ → List Row → Own
matching c refs bound q n [] = nothing_written refs bound
matching c refs bound q n (step l k bs ∷ rs) = nothing_written refs bound
matching c refs bound q n (arm l k bs ∷ rs) =
    let inside = bind_all bs bound in
    let single = opening one_arm bound inside (said (one_arm_head c inside q k bs) refs) in
    let several = opening (arms_of q) bound bound (said (match_head c bound q k) refs) in
    cond (n == 1) single several

-- codegen.rs 779
unfoldable pub equal_head : Body → Marks → ℕ → ℕ → Writer
equal_head c bound a b =
    say (fix "if " refl ∷ []) ▸ emit_expr c.env c.bindings bound a ▸ say (fix " == " refl ∷ []) ▸ emit_expr c.env c.bindings bound b ▸ say (brace ∷ [])

-- codegen.rs 789: result r of the iterator q, whether or not q has a name
unfoldable pub loop_head : ℕ → ℕ → List Piece
loop_head r q =
    fix "let mut " refl ∷ new q ∷ fix " = " refl ∷ var q ∷ fix ".into_context_iter();" refl ∷ break 0
    ∷ fix "while let Some(" refl ∷ new r ∷ fix ") = " refl ∷ var q ∷ fix ".next(ctx)" refl ∷ brace ∷ []

-- codegen.rs 816: a return; its result is asked about after it is written
unfoldable pub return_line : Body → Marks → ℕ → Writer
return_line c bound r =
    say (by_return_kind c.ret_kind (fix "returns.extend(Some(" refl) (fix "return " refl) (fix "return " refl) ∷ [])
    ▸ emit_expr c.env c.bindings bound r ▸ ask r cloned
    ▸ say (by_return_kind c.ret_kind (fix "));" refl) (fix ";" refl) (fix ";" refl) ∷ [])

unfoldable pub log_lines : Body → ℕ → List Line
log_lines c p =
    cond c.log
    (words (fix "log::debug!(\"ISLE {} {}\", " refl ∷ quoted_sym c.term_name ∷ fix ", " refl ∷ quoted_pos p ∷ fix ");" refl ∷ []) ∷ [])
    []

unfoldable pub returning : Body → Marks → ℕ → ℕ → Marks → Own
returning c bound r p refs =
    let w = said (return_line c bound r) refs in
    record {
      lines = words (fix "// Rule at " refl ∷ pos p ∷ fix "." refl ∷ []) ∷ log_lines c p ++ (words w.pieces ∷ by_return_kind c.ret_kind (overflow ∷ []) [] []);
      refs = w.refs;
      outside = bound;
      bound = bound;
      frame = none;
    }

-- codegen.rs 740: a step of level l, where the rows rs stand after it
unfoldable pub emit_check : Body → Marks → Marks → ℕ → ControlFlow → List Row → Own
emit_check c refs bound l (Match q) rs = matching c refs bound q (arm_count l rs) rs
emit_check c refs bound l (Equal a b) rs = opening body bound bound (said (equal_head c bound a b) refs)
emit_check c refs bound l (Loop r) rs = opening body bound (insert bound r) (said (say (loop_head r (slice_index (binding_at c.bindings r).sources 0))) refs)
emit_check c refs bound l (Return r p) rs = returning c bound r p refs

-- codegen.rs 858: an arm of a match of several; a one_arm match has written its arm
unfoldable pub emit_arm : Body → Marks → Marks → Purpose → Constraint → List (Option ℕ) → Own
emit_arm c refs bound one_arm k bs = nothing_written refs bound
emit_arm c refs bound (arms_of q) k bs = opening arm_body bound (bind_all bs bound) (said (emit_constraint c.env q k bs ▸ say (fix " =>" refl ∷ brace ∷ [])) refs)
emit_arm c refs bound arm_body k bs = nothing_written refs bound
emit_arm c refs bound body k bs = nothing_written refs bound

-- a row inside a frame of purpose p, where the rows rs stand after it
unfoldable pub own : Body → Marks → Marks → Purpose → Row → List Row → Own
own c refs bound p (step l k bs) rs =
    let w = lets c bs refs bound in
    let o = emit_check c w.refs w.bound l k rs in
    record { lines = w.lines ++ o.lines; refs = o.refs; outside = o.outside; bound = o.bound; frame = o.frame }
own c refs bound p (arm l k bs) rs = emit_arm c refs bound p k bs

-- FRAMES

-- an open block: the level and number of the row that opened it, what is restored at its end, the number of the closure in it
pub record Frame : Type 0 where
  pub level : ℕ
  pub row : ℕ
  pub purpose : Purpose
  pub bound : Marks
  pub closure : Option ℕ

-- what changes from row to row (`BodyContext`)
pub record State : Type 0 where
  pub refs : Marks
  pub bound : Marks
  pub match_split : ℕ
  pub frames : List Frame

abbrev pub closure_count : Option ℕ → ℕ
closure_count none = 0
closure_count (some n) = 1

unfoldable pub closures : List Frame → ℕ
closures [] = 0
closures (f ∷ fs) = closure_count f.closure + closures fs

abbrev pub purpose_of : List Frame → Purpose
purpose_of [] = body
purpose_of (f ∷ fs) = f.purpose

-- lines of row i inside the frames
unfoldable pub place : Option ℕ → List Frame → List Line → List Part
place i fs [] = []
place i fs (l ∷ ls) = record { row = i; base = suc (length fs); around = closures fs; what = line l } ∷ place i fs ls

-- codegen.rs 893 to 904: the last three lines of the closure in a frame that stands inside the frames fs
unfoldable pub end_closure : ℕ → List Frame → Option ℕ → List Part
end_closure i fs none = []
end_closure i fs (some n) =
    record { row = some i; base = suc (suc (length fs)); around = suc (closures fs); what = edge gives_false }
    ∷ record { row = some i; base = suc (suc (length fs)); around = closures fs; what = edge ends }
    ∷ record { row = some i; base = suc (suc (length fs)); around = closures fs; what = edge (calls n) }
    ∷ []

-- codegen.rs 776: the last line of a match of several arms
unfoldable pub catchall : Frame → List Frame → Purpose → List Part
catchall f fs one_arm = []
catchall f fs (arms_of q) = record { row = some f.row; base = suc (suc (length fs)); around = closures fs; what = line (words (fix "_ => {}" refl ∷ [])) } ∷ []
catchall f fs arm_body = []
catchall f fs body = []

-- codegen.rs 138: `end_block`
unfoldable pub end_block : Frame → List Frame → List Part
end_block f fs = end_closure f.row fs f.closure ++ (catchall f fs f.purpose ++ place (some f.row) fs (words (unbrace ∷ []) ∷ []))

-- closing the frames of level l and deeper: what is written, the frames left, and the bindings that have names there
unfoldable pub closing : ℕ → List Frame → List Part
closing l [] = []
closing l (f ∷ fs) = let more = end_block f fs ++ closing l fs in cond (nat_le l f.level) more []

unfoldable pub left : ℕ → List Frame → List Frame
left l [] = []
left l (f ∷ fs) = let more = left l fs in cond (nat_le l f.level) more (f ∷ fs)

unfoldable pub restored : ℕ → Marks → List Frame → Marks
restored l b [] = b
restored l b (f ∷ fs) = let more = restored l f.bound fs in cond (nat_le l f.level) more b

-- THE WALK

abbrev pub is_arm_body : Option Purpose → Bool
is_arm_body none = false
is_arm_body (some one_arm) = false
is_arm_body (some (arms_of q)) = false
is_arm_body (some arm_body) = true
is_arm_body (some body) = false

abbrev pub numbered : Bool → ℕ → Option ℕ
numbered b n = cond b (some n) none

unfoldable pub pushed : Option Purpose → ℕ → ℕ → Marks → Option ℕ → List Frame → List Frame
pushed none l i bound k fs = fs
pushed (some p) l i bound k fs = record { level = l; row = i; purpose = p; bound = bound; closure = k } ∷ fs

-- codegen.rs 887: the first line of the closure of an arm that splits
unfoldable pub open_closure : ℕ → List Frame → Bool → List Part
open_closure i fs b = cond b (record { row = some i; base = suc (suc (length fs)); around = closures fs; what = edge opens } ∷ []) []

unfoldable pub row_parts : ℕ → List Frame → Own → Bool → List Part
row_parts i fs o b = place (some i) fs o.lines ++ open_closure i fs b

unfoldable pub after : State → ℕ → ℕ → List Frame → Own → Bool → State
after s l i fs o b = record {
  refs = o.refs;
  bound = o.bound;
  match_split = cond b (suc s.match_split) s.match_split;
  frames = pushed o.frame l i o.outside (numbered b s.match_split) fs;
}

-- what row r writes itself, where the rows rs stand after it
unfoldable pub here : Body → State → Row → List Row → Own
here c s r rs = own c s.refs (restored (level r) s.bound s.frames) (purpose_of (left (level r) s.frames)) r rs

-- an arm that has a frame of its own splits if its weight does
unfoldable pub splits_here : (ℕ → Bool) → Own → Row → List Row → Bool
splits_here splits o r rs = is_arm_body o.frame && splits (block_weight (level r) rs)

unfoldable pub next : Body → (ℕ → Bool) → State → ℕ → Row → List Row → State
next c splits s i r rs = let o = here c s r rs in after s (level r) i (left (level r) s.frames) o (splits_here splits o r rs)

-- row i closes the frames of its level and deeper, then writes its own
unfoldable pub written : Body → (ℕ → Bool) → State → ℕ → Row → List Row → List Part
written c splits s i r rs = let o = here c s r rs in closing (level r) s.frames ++ row_parts i (left (level r) s.frames) o (splits_here splits o r rs)

unfoldable pub walk : Body → (ℕ → Bool) → State → ℕ → List Row → List Part
walk c splits s i [] = closing 0 s.frames
walk c splits s i (r ∷ rs) = written c splits s i r rs ++ walk c splits (next c splits s i r rs) (suc i) rs

-- BYTES

-- codegen.rs 891, `iter_overflow_action`, with k closures around
abbrev pub iter_overflow_action : ℕ → List ℕ
iter_overflow_action zero = codes "return;"
iter_overflow_action (suc k) = codes "return true;"

unfoldable pub line_bytes : Environment → ℕ → ℕ → Line → List ℕ
line_bytes e d k (words ps) = render e d ps
line_bytes e d k overflow = codes "if returns.len() >= MAX_ISLE_RETURNS { " ++ (iter_overflow_action k ++ codes " }")

unfoldable pub edge_bytes : ℕ → Edge → List ℕ
edge_bytes k opens = codes "if (|| -> bool {"
edge_bytes k gives_false = codes "false"
edge_bytes k ends = codes "}"
edge_bytes k (calls n) = codes ")() { " ++ (iter_overflow_action k ++ (codes " } // __isle_arm_" ++ decimal n))

unfoldable pub what_bytes : Environment → ℕ → ℕ → What → List ℕ
what_bytes e d k (line l) = line_bytes e d k l
what_bytes e d k (edge g) = edge_bytes k g

-- what is written d deep with k closures around, and the end of its line
unfoldable pub part_bytes : Environment → ℕ → ℕ → What → List ℕ
part_bytes e d k w = indent d ++ (what_bytes e d k w ++ (10 ∷ []))

unfoldable pub text_of : Environment → List Part → List ℕ
text_of e [] = []
text_of e (p ∷ ps) = part_bytes e (p.around + p.base) p.around p.what ++ text_of e ps

abbrev pub odd_what : What → ℕ
odd_what (line (words ps)) = odd_pieces ps
odd_what (line overflow) = 0
odd_what (edge g) = 0

unfoldable pub odds_of : List Part → ℕ
odds_of [] = 0
odds_of (p ∷ ps) = odd_what p.what + odds_of ps
