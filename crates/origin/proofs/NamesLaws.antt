-- The names of Names.antt are those of the walk that writes the text (codegen/specs/Block), at every row: they do not depend on the
-- marks of references, on what is logged, or on what splits.
use Rattle.std.specs.Prelude.{ℕ, ◌≡◌, refl, Bool, true, false, cond, List, [], ◌∷◌, leb, eqb}
use Rattle.std.proofs.Common.{ap, ◌∙◌}
use Rattle.std.proofs.Math.Option.{Option, some, none}
use Rattle.plan.specs.Constraint.{Constraint}
use Rattle.plan.specs.Row.{ControlFlow, Match, Equal, Loop, Return, Row, step, arm, level}
use Rattle.codegen.specs.Writer.{Marks, insert}
use Rattle.codegen.specs.Pattern.{bind_all}
use Rattle.codegen.specs.Block.{Body, Purpose, one_arm, arms_of, arm_body, body, Frame, State, Own, arm_count, lets, purpose_of, left, restored, pushed, after, own, emit_check, matching, opening, nothing_written, returning, emit_arm, here, next}
use Rattle.origin.specs.Names.{Scope, Names, listed, after_list, match_inside, arm_inside, inside, match_opens, arm_opens, opens, restore, keep, around, opened, at_row, past}

unfoldable pub scope_of : Frame → Scope
scope_of f = record { level = f.level; purpose = f.purpose; outside = f.bound }

unfoldable pub scopes_of : List Frame → List Scope
scopes_of [] = []
scopes_of (f ∷ fs) = scope_of f ∷ scopes_of fs

-- what the names are in a state of the walk
unfoldable pub names_of : State → Names
names_of s = record { bound = s.bound; scopes = scopes_of s.frames }

restore_same : (l : ℕ) (m : Marks) (fs : List Frame) → restore l m (scopes_of fs) ≡ restored l m fs
unfolding restore restored scopes_of scope_of
restore_same l m [] = refl
restore_same l m (f ∷ fs) = ap (λ x. cond (leb l f.level) x m) (restore_same l f.bound fs)

either_scopes : (b : Bool) (x y : List Frame) → cond b (scopes_of x) (scopes_of y) ≡ scopes_of (cond b x y)
either_scopes true x y = refl
either_scopes false x y = refl

keep_same : (l : ℕ) (fs : List Frame) → keep l (scopes_of fs) ≡ scopes_of (left l fs)
unfolding keep left scopes_of scope_of
keep_same l [] = refl
keep_same l (f ∷ fs) = rw (keep_same l fs) (either_scopes (leb l f.level) (left l fs) (f ∷ fs))

around_same : (fs : List Frame) → around (scopes_of fs) ≡ purpose_of fs
unfolding scopes_of scope_of
around_same [] = refl
around_same (f ∷ fs) = refl

-- WHAT A ROW DOES TO THE NAMES

pub lets_listed : (c : Body) (bs : List ℕ) (refs bound : Marks) → (lets c bs refs bound).bound ≡ listed bs bound
unfolding lets listed
lets_listed c [] refs bound = refl
lets_listed c (b ∷ bs) refs bound = lets_listed c bs _ (insert bound b)

-- the three things that a row does
pub record Does (o : Own) (out ins : Marks) (x : Option Purpose) : Type 0 where
  pub outside : o.outside ≡ out
  pub bound : o.bound ≡ ins
  pub frame : o.frame ≡ x

does_either : (b : Bool) (q : ℕ) (x y : Own) (out ins : Marks) → Does x out ins (some one_arm) → Does y out out (some (arms_of q)) → Does (cond b x y) out (cond b ins out) (some (cond b one_arm (arms_of q)))
does_either true q x y out ins f g = f
does_either false q x y out ins f g = g

does_match : (c : Body) (refs bound : Marks) (q n : ℕ) (rs : List Row) → Does (matching c refs bound q n rs) bound (match_inside n rs bound) (match_opens q n rs)
unfolding matching match_inside match_opens opening nothing_written
does_match c refs bound q n [] = record { outside = refl; bound = refl; frame = refl }
does_match c refs bound q n (step l k bs ∷ rs) = record { outside = refl; bound = refl; frame = refl }
does_match c refs bound q n (arm l k bs ∷ rs) = does_either (eqb n 1) q _ _ bound (bind_all bs bound) (record { outside = refl; bound = refl; frame = refl }) (record { outside = refl; bound = refl; frame = refl })

pub does_check : (c : Body) (refs bound : Marks) (p : Purpose) (l : ℕ) (k : ControlFlow) (bs : List ℕ) (rs : List Row) → Does (emit_check c refs bound l k rs) bound (inside p (step l k bs) rs bound) (opens p (step l k bs) rs)
unfolding emit_check inside opens opening returning
does_check c refs bound p l (Match q) bs rs = does_match c refs bound q (arm_count l rs) rs
does_check c refs bound p l (Equal a b) bs rs = record { outside = refl; bound = refl; frame = refl }
does_check c refs bound p l (Loop r) bs rs = record { outside = refl; bound = refl; frame = refl }
does_check c refs bound p l (Return r x) bs rs = record { outside = refl; bound = refl; frame = refl }

does_arm : (c : Body) (refs bound : Marks) (p : Purpose) (k : Constraint) (bs : List (Option ℕ)) → Does (emit_arm c refs bound p k bs) bound (arm_inside p bs bound) (arm_opens p)
unfolding emit_arm arm_inside arm_opens opening nothing_written
does_arm c refs bound one_arm k bs = record { outside = refl; bound = refl; frame = refl }
does_arm c refs bound (arms_of q) k bs = record { outside = refl; bound = refl; frame = refl }
does_arm c refs bound arm_body k bs = record { outside = refl; bound = refl; frame = refl }
does_arm c refs bound body k bs = record { outside = refl; bound = refl; frame = refl }

pub does_own : (c : Body) (refs bound : Marks) (p : Purpose) (r : Row) (rs : List Row) → Does (own c refs bound p r rs) (after_list r bound) (inside p r rs (after_list r bound)) (opens p r rs)
unfolding own after_list inside opens
does_own c refs bound p (step l k bs) rs =
    let w = lets c bs refs bound in
    let d : Does (emit_check c w.refs w.bound l k rs) (listed bs bound) (inside p (step l k bs) rs (listed bs bound)) (opens p (step l k bs) rs) = rw (lets_listed c bs refs bound) (does_check c w.refs (listed bs bound) p l k bs rs) in
    record { outside = d.outside; bound = d.bound; frame = d.frame }
does_own c refs bound p (arm l k bs) rs = does_arm c refs bound p k bs

-- THE WALK

pub at_row_same : (s : State) (r : Row) → at_row (names_of s) r ≡ restored (level r) s.bound s.frames
unfolding at_row names_of
at_row_same s r = restore_same (level r) s.bound s.frames

-- what the block around a row is for
pub around_keep_same : (s : State) (r : Row) → around (keep (level r) (names_of s).scopes) ≡ purpose_of (left (level r) s.frames)
unfolding names_of
around_keep_same s r = ap around (keep_same (level r) s.frames) ∙ around_same (left (level r) s.frames)

opened_same : (x : Option Purpose) (l i : ℕ) (m : Marks) (k : Option ℕ) (fs : List Frame) → opened x l m (scopes_of fs) ≡ scopes_of (pushed x l i m k fs)
unfolding opened pushed scopes_of scope_of
opened_same none l i m k fs = refl
opened_same (some p) l i m k fs = refl

-- after each row the names are those of the walk, whatever the body, the weights that split and the marks of references
pub past_same : (c : Body) (sp : ℕ → Bool) (s : State) (i : ℕ) (r : Row) (rs : List Row) → past (names_of s) r rs ≡ names_of (next c sp s i r rs)
unfolding past at_row names_of next after here
past_same c sp s i r rs =
    let fs : List Frame = left (level r) s.frames in
    let m : Marks = restored (level r) s.bound s.frames in
    let d : Does (own c s.refs m (purpose_of fs) r rs) (after_list r m) (inside (purpose_of fs) r rs (after_list r m)) (opens (purpose_of fs) r rs) = does_own c s.refs m (purpose_of fs) r rs in
    rw (restore_same (level r) s.bound s.frames, keep_same (level r) s.frames, around_same fs, d.bound, d.outside, d.frame)
    (ap (λ (ss : List Scope). record { bound = inside (purpose_of fs) r rs (after_list r m); scopes = ss }) (opened_same (opens (purpose_of fs) r rs) (level r) i (after_list r m) _ fs))
