-- All of the state but the marks of references goes by the rows alone: a writer that is past its room and writes no more still has it.
use Rattle.std.specs.Prelude.{ℕ, ◌≡◌, refl, Bool, true, false, cond, List, [], ◌∷◌, set, eqb}
use Rattle.std.proofs.Common.{sym, ap, ◌∙◌}
use Rattle.std.proofs.Math.Option.{Option}
use Rattle.plan.specs.Constraint.{Constraint}
use Rattle.plan.specs.Row.{ControlFlow, Match, Equal, Loop, Return, Row, step, arm, level}
use Rattle.codegen.specs.Block.{Body, Purpose, one_arm, arms_of, arm_body, body, State, Own, arm_count, lets, purpose_of, left, restored, after, own, emit_check, matching, opening, nothing_written, returning, emit_arm, here, splits_here, next}

unfoldable pub with_refs : State → List Bool → State
with_refs s r = record { refs = r; bound = s.bound; match_split = s.match_split; frames = s.frames }

-- what a row does to the state
unfoldable pub form : Own → Own
form o = record { lines = []; refs = []; outside = o.outside; bound = o.bound; frame = o.frame }

lets_bound : (c : Body) (bs : List ℕ) (q r bound : List Bool) → (lets c bs q bound).bound ≡ (lets c bs r bound).bound
unfolding lets
lets_bound c [] q r bound = refl
lets_bound c (b ∷ bs) q r bound = lets_bound c bs _ _ (set bound b true)

form_either : (b : Bool) (x x' y y' : Own) → form x ≡ form x' → form y ≡ form y' → form (cond b x y) ≡ form (cond b x' y')
form_either true x x' y y' f g = f
form_either false x x' y y' f g = g

form_match : (c : Body) (q r bound : List Bool) (k n : ℕ) (rs : List Row) → form (matching c q bound k n rs) ≡ form (matching c r bound k n rs)
unfolding matching form opening nothing_written
form_match c q r bound k n [] = refl
form_match c q r bound k n (step l x bs ∷ rs) = refl
form_match c q r bound k n (arm l x bs ∷ rs) = form_either (eqb n 1) _ _ _ _ refl refl

form_checked : (c : Body) (q r bound : List Bool) (l : ℕ) (k : ControlFlow) (rs : List Row) → form (emit_check c q bound l k rs) ≡ form (emit_check c r bound l k rs)
unfolding emit_check form opening returning
form_checked c q r bound l (Match x) rs = form_match c q r bound x (arm_count l rs) rs
form_checked c q r bound l (Equal a b) rs = refl
form_checked c q r bound l (Loop x) rs = refl
form_checked c q r bound l (Return x p) rs = refl

form_arm : (c : Body) (q r bound : List Bool) (p : Purpose) (k : Constraint) (bs : List (Option ℕ)) → form (emit_arm c q bound p k bs) ≡ form (emit_arm c r bound p k bs)
unfolding emit_arm form opening nothing_written
form_arm c q r bound one_arm k bs = refl
form_arm c q r bound (arms_of x) k bs = refl
form_arm c q r bound arm_body k bs = refl
form_arm c q r bound body k bs = refl

form_own : (c : Body) (q r bound : List Bool) (p : Purpose) (x : Row) (rs : List Row) → form (own c q bound p x rs) ≡ form (own c r bound p x rs)
unfolding own form
form_own c q r bound p (step l k bs) rs = rw (lets_bound c bs q r bound) (form_checked c (lets c bs q bound).refs (lets c bs r bound).refs (lets c bs r bound).bound l k rs)
form_own c q r bound p (arm l k bs) rs = form_arm c q r bound p k bs

-- the state after a row, from its form
unfoldable pub after_form_of : (ℕ → Bool) → State → ℕ → Row → List Row → Own → State
unfolding after
after_form_of sp s i r rs o = with_refs (after s (level r) i (left (level r) s.frames) o (splits_here sp o r rs)) []

after_form : (sp : ℕ → Bool) (s : State) (i : ℕ) (r : Row) (rs : List Row) (o : Own) → after_form_of sp s i r rs (form o) ≡ after_form_of sp s i r rs o
unfolding after_form_of form splits_here after with_refs
after_form sp s i r rs o = refl

-- The marks of references change nothing else.
pub next_marks : (c : Body) (sp : ℕ → Bool) (s : State) (q : List Bool) (i : ℕ) (r : Row) (rs : List Row) → with_refs (next c sp (with_refs s q) i r rs) [] ≡ with_refs (next c sp s i r rs) []
unfolding next here after_form_of after with_refs
next_marks c sp s q i r rs =
    let b : List Bool = restored (level r) s.bound s.frames in
    let p : Purpose = purpose_of (left (level r) s.frames) in
    sym (after_form sp s i r rs (own c q b p r rs)) ∙ ap (after_form_of sp s i r rs) (form_own c q s.refs b p r rs) ∙ after_form sp s i r rs (own c s.refs b p r rs)

pub next_with : (c : Body) (sp : ℕ → Bool) (s : State) (q : List Bool) (i : ℕ) (r : Row) (rs : List Row) → next c sp (with_refs s q) i r rs ≡ with_refs (next c sp s i r rs) (next c sp (with_refs s q) i r rs).refs
unfolding with_refs
next_with c sp s q i r rs = ap (λ (x : State). with_refs x (next c sp (with_refs s q) i r rs).refs) (next_marks c sp s q i r rs)
