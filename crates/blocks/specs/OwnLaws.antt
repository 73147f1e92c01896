-- What is restored when a row's frame is closed: the bindings that have names where the row begins its own text. Assumes nothing.
use Rattle.std.specs.Prelude.{ℕ, ◌≡◌, refl, Bool, true, false, cond, List, [], ◌∷◌, eqb}
use Rattle.std.proofs.Math.Option.{Option}
use Rattle.plan.specs.Constraint.{Constraint}
use Rattle.plan.specs.Row.{ControlFlow, Match, Equal, Loop, Return, Row, step, arm}
use Rattle.codegen.specs.Writer.{Marks}
use Rattle.codegen.specs.Block.{Body, Purpose, one_arm, arms_of, arm_body, body, Own, matching, opening, nothing_written, returning, arm_count, emit_check, emit_arm}

cond_outside : (t : Bool) (x y : Own) (m : Marks) → x.outside ≡ m → y.outside ≡ m → (cond t x y).outside ≡ m
cond_outside true x y m p q = p
cond_outside false x y m p q = q

matching_outside : (c : Body) (refs bound : Marks) (q n : ℕ) (rs : List Row) → (matching c refs bound q n rs).outside ≡ bound
unfolding matching nothing_written opening
matching_outside c refs bound q n [] = refl
matching_outside c refs bound q n (step l k bs ∷ rs) = refl
matching_outside c refs bound q n (arm l k bs ∷ rs) = cond_outside (eqb n 1) _ _ bound refl refl

pub check_outside : (c : Body) (refs bound : Marks) (l : ℕ) (k : ControlFlow) (rs : List Row) → (emit_check c refs bound l k rs).outside ≡ bound
unfolding emit_check opening returning
check_outside c refs bound l (Match q) rs = matching_outside c refs bound q (arm_count l rs) rs
check_outside c refs bound l (Equal a b) rs = refl
check_outside c refs bound l (Loop r) rs = refl
check_outside c refs bound l (Return r p) rs = refl

pub arm_outside : (c : Body) (refs bound : Marks) (p : Purpose) (k : Constraint) (bs : List (Option ℕ)) → (emit_arm c refs bound p k bs).outside ≡ bound
unfolding emit_arm nothing_written opening
arm_outside c refs bound one_arm k bs = refl
arm_outside c refs bound (arms_of q) k bs = refl
arm_outside c refs bound arm_body k bs = refl
arm_outside c refs bound body k bs = refl
