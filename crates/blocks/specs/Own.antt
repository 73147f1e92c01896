-- What a row writes, in two: a step's `bind_order`, then its check or the arm. Assumes nothing.
use Rattle.std.specs.Prelude.{ℕ, ◌≡◌, refl, List, [], ◌++◌}
use Rattle.std.proofs.Math.Option.{none}
use Rattle.plan.specs.Row.{Row, step, arm}
use Rattle.codegen.specs.Writer.{Marks}
use Rattle.codegen.specs.Block.{Body, Purpose, Own, lets, returning, emit_check, emit_arm, own}
use Rattle.rows.specs.View.{nth, step_made, block_of}
use Rattle.view.specs.BlockRows.{step_is}
use Rattle.blocks.specs.OwnLaws.{check_outside, arm_outside}

unfoldable pub bind_order : Row → List ℕ
bind_order (step l k bs) = bs
bind_order (arm l k bs) = []

-- what row r does after its `bind_order`
unfoldable pub check : Body → Marks → Marks → Purpose → Row → List Row → Own
check c refs bound p (step l k bs) rs = emit_check c refs bound l k rs
check c refs bound p (arm l k bs) rs = emit_arm c refs bound p k bs

pub check_restores : (c : Body) (refs bound : Marks) (p : Purpose) (r : Row) (rs : List Row) → (check c refs bound p r rs).outside ≡ bound
unfolding check
check_restores c refs bound p (step l k bs) rs = check_outside c refs bound l k rs
check_restores c refs bound p (arm l k bs) rs = arm_outside c refs bound p k bs

-- the two make the row's own
unfoldable pub joined : Body → Marks → Marks → Purpose → Row → List Row → Own
joined c refs bound p r rs =
    let w = lets c (bind_order r) refs bound in
    let o = check c w.refs w.bound p r rs in
    record { lines = w.lines ++ o.lines; refs = o.refs; outside = o.outside; bound = o.bound; frame = o.frame }

pub own_joined : (c : Body) (refs bound : Marks) (p : Purpose) (r : Row) (rs : List Row) → own c refs bound p r rs ≡ joined c refs bound p r rs
unfolding own joined check bind_order lets
own_joined c refs bound p (step l k bs) rs = refl
own_joined c refs bound p (arm l k bs) rs = refl

-- a `return` opens no frame
pub return_opens : (c : Body) (refs bound : Marks) (p : Purpose) (ws : List ℕ) (rs : List Row) → nth ws 1 ≡ 3 → (own c refs bound p (block_of ws) rs).frame ≡ none
unfolding own emit_check returning step_made
return_opens c refs bound p ws rs h = rw (step_is ws (rw h refl), h)
