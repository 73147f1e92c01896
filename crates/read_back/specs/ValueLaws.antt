-- An integer value that is below 2 ^ 128. Assumes nothing: these are definitions; their laws stand in proofs/ValueLaws.antt.
use Rattle.std.specs.Prelude.{ℕ, ◌^◌, Bool, ◌&&◌, ltb}
use Rattle.std.proofs.Math.Bool.{true}
use Rattle.std.proofs.Math.Option.{Option, some, none}
use Rattle.plan.specs.Plan.{Generated}
use Rattle.plan.specs.Refusal.{every}
use Rattle.origin.specs.Origin.{IntRow, binding_int, row_int}

-- a value of 128 bits
abbrev pub small : ℕ → Bool
small v = ltb v (2 ^ 128)

-- of an `int` binding or an `int` arm, and of all of a block table
abbrev pub int_small : Option IntRow → Bool
int_small none = true
int_small (some r) = small r.value

abbrev pub table_small : Generated → Bool
table_small g = every (λ b. int_small (binding_int b.binding)) g.bindings && every (λ r. int_small (row_int r)) g.rows
