-- Every refusal has a number above 0, which stands for none. Assumes nothing.
use Rattle.std.specs.Prelude.{◌≤◌, ◌≡◌}
use Rattle.std.proofs.Common.{arith}
use Rattle.refusal.specs.declared.Refusal.{Refusal}
use Rattle.refusal.specs.declared.Refusal.TheVariants.{TooLong, Byte, Layout, Most, Exists, Lengths, Lower, Returns, Armless, Loop, Room}
use Rattle.refusal.specs.Number.{number}

pub some_number : (r : Refusal) → number r ≡ 0 → ⊥
some_number TooLong h = absurd (omega arith)
some_number Byte h = absurd (omega arith)
some_number Layout h = absurd (omega arith)
some_number Most h = absurd (omega arith)
some_number Exists h = absurd (omega arith)
some_number Lengths h = absurd (omega arith)
some_number Lower h = absurd (omega arith)
some_number Returns h = absurd (omega arith)
some_number Armless h = absurd (omega arith)
some_number Loop h = absurd (omega arith)
some_number Room h = absurd (omega arith)
