-- The numbers of the refusals: document 01, "The answer, and turning a plan away". Assumes nothing: these are definitions.
use Rattle.std.specs.Prelude.{ℕ, Some, None, Result, Ok, Err}
use Rattle.std.specs.declared.option.Option as rust
use Rattle.refusal.specs.declared.Refusal.{Refusal}
use Rattle.refusal.specs.declared.Refusal.TheVariants.{TooLong, Byte, Layout, Most, Exists, Lengths, Lower, Returns, Armless, Loop, Room}

abbrev pub number : Refusal → ℕ
number TooLong = 1
number Byte = 2
number Layout = 3
number Most = 4
number Exists = 5
number Lengths = 6
number Lower = 7
number Returns = 8
number Armless = 9
number Loop = 10
number Room = 11

-- the number that a result has: its refusal's, 0 where there is none
abbrev pub result_number : {A : Type 0} → Result A Refusal → ℕ
result_number (Ok a) = 0
result_number (Err r) = number r

-- the number of a refusal that may be none: then it is 0
abbrev pub refusal_number : rust.Option Refusal → ℕ
refusal_number None = 0
refusal_number (Some r) = number r
