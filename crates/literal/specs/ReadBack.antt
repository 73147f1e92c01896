-- What the value of a literal stands for. Assumes nothing: this is a definition; its laws stand in proofs/ReadBack.antt.
use Rattle.std.specs.Prelude.{ℕ}
use Rattle.std.proofs.Math.Option.{Option, some, none}
use Rattle.literal.specs.Reference.{Value, typed, untyped}
use Rattle.literal.specs.Extend.{extend}

-- What an expression's value stands for among the values of 128 bits.
unfoldable pub extended : Option Value → Option ℕ
extended none = none
extended (some (typed t n)) = some (extend t n)
extended (some (untyped n)) = some n
