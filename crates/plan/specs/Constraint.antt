-- What an arm of a match asks: `Constraint` of trie_again.rs 171. Assumes nothing: these are definitions.
use Rattle.std.specs.Prelude.{ℕ, Bool}

pub data Constraint : Type 0 where
  ConstBool : Bool → Constraint
  -- type, value
  ConstInt : ℕ → ℕ → Constraint
  ConstPrim : ℕ → Constraint
  -- type, variant
  Variant : ℕ → ℕ → Constraint
  Struct : ℕ → Constraint
  Some : Constraint
