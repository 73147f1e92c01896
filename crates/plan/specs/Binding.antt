-- Bindings: `Binding` of trie_again.rs 56. Assumes nothing: these are definitions.
use Rattle.std.specs.Prelude.{ℕ, Bool, List}

-- a kind of binding with the values a and b of its row; an integer's value is below 2 ^ 128, a two's complement
pub data Binding : Type 0 where
  ConstBool : Bool → Binding
  -- type, value
  ConstInt : ℕ → ℕ → Binding
  ConstPrim : ℕ → Binding
  Argument : ℕ → Binding
  Extractor : ℕ → Binding
  Constructor : ℕ → Binding
  Iterator : Binding
  -- type, variant
  MakeVariant : ℕ → ℕ → Binding
  MakeStruct : ℕ → Binding
  MakeSome : Binding
  MatchSome : Binding
  -- field
  MatchTuple : ℕ → Binding
  MatchVariant : ℕ → Binding
  ExtractStruct : ℕ → Binding

-- a row of the table of bindings; the list holds the sources
pub record BindingRow : Type 0 where
  pub binding : Binding
  pub sources : List ℕ
