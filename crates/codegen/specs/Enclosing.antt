-- What it is for a closure to enclose its body, said of the parts of a block table's text. Assumes nothing: these are definitions.
use Rattle.std.specs.Prelude.{◌≡◌, ℕ, suc, ◌+◌, Bool, false, cond, ◌&&◌, List, [], ◌∷◌, ◌++◌, nat_le, nat_lt}
use Rattle.std.proofs.Math.Option.{Option, some, none}
use Rattle.codegen.specs.Block.{Edge, opens, gives_false, ends, calls, edge, Part}

-- one of the m rows from row i on
unfoldable pub among : ℕ → ℕ → Option ℕ → Bool
among i m none = false
among i m (some k) = nat_le i k && nat_lt k (i + m)

-- the parts of the m rows from row i on, in the order of the text
unfoldable pub parts_among : ℕ → ℕ → List Part → List Part
parts_among i m [] = []
parts_among i m (p ∷ ps) = let more = parts_among i m ps in cond (among i m p.row) (p ∷ more) more

-- a line of row j's closure, with its depth and how many closures are around it
abbrev pub closure_line : ℕ → ℕ → ℕ → Edge → Part
closure_line j d k e = record { row = some j; base = d; around = k; what = edge e }

-- Row j has a closure with number n: between its first line and its `false` line stand all the parts of the m rows after row j, in
-- order, and nothing else; its last three lines follow one another. The `false` line is inside, one closure deeper.
pub record Encloses (j n m : ℕ) (parts : List Part) : Type 0 where
  pub before : List Part
  pub after : List Part
  pub base : ℕ
  pub around : ℕ
  pub is : parts ≡ before ++ (closure_line j base around opens ∷ parts_among (suc j) m parts
      ++ (closure_line j base (suc around) gives_false ∷ closure_line j base around ends ∷ closure_line j base around (calls n) ∷ after))
