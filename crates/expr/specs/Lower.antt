-- What refusals 6 and 7 leave of a generated term's bindings: a source has a lower number than its binding, and a kind that has one
-- source has it. Assumes nothing: these are definitions.
use Rattle.std.specs.Prelude.{ℕ, ◌<◌, ◌≡◌, true, List, length, get_or}
use Rattle.plan.specs.Binding.{BindingRow}
use Rattle.plan.specs.Lookup.{binding_at}
use Rattle.expr_parts.specs.Sources.{one_source}

pub record Lower (bs : List BindingRow) : Type 0 where
  pub lower : (b i : ℕ) → i < length (binding_at bs b).sources → get_or (binding_at bs b).sources i 0 < b
  pub one : (b : ℕ) → one_source (binding_at bs b).binding ≡ true → 0 < length (binding_at bs b).sources
