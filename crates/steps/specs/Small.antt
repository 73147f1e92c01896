-- The numbers of the bindings that a step names fit a word. Assumes nothing: this is a definition.
use Rattle.std.specs.Prelude.{ℕ, ◌<◌}
use Rattle.plan.specs.Row.{ControlFlow, Match, Equal, Loop, Return}

abbrev pub word_bound : ℕ
word_bound = 4294967296

abbrev pub SmallFlow : ControlFlow → Type 0
SmallFlow (Match q) = q < word_bound
SmallFlow (Equal a b) = (a < word_bound) × (b < word_bound)
SmallFlow (Loop r) = r < word_bound
SmallFlow (Return r p) = r < word_bound
