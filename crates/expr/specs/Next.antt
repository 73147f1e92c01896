-- What is known of the source that is written next. Assumes nothing: these are definitions.
use Rattle.std.specs.Prelude.{ℕ, ◌≤◌, ◌<◌, ◌≡◌, false, List, get_or, Option, Some, None}
use Rattle.plan.specs.Binding.{Binding}
use Rattle.codegen.specs.Writer.{contains}
use Rattle.text.specs.declared.sink.Sink.{Sink}
use Rattle.view.specs.Buffers.{env_of}
use Rattle.view.specs.declared.buffers.Plan.{Plan}
use Rattle.expr.specs.declared.Scope.{Scope}
use Rattle.expr.specs.declared.between.Source.{Source}
use Rattle.expr.specs.Between.{row_of, source_count, inner}
use Rattle.expr.specs.Told.{bound_in}

-- source i of binding b, whose lines are s.depth deep
pub record IsSource (p : Plan) (depth b : ℕ) (k : Binding) (qs : List ℕ) (i : ℕ) (s : Source) : Type 0 where
  pub below : s.binding < b
  pub source : s.binding ≡ get_or qs i 0
  pub deep : depth < 4611686018427387904 → s.depth ≡ inner k depth
  pub small : i < 18446744073709551615
  pub more : i < source_count (env_of p) k qs

-- there is none where source i is not written, or is not below its binding
abbrev pub NextIs : Plan → ℕ → ℕ → Binding → List ℕ → ℕ → Option Source → Type 0
NextIs p depth b k qs i None = i < source_count (env_of p) k qs → b ≤ get_or qs i 0
NextIs p depth b k qs i (Some s) = IsSource p depth b k qs i s

-- the same of a binding that has no name, where there is room
pub record HasNoName (s : Scope) (b : ℕ) (w : Sink) : Type 0 where
  pub room : w.at < w.end
  pub nameless : contains (bound_in s) b ≡ false

abbrev pub StepIs : Scope → ℕ → ℕ → ℕ → Sink → Option Source → Type 0
StepIs s depth b i w None = HasNoName s b w → NextIs s.bindings.plan.now depth b (row_of s.bindings b).binding (row_of s.bindings b).sources i None
StepIs s depth b i w (Some q) = (contains (bound_in s) b ≡ false) × IsSource s.bindings.plan.now depth b (row_of s.bindings b).binding (row_of s.bindings b).sources i q
