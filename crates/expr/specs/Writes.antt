-- What the functions that write an expression say of each other. Assumes nothing: these are definitions.
use Rattle.std.specs.Prelude.{ℕ, ◌+◌, ◌-◌, ◌≤◌, ◌<◌, ◌≡◌, Bool, List}
use Rattle.plan.specs.Binding.{Binding}
use Rattle.codegen.specs.Writer.{Marks, Writer}
use Rattle.codegen.specs.Expr.{emit_below}
use Rattle.text.specs.Writes.{SameSink}
use Rattle.text.specs.declared.sink.Sink.{Sink}
use Rattle.view.specs.Buffers.{env_of}
use Rattle.view.specs.declared.buffers.Plan.{Plan}
use Rattle.emits.specs.Runs.{Emits, Rest}
use Rattle.sema.specs.Holds.{VariantsIndexed}
use Rattle.expr.specs.declared.Scope.{Scope}
use Rattle.expr.specs.Between.{row_of, source_count, from_here, next_part, up_to}
use Rattle.expr.specs.Told.{env_in, bindings_of, bound_in, Fits}

-- What is known where binding b of an expression, or a part of it, is written.
pub record Ready (s : Scope) (depth b c d₀ d k : ℕ) : Type 0 where
  -- b can be written on a line of this depth
  pub fits : Fits s depth b
  -- the whole expression begins on a line that is d₀ deep, and this line is d deeper
  pub deep : depth ≡ d₀ + d
  -- what is written by the definition's `emit_below` has numbers below c, and its bound k suffices for them
  pub fuel : c ≤ k

-- a writer that goes by how a source is written, and by the depth
abbrev pub Through : Type 0
Through = (ℕ → ℕ → Writer) → ℕ → Writer

-- how a source is written, with the bound k
abbrev pub below : Scope → ℕ → ℕ → ℕ → Writer
below s k = emit_below (env_in s) (bindings_of s) (bound_in s) k

-- from the end of the source before source i, or from the start, all up to source i of binding b
abbrev pub UpTo : Scope → ℕ → ℕ → ℕ → Bool → Sink → Marks → Sink → Marks → Type 0
UpTo s depth b i given w r w' r' =
    let row = row_of s.bindings b in
    VariantsIndexed s.bindings.plan.now → (d₀ d : ℕ) → depth ≡ d₀ + d → depth < 4611686018427387904 → Emits (env_in s) d₀ (up_to (env_in s) (bound_in s) d b row.binding row.sources i given) w r w' r'

-- what stands before source i, or at the end, of binding b of kind k with the sources qs
abbrev pub NextPart : Plan → ℕ → ℕ → Binding → List ℕ → ℕ → Sink → Marks → Sink → Marks → Type 0
NextPart p depth b k qs i w r w' r' =
    VariantsIndexed p → (d₀ d : ℕ) → depth ≡ d₀ + d → depth < 4611686018427387904 → Emits (env_of p) d₀ (next_part (env_of p) d b k qs i (source_count (env_of p) k qs - i)) w r w' r'

-- from here, the writer v of binding b, or of a part of it, leads there; what it writes by `emit_below` has numbers below c.
-- Whatever is known, the sink is the same one.
pub record Writes (s : Scope) (depth b c : ℕ) (v : Through) (w : Sink) (r : Marks) (w' : Sink) (r' : Marks) : Type 0 where
  pub same : SameSink w w'
  pub is : (d₀ d k : ℕ) → Ready s depth b c d₀ d k → Emits (env_in s) d₀ (v (below s k) d) w r w' r'

-- from the start to here, all of v₀ but v is written
pub record Leaves (s : Scope) (depth b c : ℕ) (v₀ : Through) (w₀ : Sink) (r₀ : Marks) (v : Through) (w : Sink) (r : Marks) : Type 0 where
  pub same : SameSink w₀ w
  pub is : (d₀ d k : ℕ) → Ready s depth b c d₀ d k → Rest (env_in s) d₀ (v₀ (below s k) d) w₀ r₀ (v (below s k) d) w r

-- source i of binding b, and all that stands after it
abbrev pub rest_of : Scope → ℕ → ℕ → Through
rest_of s b i rec d = from_here (env_in s) (bound_in s) rec d b (row_of s.bindings b).binding (row_of s.bindings b).sources i
