-- Of which environment, bindings and marks of the definition a `Scope` is, and what is known where an expression is written. Assumes
-- nothing: these are definitions.
use Rattle.std.specs.Prelude.{ℕ, ◌+◌, ◌<◌, List}
use Rattle.plan.specs.Plan.{Environment}
use Rattle.plan.specs.Binding.{BindingRow}
use Rattle.codegen.specs.Writer.{Marks}
use Rattle.view.specs.Buffers.{env_of, bindings_in}
use Rattle.emits.specs.Marks.{set_of}
use Rattle.sema.specs.Holds.{VariantsIndexed}
use Rattle.expr.specs.Lower.{Lower}
use Rattle.expr.specs.declared.Scope.{Scope}

-- the plan's environment, the term's bindings, and those of them that have names
abbrev pub env_in : Scope → Environment
env_in s = env_of s.bindings.plan.now

abbrev pub bindings_of : Scope → List BindingRow
bindings_of s = bindings_in s.bindings.plan.now s.bindings.table

abbrev pub bound_in : Scope → Marks
bound_in s = set_of s.bound.now

-- binding b can be written on a line of this depth
pub record Fits (s : Scope) (depth b : ℕ) : Type 0 where
  -- The plan's index has the rows of each type's variants: `index_variants` fills it before any text is written.
  pub indexed : VariantsIndexed s.bindings.plan.now
  -- A source's number is lower than its binding's, and a kind that has one source has it: refusals 6 and 7 leave no other bindings.
  pub lower : Lower (bindings_of s)
  -- No line of the expression is deeper than a number counts: a source's lines are a step deeper at most, and its number is lower, so that
  -- none is deeper than this sum. The walk over a block's rows keeps the depth below 4,096, and b is a word of the plan.
  pub deep : depth + b < 4611686018427387904
