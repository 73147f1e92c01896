-- Of which `Body` of the definition the code's is, and what is known of a generated term while its rows are written. Assumes nothing:
-- these are definitions.
use Rattle.std.specs.Prelude as code
use Rattle.std.specs.Prelude.{ℕ, suc, ◌+◌, ◌≡◌, Bool, false, List, ltb, length, drop, Some, None}
use Rattle.std.proofs.Math.Option.{Option}
use Rattle.plan.specs.Plan.{Environment}
use Rattle.plan.specs.Binding.{BindingRow}
use Rattle.plan.specs.Row.{Row}
use Rattle.codegen.specs.Block as block
use Rattle.codegen.specs.Block.{Frame, closures}
use Rattle.rows.specs.View.{patterns_in}
use Rattle.view.specs.Buffers.{words_of, env_of, bindings_in}
use Rattle.sema.specs.Holds.{VariantsIndexed}
use Rattle.sema.specs.Signature.{return_kind_told}
use Rattle.expr.specs.Lower.{Lower}
use Rattle.context.specs.declared.body_context.Nesting.{Nesting}
use Rattle.row_frames.specs.Rows.{rows_from}
use Rattle.body.specs.declared.Body.{Body}

-- the plan's environment, the term's bindings, the words of row r, its pattern, and the rows from row r up to row `last`
abbrev pub env_in : Body → Environment
env_in b = env_of b.bindings.plan.now

abbrev pub bindings_of : Body → List BindingRow
bindings_of b = bindings_in b.bindings.plan.now b.bindings.table

abbrev pub row_in : Body → ℕ → List ℕ
row_in b r = words_of b.bindings.plan.now r

abbrev pub pattern_in : Body → ℕ → List (Option ℕ)
pattern_in b r = patterns_in (drop 7 (row_in b r))

abbrev pub rows_in : Body → ℕ → ℕ → List Row
rows_in b last r = rows_from b.bindings.plan.now.words.now b.bindings.plan.now.rows.now last r

abbrev pub body_told : Body → block.Body
body_told b = record { env = env_in b; bindings = bindings_of b; log = b.log; ret_kind = return_kind_told b.ret_kind; term_name = b.term_name }

-- does an arm of this weight split?
abbrev pub splits_above : code.Option ℕ → ℕ → Bool
splits_above None weight = false
splits_above (Some threshold) weight = ltb threshold weight

-- the variants are indexed, and the sources of each binding are below it
pub record Fits (b : Body) : Type 0 where
  pub indexed : VariantsIndexed b.bindings.plan.now
  pub lower : Lower (bindings_of b)

-- lines of this depth stand inside the frames fs
abbrev pub StandsAt : ℕ → List Frame → Type 0
StandsAt depth fs = depth ≡ closures fs + suc (length fs)

-- the same of a nesting, which says whether a closure is around, too
pub record StandsIn (n : Nesting) (fs : List Frame) : Type 0 where
  pub depth : StandsAt n.depth fs
  pub closure : n.in_closure ≡ ltb 0 (closures fs)
