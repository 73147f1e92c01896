-- What the options, the marks where a term's block begins and its `Body` say in the definition's terms. Assumes nothing: these are
-- definitions.
use Rattle.std.specs.Prelude.{ℕ, ◌≡◌, Bool, cond, ltb, List, map, Some, None}
use Rattle.text.specs.Writes.{SameSink}
use Rattle.text.specs.declared.sink.Sink.{Sink}
use Rattle.plan.specs.Plan as plan
use Rattle.plan.specs.Plan.{Generated}
use Rattle.plan.specs.Row.{Row, level}
use Rattle.plan.specs.Lookup.{term_at}
use Rattle.codegen.specs.Sema.{constructor_sig}
use Rattle.codegen.specs.Block.{walk}
use Rattle.codegen.specs.Terms.{argument_refs, no_marks, start}
use Rattle.rows.specs.View.{block_of}
use Rattle.view.specs.Buffers.{env_of, rows_of, bindings_in}
use Rattle.view.specs.declared.buffers.Plan.{Plan}
use Rattle.emits.specs.Marks.{set_of}
use Rattle.sema.specs.Holds.{VariantsIndexed}
use Rattle.sema.specs.Signature.{sig_told}
use Rattle.sema.specs.declared.signature.ExternalSig.{ExternalSig}
use Rattle.context.specs.Context.{outermost}
use Rattle.context.specs.declared.body_context.BodyContext.{BodyContext}
use Rattle.body.specs.Told.{env_in, bindings_of, body_told}
use Rattle.body.specs.Walks.{WritesParts}
use Rattle.body.specs.declared.Body.{Body}
use Rattle.blocks.specs.Row.{Splitting}
use Rattle.emit_terms.specs.Accepted.{TermFits}
use Rattle.emit_terms.specs.declared.options.Options.{Options}

-- what the options say in code: the threshold stands for the definition's two, whether arms split and above which weight
pub record OptionsTold (o : plan.Options) (x : Options) : Type 0 where
  pub logs : o.log ≡ x.log
  pub above : cond o.split (Some o.threshold) None ≡ x.threshold

-- where the block of a term begins whose bindings are those of a table
pub record Started (p : Plan) (bindings : ℕ) (sig : ExternalSig) (s : BodyContext) : Type 0 where
  pub refs : set_of s.is_ref ≡ argument_refs (env_of p) (bindings_in p bindings) 0 (sig_told (env_of p) sig).param_tys no_marks
  pub bound : set_of s.is_bound ≡ no_marks
  pub nesting : s.nesting ≡ outermost

-- the levels for which a few places are enough
abbrev pub below_eight : Row → Bool
below_eight r = ltb (level r) 8

-- the rows of a block, which is in a table
abbrev pub block_in : Plan → ℕ → List Row
block_in p block = map block_of (rows_of p block)

-- the generated term of a body, which is term n and whose block is in a table
abbrev pub term_in : Body → ℕ → ℕ → Generated
term_in b n block = record { term = n; bindings = bindings_of b; rows = block_in b.bindings.plan.now block }

-- the block in this table is written, for a generated term with this signature; that the lent buffer and the room are the same holds
-- whatever the plan is
pub record BodyWritten (b : Body) (block : ℕ) (sig : ExternalSig) (w w' : Sink) : Type 0 where
  pub same : SameSink w w'
  pub is : (splits : ℕ → Bool) (n : ℕ) → VariantsIndexed b.bindings.plan.now → TermFits (term_in b n block) → Splitting splits b.threshold → sig_told (env_in b) sig ≡ constructor_sig (term_at (env_in b) n)
      → WritesParts (env_in b) (walk (body_told b) splits (start (env_in b) (term_in b n block)) 0 (block_in b.bindings.plan.now block)) w w'
