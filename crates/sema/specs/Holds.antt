-- The variants of a plan are indexed. Assumes nothing: these are definitions.
use Rattle.std.specs.Prelude.{ℕ, ◌≤◌, ◌≡◌, []}
use Rattle.plan.specs.Lookup.{variants_of}
use Rattle.view.specs.Buffers.{env_of}
use Rattle.view.specs.declared.buffers.Plan.{Plan}
use Rattle.view.specs.Index.{VariantIndex}

-- `index`: row n of it, cut by its own first 257 entries, has the numbers of the rows of the variants of type n
pub record VariantsIndexed (p : Plan) : Type 0 where
  pub indexed : VariantIndex p.words.now p.rows.now p.tables.now p.index.now
  -- a type that has no place in the index has no variants
  pub others : (n : ℕ) → 256 ≤ n → variants_of n (env_of p).variants ≡ []

-- another plan whose rows and index are the same
pub record SameVariants (p p' : Plan) : Type 0 where
  pub words : p'.words.now ≡ p.words.now
  pub rows : p'.rows.now ≡ p.rows.now
  pub index : p'.index.now ≡ p.index.now
