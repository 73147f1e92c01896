-- What the steps do to a whole state, in the terms of the definition's marks. Assumes nothing: these are definitions.
use Rattle.std.specs.Prelude.{ℕ, ◌≡◌, Bool, List}
use Rattle.codegen.specs.Writer.{insert}
use Rattle.emits.specs.Marks.{set_of}
use Rattle.context.specs.Context.{SetRef, deeper, shallower, counted}
use Rattle.context.specs.declared.body_context.Nesting.{Nesting}
use Rattle.context.specs.declared.body_context.BodyContext.{BodyContext}

-- the state s with these names and this nesting
abbrev pub altered : BodyContext → List Bool → Nesting → BodyContext
altered s bound n = record { is_ref = s.is_ref; is_bound = bound; nesting = n }

pub record Bind (s : BodyContext) (b : ℕ) (r : BodyContext) : Type 0 where
  pub bound : set_of r.is_bound ≡ insert (set_of s.is_bound) b
  pub refs : r.is_ref ≡ s.is_ref
  pub nesting : r.nesting ≡ s.nesting

-- THE LENT STEPS, from the state s to the state r

abbrev pub Entered : BodyContext → List Bool → BodyContext → Type 0
Entered s scope r = (set_of scope ≡ set_of s.is_bound) × (r ≡ s)

abbrev pub begun : BodyContext → BodyContext
begun s = altered s s.is_bound (deeper s.nesting)

abbrev pub closed : BodyContext → List Bool → BodyContext
closed s scope = altered s scope (shallower s.nesting)

abbrev pub Marked : BodyContext → ℕ → Bool → BodyContext → Type 0
Marked s b is_ref r = SetRef s b is_ref r

abbrev pub Named : BodyContext → ℕ → BodyContext → Type 0
Named s b r = Bind s b r

abbrev pub numbered : BodyContext → BodyContext
numbered s = altered s s.is_bound (counted s.nesting)
