-- What the steps of `BodyContext` do, in the terms of the definition's marks. Assumes nothing: these are definitions.
use Rattle.std.specs.Prelude.{ℕ, ◌+◌, ◌-◌, ◌≡◌, Bool, false, cond}
use Rattle.codegen.specs.Writer.{insert}
use Rattle.codegen.specs.Terms.{no_marks}
use Rattle.emits.specs.Marks.{set_of}
use Rattle.context.specs.declared.body_context.Nesting.{Nesting}
use Rattle.context.specs.declared.body_context.BodyContext.{BodyContext}

-- where a term begins
abbrev pub outermost : Nesting
outermost = record { depth = 0; match_split = 0; in_closure = false }

abbrev pub deeper : Nesting → Nesting
deeper n = record { depth = n.depth + 1; match_split = n.match_split; in_closure = n.in_closure }

abbrev pub shallower : Nesting → Nesting
shallower n = record { depth = n.depth - 1; match_split = n.match_split; in_closure = n.in_closure }

abbrev pub counted : Nesting → Nesting
counted n = record { depth = n.depth; match_split = n.match_split + 1; in_closure = n.in_closure }

pub record New (s : BodyContext) : Type 0 where
  pub refs : set_of s.is_ref ≡ no_marks
  pub bound : set_of s.is_bound ≡ no_marks
  pub nesting : s.nesting ≡ outermost

-- all but the marks of references are as before
pub record SameButRefs (s r : BodyContext) : Type 0 where
  pub bound : r.is_bound ≡ s.is_bound
  pub nesting : r.nesting ≡ s.nesting

pub record SetRef (s : BodyContext) (b : ℕ) (is_ref : Bool) (r : BodyContext) : Type 0 where
  pub refs : set_of r.is_ref ≡ cond is_ref (insert (set_of s.is_ref) b) (set_of s.is_ref)
  pub same : SameButRefs s r
