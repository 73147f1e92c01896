-- The sources of bindings: which kinds have one, and what stands after it. Assumes nothing: these are definitions.
use Rattle.std.specs.Prelude.{ℕ, refl, Bool, true, false, cond, [], ◌∷◌}
use Rattle.plan.specs.Binding.{Binding, ConstBool, ConstInt, ConstPrim, Argument, Extractor, Constructor, Iterator, MakeVariant, MakeStruct, MakeSome, MatchSome, MatchTuple, MatchVariant, ExtractStruct}
use Rattle.codegen.specs.Piece.{fix, num}
use Rattle.codegen.specs.Writer.{Writer, say, ask, nothing}

-- the kinds whose only source is written between fixed texts
abbrev pub one_source : Binding → Bool
one_source (ConstBool v) = false
one_source (ConstInt n v) = false
one_source (ConstPrim n) = false
one_source (Argument i) = false
one_source (Extractor m) = false
one_source (Constructor m) = false
one_source Iterator = true
one_source (MakeVariant n k) = false
one_source (MakeStruct n) = false
one_source MakeSome = true
one_source MatchSome = true
one_source (MatchTuple f) = true
one_source (MatchVariant f) = true
one_source (ExtractStruct f) = true

-- after the only source q, which is asked about once it is written
abbrev pub after_one : Binding → ℕ → Writer
after_one (ConstBool v) q = nothing
after_one (ConstInt n v) q = nothing
after_one (ConstPrim n) q = nothing
after_one (Argument i) q = nothing
after_one (Extractor m) q = nothing
after_one (Constructor m) q = nothing
after_one Iterator q = say (fix ".next() /*FIXME*/" refl ∷ [])
after_one (MakeVariant n k) q = nothing
after_one (MakeStruct n) q = nothing
after_one MakeSome q = say (fix ")" refl ∷ [])
after_one MatchSome q = ask q (λ r. say (cond r (fix ".as_ref()?" refl) (fix "?" refl) ∷ []))
after_one (MatchTuple f) q = say (fix "." refl ∷ num f ∷ [])
after_one (MatchVariant f) q = say (fix "." refl ∷ num f ∷ fix " /*FIXME*/" refl ∷ [])
after_one (ExtractStruct f) q = say (fix "." refl ∷ num f ∷ fix " /*FIXME*/" refl ∷ [])
