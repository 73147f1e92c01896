-- Which calls return many is said by the terms alone: what holds of the plan's own environment holds of each with its terms. Contracts name
-- the plan's own, where they once named each that `TermsHeld`: by `many_held` and the laws of proofs/Bytes they promise no less. Assumes nothing.
use Rattle.std.specs.Prelude.{ℕ, ◌≡◌, refl, [], get_or}
use Rattle.std.proofs.Common.{sym, ◌∙◌}
use Rattle.plan.specs.Plan.{Environment}
use Rattle.plan.specs.Binding.{Binding, ConstBool, ConstInt, ConstPrim, Argument, Extractor, Constructor, Iterator, MakeVariant, MakeStruct, MakeSome, MatchSome, MatchTuple, MatchVariant, ExtractStruct}
use Rattle.plan.specs.Lookup.{term_at}
use Rattle.rows.specs.View.{term_of}
use Rattle.view.specs.Buffers.{rows_of, env_of}
use Rattle.view.specs.declared.buffers.Plan.{Plan}
use Rattle.view.proofs.Plans.{term_is}
use Rattle.schedule_rules.specs.Faults.{returns_many}

-- the buffers hold the terms of env
pub record TermsHeld (env : Environment) (p : Plan) : Type 0 where
  pub term : (n : ℕ) → term_at env n ≡ term_of (get_or (rows_of p 6) n [])

pub terms_held : (p : Plan) → TermsHeld (env_of p) p
terms_held p = record { term = λ n. term_is p.words.now p.rows.now p.tables.now p.bytes.now n }

terms_same : {env : Environment} {p : Plan} → TermsHeld env p → (n : ℕ) → term_at env n ≡ term_at (env_of p) n
terms_same {env} {p} h n = h.term n ∙ sym (term_is p.words.now p.rows.now p.tables.now p.bytes.now n)

pub many_held : {env : Environment} {p : Plan} → TermsHeld env p → (x : Binding) → returns_many env x ≡ returns_many (env_of p) x
unfolding returns_many
many_held h (ConstBool v) = refl
many_held h (ConstInt n v) = refl
many_held h (ConstPrim n) = refl
many_held h (Argument i) = refl
many_held h (Extractor m) = rw (terms_same h m)
many_held h (Constructor m) = rw (terms_same h m)
many_held h Iterator = refl
many_held h (MakeVariant n k) = refl
many_held h (MakeStruct n) = refl
many_held h MakeSome = refl
many_held h MatchSome = refl
many_held h (MatchTuple f) = refl
many_held h (MatchVariant f) = refl
many_held h (ExtractStruct f) = refl
