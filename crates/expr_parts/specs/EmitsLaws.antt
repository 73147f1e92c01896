-- Writers that say the same, and pieces that one function puts. Assumes nothing.
use Rattle.std.specs.Prelude.{◌≡◌, refl, List, ◌∷◌, ◌++◌, ℕ, ◌+◌}
use Rattle.std.proofs.Common.{◌∙◌}
use Rattle.plan.specs.Plan.{Environment}
use Rattle.text.specs.Codes.{codes}
use Rattle.text.specs.Digits.{decimal}
use Rattle.text.specs.Writes.{Writes}
use Rattle.text.specs.declared.sink.Sink.{Sink}
use Rattle.codegen.specs.Piece.{Piece, var, new, break, indent, bytes}
use Rattle.codegen.specs.Writer.{Marks, Writer, said}
use Rattle.emits.specs.Place.{place_cases}
use Rattle.emits.specs.Emits.{run}
use Rattle.emits.specs.Sinks.{Shows, shows_piece}
use Rattle.emits.specs.Runs.{Emits, Rest}

module _ {env : Environment} {d : ℕ} {v u : Writer} where
  -- only what is said with the marks that there are counts
  pub emits_same : {w : Sink} {r : Marks} {w' : Sink} {r' : Marks} → said v r ≡ said u r → Emits env d v w r w' r' → Emits env d u w r w' r'
  unfolding run
  emits_same {w} {r} h p = record {
    buffer = p.buffer;
    size = p.size;
    end = p.end;
    emits = record { is = p.emits.is ∙ place_cases (λ x. run w.end env d v x ≡ run w.end env d u x) w.end w.out.now w.at w.odd r (λ g k. rw h) (λ g. refl) (λ g. refl) };
  }

  pub emits_by : {w : Sink} {r : Marks} {w' : Sink} {r' : Marks} → v ≡ u → Emits env d v w r w' r' → Emits env d u w r w' r'
  emits_by h p = rw (← h) p

pub rest_same : {env : Environment} {d : ℕ} {v u v₀ : Writer} {w₀ : Sink} {r₀ : Marks} {w : Sink} {r : Marks} → said u r ≡ said v r → Rest env d v₀ w₀ r₀ v w r → Rest env d v₀ w₀ r₀ u w r
rest_same h g = record { ends = λ w' r' p. g.ends w' r' (emits_same h p) }

-- PIECES that one function puts
module _ {env : Environment} {d : ℕ} {ps : List Piece} {w w₁ w' : Sink} where
  pub shows_var_put : {n : ℕ} → Writes (codes "v" ++ decimal n) w w₁ → Shows env d ps w₁ w' → Shows env d (var n ∷ ps) w w'
  unfolding bytes
  shows_var_put a b = shows_piece a b

  pub shows_new_put : {n : ℕ} → Writes (codes "v" ++ decimal n) w w₁ → Shows env d ps w₁ w' → Shows env d (new n ∷ ps) w w'
  unfolding bytes
  shows_new_put a b = shows_piece a b

  pub shows_break_put : {k : ℕ} → Writes (10 ∷ indent (d + k)) w w₁ → Shows env d ps w₁ w' → Shows env d (break k ∷ ps) w w'
  unfolding bytes
  shows_break_put a b = shows_piece a b
