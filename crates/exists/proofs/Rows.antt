-- Refusals 5 and 6 from rows to generated terms. Assumes nothing.
use Prim.Native.Nat.{ℕ, suc}
use mathlib.Core.Path.{◌≡◌, refl, ap, ◌∙◌}
use mathlib.Core.Bool.{Bool, true, false, ◌&&◌}
use mathlib.Core.List.{List, [], ◌∷◌, map}
use lib.Dec.{eqb, ltb}
use lib.ListN.{length, get_or, drop, length-map}
use Rattle.literal.specs.BuiltinType.{all}
use Rattle.plan.specs.Plan.{Environment}
use Rattle.plan.specs.Layout.{builtins}
use Rattle.plan.specs.Lookup.{term_at}
use Rattle.plan.specs.Refusal.{every, type_refers, variant_refers, term_refers, constructor_exists, row_refers, generated_refers, all_exist, pattern_count, arm_length_fits, lengths_fit}
use Rattle.rows.specs.View.{nth, type_of, variant_of, term_of, patterns_in, binding_of, block_of}
use Rattle.view.specs.Tables.{table_rows, environment_in, plan_in}
use Rattle.view.specs.Told.{constraint_of}
use Rattle.view.proofs.Plans.{environment_is, types_are, variants_are, terms_are}
use Rattle.exists.specs.Ready.{binding_row_refers, binding_length_fits, generated_fits}
use Rattle.checks.proofs.Every.{every_map, every_append}

module _ (e : Environment) (ws : List ℕ) where
  pub step_length : ltb (nth ws 1) 4 ≡ true → true ≡ arm_length_fits e (block_of ws)
  unfolding block_of arm_length_fits
  step_length h = rw h refl

  pub arm_length : ltb (nth ws 1) 4 ≡ false → eqb (length (drop 7 ws)) (pattern_count e (constraint_of ws)) ≡ arm_length_fits e (block_of ws)
  unfolding block_of arm_length_fits patterns_in
  arm_length h = rw (h, patterns_length (drop 7 ws)) refl where
    patterns_length : (ws : List ℕ) → length (patterns_in ws) ≡ length ws
    patterns_length [] = refl
    patterns_length (n ∷ ws) = ap suc (patterns_length ws)

builtins_refer : (e : Environment) → every (type_refers e) (builtins all) ≡ true
unfolding every type_refers
builtins_refer e = refl

module _ (plan words rows tables : List ℕ) where
  abbrev pub e : Environment
  e = environment_in plan words rows tables

  abbrev pub rows_of : ℕ → List (List ℕ)
  rows_of t = table_rows words rows tables t

  -- a generated term, its bindings and its block in three tables
  pub generated_tests : (t b k : ℕ) → generated_refers e (record { term = nth (get_or (rows_of t) 0 []) 0; bindings = map binding_of (rows_of b); rows = map block_of (rows_of k) })
      ≡ (let m = nth (get_or (rows_of t) 0 []) 0 in let args = length (term_at e m).arg_tys in let n = length (rows_of b) in
      constructor_exists e m && (every (λ ws. binding_row_refers e args n (binding_of ws)) (rows_of b) && every (λ ws. row_refers e n (block_of ws)) (rows_of k)))
  unfolding generated_refers
  generated_tests t b k =
      let m = nth (get_or (rows_of t) 0 []) 0 in
      rw (
        length-map (rows_of b) binding_of,
        every_map (binding_row_refers e (length (term_at e m).arg_tys) (length (rows_of b))) binding_of (rows_of b),
        every_map (row_refers e (length (rows_of b))) block_of (rows_of k),
      ) refl

  pub exist_tests : all_exist (plan_in plan words rows tables)
      ≡ (every (λ ws. type_refers e (type_of ws)) (rows_of 4) && (every (λ ws. variant_refers e (variant_of ws)) (rows_of 5) && (every (λ ws. term_refers e (term_of ws)) (rows_of 6)
      && every (generated_refers e) (plan_in plan words rows tables).generated)))
  unfolding all_exist
  exist_tests = rw (environment_is words rows tables plan) (rw (types, variants, terms) refl) where
    types : every (type_refers e) e.types ≡ every (λ ws. type_refers e (type_of ws)) (rows_of 4)
    types = ap (every (type_refers e)) (types_are words rows tables plan) ∙ every_append (type_refers e) (builtins all) (map type_of (rows_of 4)) ∙ rw (builtins_refer e) (every_map (type_refers e) type_of (rows_of 4))

    variants : every (variant_refers e) e.variants ≡ every (λ ws. variant_refers e (variant_of ws)) (rows_of 5)
    variants = ap (every (variant_refers e)) (variants_are words rows tables plan) ∙ every_map (variant_refers e) variant_of (rows_of 5)

    terms : every (term_refers e) e.terms ≡ every (λ ws. term_refers e (term_of ws)) (rows_of 6)
    terms = ap (every (term_refers e)) (terms_are words rows tables plan) ∙ every_map (term_refers e) term_of (rows_of 6)

  abbrev fits : ℕ → ℕ → Bool
  fits b k = generated_fits e (record { term = 0; bindings = map binding_of (rows_of b); rows = map block_of (rows_of k) })

  pub fits_tests : (b k : ℕ) → fits b k
      ≡ (every (λ ws. binding_length_fits e (binding_of ws)) (rows_of b) && every (λ ws. arm_length_fits e (block_of ws)) (rows_of k))
  fits_tests b k = rw (every_map (binding_length_fits e) binding_of (rows_of b), every_map (arm_length_fits e) block_of (rows_of k)) refl

  pub fits_plan : lengths_fit (plan_in plan words rows tables) ≡ every (generated_fits e) (plan_in plan words rows tables).generated
  unfolding lengths_fit
  fits_plan = rw (environment_is words rows tables plan) refl
