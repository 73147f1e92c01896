-- Refusal 4, from counts. Assumes nothing.
use Prim.Native.Nat.{ℕ, suc, ◌+◌, ◌-◌}
use mathlib.Core.Path.{◌≡◌, refl, sym, ap}
use mathlib.Core.Bool.{Bool, true, false, cond, ◌&&◌}
use mathlib.Core.List.{List, [], ◌∷◌, map}
use native.Mathlib.Omega.{arith}
use Rattle.std.proofs.lemmas.Bool.Decides.{nat_tests}
use lib.Dec.{leb, ltb}
use lib.ListN.{length, drop, length-map}
use Rattle.literal.specs.BuiltinType.{all}
use Rattle.plan.specs.Plan.{Fields, unit, named, tuple}
use Rattle.plan.specs.Layout.{builtins}
use Rattle.plan.specs.Lookup.{fields_of, field_count}
use Rattle.plan.specs.Row.{step, arm}
use Rattle.plan.specs.Refusal.{every, at_most, list_most, fields_most, row_most, environment_most, generated_most, within_most}
use Rattle.rows.specs.View.{nth, type_of, variant_of, term_of, patterns_in, binding_of, block_of, step_made, arm_made, wide_at}
use Rattle.view.specs.Buffers.{rows_of, env_of, plan_of}
use Rattle.view.specs.declared.buffers.Plan.{Plan}
use Rattle.view.proofs.Plans.{environment_is, files_count, syms_count, poss_count, types_count, variants_count, terms_count, types_are, variants_are, terms_are}
use Rattle.checks.specs.Tests.{generated_of}
use Rattle.checks.specs.Within.{counts_most}
use Rattle.checks.specs.declared.tables.GeneratedTables.{GeneratedTables}
use Rattle.checks.proofs.Every.{every_map, every_same, every_append}

pub fields_within : (f : Fields) → leb (field_count f) 32 ≡ fields_most f
fields_within unit = refl
fields_within (named fs) = refl
fields_within (tuple ts) = refl

patterns_length : (ws : List ℕ) → length (patterns_in ws) ≡ length ws
unfolding patterns_in
patterns_length [] = refl
patterns_length (n ∷ ws) = ap suc (patterns_length ws)

pub row_within : (ws : List ℕ) → row_most (block_of ws) ≡ (leb (nth ws 0) 63 && leb (length (drop 7 ws)) 32)
unfolding block_of
row_within ws = by_test (ltb (nth ws 1) 4) where
  by_test : (b : Bool) → row_most (cond b (step (nth ws 0) (step_made (nth ws 1) (nth ws 2) (wide_at ws 3)) (drop 7 ws)) (arm (nth ws 0) (arm_made (nth ws 1 - 4) (nth ws 2) (wide_at ws 3)) (patterns_in (drop 7 ws))))
      ≡ (leb (nth ws 0) 63 && leb (length (drop 7 ws)) 32)
  by_test true = refl
  by_test false = rw (patterns_length (drop 7 ws))

and_true : (b : Bool) → (b && true) ≡ b
and_true true = refl
and_true false = refl

with_builtins : (n : ℕ) → leb n (256 - length all) ≡ leb (length all + n) 256
with_builtins n = grind (arith, nat_tests)

module _ (p : Plan) where
  pub counts_tests : (leb (length (rows_of p 1)) 64 && (leb (length (rows_of p 2)) 2048 && (leb (length (rows_of p 3)) 2048
      && (leb (length (rows_of p 4)) (256 - length all) && (leb (length (rows_of p 5)) 1024 && (leb (length (rows_of p 6)) 512 && true))))))
      ≡ counts_most (env_of p)
  counts_tests =
      let words = p.words.now in
      let rows = p.rows.now in
      let tables = p.tables.now in
      rw (
        files_count words rows tables p.bytes.now,
        syms_count words rows tables p.bytes.now,
        poss_count words rows tables p.bytes.now,
        types_count words rows tables p.bytes.now,
        variants_count words rows tables p.bytes.now,
        terms_count words rows tables p.bytes.now,
        and_true (leb (length (rows_of p 6)) 512),
        with_builtins (length (rows_of p 4)),
      )

  and_six : (a b c d e f g : Bool) → (a && (b && (c && (d && (e && (f && g)))))) ≡ ((a && (b && (c && (d && (e && f))))) && g)
  and_six true true true true true f g = refl
  and_six true true true true false f g = refl
  and_six true true true false e f g = refl
  and_six true true false d e f g = refl
  and_six true false c d e f g = refl
  and_six false b c d e f g = refl

  -- the environment's counts, then its lists
  pub environment_tests : environment_most (env_of p)
      ≡ (counts_most (env_of p) && (every (λ ws. leb (field_count (fields_of (type_of ws))) 32) (rows_of p 4)
      && (every (λ ws. leb (field_count (variant_of ws).fields) 32) (rows_of p 5) && every (λ ws. leb (length (drop 8 ws)) 32) (rows_of p 6))))
  unfolding environment_most every term_of
  environment_tests =
      let words = p.words.now in
      let rows = p.rows.now in
      let tables = p.tables.now in
      let lists : (every (λ t. fields_most (fields_of t)) (env_of p).types && (every (λ v. fields_most v.fields) (env_of p).variants && every (λ m. at_most list_most m.arg_tys) (env_of p).terms))
      ≡ (every (λ ws. leb (field_count (fields_of (type_of ws))) 32) (rows_of p 4)
      && (every (λ ws. leb (field_count (variant_of ws).fields) 32) (rows_of p 5) && every (λ ws. leb (length (drop 8 ws)) 32) (rows_of p 6))) =
      rw (
        types_are words rows tables p.bytes.now,
        variants_are words rows tables p.bytes.now,
        terms_are words rows tables p.bytes.now,
        every_append (λ t. fields_most (fields_of t)) (builtins all) (map type_of (rows_of p 4)),
        every_map (λ t. fields_most (fields_of t)) type_of (rows_of p 4),
        every_map (λ v. fields_most v.fields) variant_of (rows_of p 5),
        every_map (λ m. at_most list_most m.arg_tys) term_of (rows_of p 6),
        every_same (λ ws. fields_most (fields_of (type_of ws))) _ (λ ws. sym (fields_within (fields_of (type_of ws)))) (rows_of p 4),
        every_same (λ ws. fields_most (variant_of ws).fields) _ (λ ws. sym (fields_within (variant_of ws).fields)) (rows_of p 5),
      ) refl
      in rw (← lists) (and_six (at_most 64 (env_of p).files) (at_most 2048 (env_of p).syms) (at_most 2048 (env_of p).poss) (at_most 256 (env_of p).types) (at_most 1024 (env_of p).variants) (at_most 512 (env_of p).terms) _)

  pub generated_tests : (g : GeneratedTables) → generated_most (generated_of p g)
      ≡ (leb (length (rows_of p g.bindings)) 1024 && (leb (length (rows_of p g.block)) 2048
      && (every (λ ws. leb (length (drop 6 ws)) 32) (rows_of p g.bindings) && every (λ ws. row_most (block_of ws)) (rows_of p g.block))))
  unfolding generated_most binding_of
  generated_tests g =
      rw (
        length-map (rows_of p g.bindings) binding_of,
        length-map (rows_of p g.block) block_of,
        every_map (λ b. at_most list_most b.sources) binding_of (rows_of p g.bindings),
        every_map row_most block_of (rows_of p g.block),
      ) refl

  pub within_tests : within_most (plan_of p) ≡ (environment_most (env_of p) && (leb (length (plan_of p).generated) 64 && every generated_most (plan_of p).generated))
  unfolding within_most
  within_tests = rw (environment_is p.words.now p.rows.now p.tables.now p.bytes.now) refl
