-- Which types exist, and their sorts and variants. Assumes nothing.
use Prim.Native.Nat.{ℕ, suc, zero, ◌+◌, ◌-◌, ◌≤◌, ◌<◌}
use mathlib.Core.Path.{◌≡◌, refl, sym, ap, ◌∙◌}
use mathlib.Core.Logic.{inl, inr}
use mathlib.Core.Bool.{Bool, true, false, cond, ◌&&◌}
use mathlib.Core.List.{List, ◌∷◌, map}
use Rattle.std.specs.Prelude.{Option, Some, None, MatchOption}
use Rattle.std.specs.Option.{option_map, unwrap_or}
use Rattle.std.specs.List.{filter, range_with_len, slice_get}
use native.Mathlib.Omega.{arith}
use lib.Dec.{eqb, ltb}
use lib.ListN.{length, get_or, get_or-eq_default}
use borrow.Author.Tests.{le-ltb, ltb-true}
use Rattle.literal.specs.declared.builtin_type.BuiltinType.{BuiltinType}
use Rattle.literal.specs.declared.builtin_type.BuiltinType.TheVariants as builtin
use Rattle.plan.specs.Plan.{Environment, TypeData, Builtin, unit, Variant}
use Rattle.plan.specs.Lookup.{type_at, variants_of, variant_at, fields_of, field_count}
use Rattle.plan.specs.Refusal.{type_exists, is_enum, enum_exists}
use Rattle.rows.specs.View.{nth, variant_of}
use Rattle.layout.specs.View.{cut, cuts}
use Rattle.view.specs.Tables.{table_rows, environment_in}
use Rattle.view.proofs.Laws.{table_length}
use Rattle.view.proofs.Plans.{types_count, builtin_is, variants_are}
use Rattle.view.proofs.variants.Variants.{numbers_count, number_at}
use Rattle.view.specs.Buffers.{env_of, Undeclared}
use Rattle.view.specs.Bytes.{env_with, env_alike}
use Rattle.view.specs.declared.buffers.Plan.{Plan}
use Rattle.view.specs.Told.{type_told}
use Rattle.view.specs.declared.environment.TypeData as declared
use Rattle.exists.specs.Ready.{Ready, Declares}

and_false : (a : Bool) → false ≡ (a && false)
and_false true = refl
and_false false = refl

-- a test of what type n is, where the plan declares it; it fails at the builtin types
module _ (p : Plan) (n : ℕ) (P : TypeData → Bool) (builtin_fails : (t : BuiltinType) → P (Builtin t) ≡ false) where
  none_there : Undeclared (env_of p) n → false ≡ (type_exists (env_of p) n && P (type_at (env_of p) n))
  none_there (inl h) = rw (builtin_is p.words.now p.rows.now p.tables.now p.bytes.now n h, builtin_fails) (and_false (ltb n (length (env_of p).types)))
  none_there (inr h) = rw (le-ltb n (length (env_of p).types) h) refl

  own_tested : (t : Option declared.TypeData) (x : Bool) {Answers : declared.TypeData → Type 0} → Declares (env_of p) n t → MatchOption t (x ≡ false) Answers
      → ((t : declared.TypeData) (ws : List ℕ) → Answers t → x ≡ P (type_told t ws)) → x ≡ (type_exists (env_of p) n && P (type_at (env_of p) n))
  own_tested None x h q k = q ∙ none_there h
  own_tested (Some t) x h q k = k t h.1.0 q ∙ rw (h.0, ← h.1.1) refl

  -- whatever the plan's bytes are
  pub type_tested : (t : Option declared.TypeData) (x : Bool) {Answers : declared.TypeData → Type 0} → Declares (env_of p) n t → MatchOption t (x ≡ false) Answers
      → ((t : declared.TypeData) (ws : List ℕ) → Answers t → x ≡ P (type_told t ws)) → (bytes : List ℕ) → x ≡ (type_exists (env_with bytes p) n && P (type_at (env_with bytes p) n))
  type_tested t x h q k bytes = rw (env_alike p bytes).types (own_tested t x h q k)

-- how many fields the variant k of type n has in a list of variants
abbrev nothing : Variant
nothing = record { ty = 0; name = 0; fields = unit }

abbrev pub count_at : ℕ → List Variant → ℕ → ℕ
count_at n vs k = field_count (get_or (variants_of n vs) k nothing).fields

-- the rows of the variants of type n, of m rows from row i on, and how many fields each has
abbrev pub rows_of_type : List ℕ → List ℕ → ℕ → ℕ → ℕ → List ℕ
rows_of_type words rows n i m = filter (λ r. eqb (nth (cut words rows r) 0) n) (range_with_len i m)

abbrev pub counts_of_type : List ℕ → List ℕ → ℕ → ℕ → ℕ → List ℕ
counts_of_type words rows n i m = map (λ r. field_count (variant_of (cut words rows r)).fields) (rows_of_type words rows n i m)

module _ (words rows : List ℕ) (n : ℕ) where
  pub count_row : (i m k : ℕ) → unwrap_or (slice_get (counts_of_type words rows n i m) k) 0 ≡ count_at n (map variant_of (cuts words rows i m)) k
  unfolding variants_of variant_of cuts
  count_row i zero k = refl
  count_row i (suc m) k = by_test (eqb (nth (cut words rows i) 0) n) k (count_row (i + 1) m) where
    by_test : (b : Bool) (k : ℕ) → ((k : ℕ) → unwrap_or (slice_get (counts_of_type words rows n (i + 1) m) k) 0 ≡ count_at n (map variant_of (cuts words rows (i + 1) m)) k)
        → unwrap_or (slice_get (map (λ r. field_count (variant_of (cut words rows r)).fields) (cond b (i ∷ rows_of_type words rows n (i + 1) m) (rows_of_type words rows n (i + 1) m))) k) 0
        ≡ field_count (get_or (cond b (variant_of (cut words rows i) ∷ variants_of n (map variant_of (cuts words rows (i + 1) m))) (variants_of n (map variant_of (cuts words rows (i + 1) m)))) k nothing).fields
    by_test true zero more = refl
    by_test true (suc k) more = more k
    by_test false k more = more k

module _ (plan words rows tables : List ℕ) (n : ℕ) where
  abbrev e : Environment
  e = environment_in plan words rows tables

  pub variants_found : {index : List ℕ} → Ready words rows tables index → enum_exists e n ≡ true → length (cut index index n) ≡ length (variants_of n e.variants)
  variants_found r q = ap length (r.index_is.numbers n (small (ltb n (length e.types)) refl q)) ∙ numbers_count plan words rows tables n where
    small : (b : Bool) → ltb n (length e.types) ≡ b → (b && is_enum (type_at e n)) ≡ true → n < 256
    small true p g = omega (arith, ltb-true n (length e.types) p, types_count words rows tables plan, table_length words rows tables 4, r.few)
    small false p g = let z : ◌≡◌ {A = ℕ} 0 1 = cc in absurd (omega arith)

  -- FIELDS

  pub fields_undeclared : Undeclared e n → 0 ≡ field_count (fields_of (type_at e n))
  fields_undeclared (inl h) = rw (builtin_is words rows tables plan n h)
  fields_undeclared (inr h) = ap (λ t. field_count (fields_of t)) (sym (get_or-eq_default e.types (Builtin builtin.Bool) h))

  -- the fields of the variant that is the k-th of its type's
  pub count_found : (i m k : ℕ) (r : Option ℕ) → i ≡ get_or tables 5 0 → m ≡ get_or tables 6 0 → option_map (λ x. x) r ≡ slice_get (counts_of_type words rows n i (m - i)) k
      → unwrap_or r 0 ≡ field_count (variant_at e n k).fields
  unfolding table_rows
  count_found i m k r p q h = same r ∙ rw (h, count_row words rows n i (m - i) k, variants_are words rows tables plan, p, q) refl where
    same : (r : Option ℕ) → unwrap_or r 0 ≡ unwrap_or (option_map (λ x. x) r) 0
    same None = refl
    same (Some r) = refl

  pub fields_none : {index : List ℕ} (k : ℕ) → Ready words rows tables index → n < 256 → length (cut index index n) ≤ k → 0 ≡ field_count (variant_at e n k).fields
  fields_none k r h g =
      let c = ap length (r.index_is.numbers n h) ∙ numbers_count plan words rows tables n in
      ap (λ (v : Variant). field_count v.fields) (sym (get_or-eq_default (variants_of n e.variants) nothing (omega (arith, c))))

  pub fields_found : {index : List ℕ} (k : ℕ) → Ready words rows tables index → n < 256 → k < length (cut index index n)
      → field_count (variant_of (cut words rows (nth (cut index index n) k))).fields ≡ field_count (variant_at e n k).fields
  fields_found k r h g =
      let c = r.index_is.numbers n h in
      rw c (ap (λ (v : Variant). field_count v.fields) (number_at plan words rows tables n k (rw c at g)))
