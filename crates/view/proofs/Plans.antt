-- The environment and the generated terms that the buffers hold. Assumes nothing.
use Prim.Native.Nat.{ℕ, zero, suc, ◌+◌, ◌-◌, ◌/◌, ◌≤◌, ◌<◌}
use mathlib.Core.Path.{◌≡◌, refl, sym, ap, ◌∙◌}
use mathlib.Core.Logic.{inl, inr}
use mathlib.Core.Bool.{Bool, true, false}
use mathlib.Core.List.{List, [], ◌∷◌, ◌++◌, map}
use native.Mathlib.Omega.{arith}
use lib.Dec.{ltb}
use lib.ListN.{length, drop, get_or, length-map, length-append, get_or-map, get_or-append, get_or-eq_default}
use lib.Seq.{get_or-append-add}
use borrow.Author.Tests.{lt-ltb, ltb-true, ltb-false}
use Rattle.literal.specs.BuiltinType.{all}
use Rattle.literal.specs.declared.builtin_type.BuiltinType.{BuiltinType}
use Rattle.literal.specs.declared.builtin_type.BuiltinType.TheVariants as builtin
use Rattle.plan.specs.Plan.{Builtin}
use Rattle.plan.specs.Layout.{builtins}
use Rattle.plan.specs.Lookup.{type_at, term_at, binding_at}
use Rattle.plan.specs.Refusal.{type_exists}
use Rattle.rows.specs.View.{nth, flagged, type_of, variant_of, term_of, function_of, binding_of, binding_made}
use Rattle.layout.specs.Scan.{Tables}
use Rattle.layout.specs.View.{cut, text_of, environment_of, generated_of, plan_of_tables}
use Rattle.view.specs.Tables.{table_rows, tables_from, tables_in, environment_in, plan_in, generated_at, generated_from}
use Rattle.view.specs.Buffers.{words_of, rows_of, env_of, Undeclared}
use Rattle.view.specs.declared.buffers.Plan.{Plan}
use Rattle.view.proofs.Laws.{past, cuts_none, table_at, table_past, table_length, tables_at, tables_length}

module _ (words rows tables : List ℕ) where
  -- a table's rows, by its number; none past the last table
  pub table_of : (t : ℕ) → get_or (tables_in words rows tables) t [] ≡ table_rows words rows tables t
  unfolding tables_in table_rows
  table_of t = by_test (ltb t (length tables - 1)) refl where
    by_test : (b : Bool) → ltb t (length tables - 1) ≡ b → get_or (tables_from words rows tables 0 (length tables - 1)) t [] ≡ table_rows words rows tables t
    by_test true h = let z : 0 + t ≡ t = omega arith in rw z at (tables_at words rows tables 0 (length tables - 1) t (ltb-true t (length tables - 1) h))
    by_test false h =
        let l : length tables - 1 ≤ t = ltb-false t (length tables - 1) h in
        get_or-eq_default (tables_from words rows tables 0 (length tables - 1)) [] (rw (tables_length words rows tables 0 (length tables - 1)) l)
        ∙ sym (rw (← past tables (t + 1) (omega arith)) (cuts_none words rows (get_or tables t 0) 0 (omega arith)))

  drop_tables : (k t n : ℕ) → drop k (tables_from words rows tables t n) ≡ tables_from words rows tables (t + k) (n - k)
  unfolding tables_from
  drop_tables zero t n = let z : t + 0 ≡ t = omega arith in let y : n - 0 ≡ n = omega arith in rw (z, y)
  drop_tables (suc k) t zero = let y : 0 - suc k ≡ 0 = omega arith in rw y
  drop_tables (suc k) t (suc n) = let z : t + suc k ≡ t + 1 + k = omega arith in let y : suc n - suc k ≡ n - k = omega arith in rw (z, y) (drop_tables k (t + 1) n)

  pub generated_is : (plan : List ℕ) → (plan_in plan words rows tables).generated ≡ generated_from words rows tables 7
  unfolding plan_in plan_of_tables tables_in generated_from
  generated_is plan = ap generated_of (drop_tables 7 0 (length tables - 1))

  pub environment_is : (plan : List ℕ) → (plan_in plan words rows tables).env ≡ environment_in plan words rows tables
  unfolding plan_in plan_of_tables environment_in
  environment_is plan = refl

  pub generated_none : (t : ℕ) → length tables ≤ t + 3 → generated_from words rows tables t ≡ []
  unfolding generated_from generated_of tables_from
  generated_none t h = by_count (length tables - 1 - t) (omega arith) where
    by_count : (n : ℕ) → n < 3 → generated_of (tables_from words rows tables t n) ≡ []
    by_count zero g = refl
    by_count (suc zero) g = refl
    by_count (suc (suc zero)) g = refl
    by_count (suc (suc (suc n))) g = absurd (omega arith)

  pub generated_next : (t : ℕ) → t + 3 < length tables → generated_from words rows tables t ≡ generated_at words rows tables t ∷ generated_from words rows tables (t + 3)
  unfolding generated_from generated_of tables_from generated_at
  generated_next t h =
      let n : length tables - 1 - t ≡ suc (suc (suc (length tables - 1 - (t + 3)))) = omega arith in
      let a : t + 1 + 1 ≡ t + 2 = omega arith in
      let b : t + 2 + 1 ≡ t + 3 = omega arith in
      rw (n, a, b) refl

  pub generated_length : (t : ℕ) → length (generated_from words rows tables t) ≡ (length tables - 1 - t) / 3
  unfolding generated_from generated_of
  generated_length t = counted (tables_from words rows tables t (length tables - 1 - t)) ∙ ap (λ (n : ℕ). n / 3) (tables_length words rows tables t (length tables - 1 - t)) where
    counted : (ts : Tables) → length (generated_of ts) ≡ length ts / 3
    counted [] = refl
    counted (t ∷ []) = refl
    counted (t ∷ b ∷ []) = refl
    counted (t ∷ b ∷ r ∷ ts) = omega (arith, counted ts)

  -- THE ENVIRONMENT

  module _ (plan : List ℕ) where
    pub files_count : length (environment_in plan words rows tables).files ≡ length (table_rows words rows tables 1)
    unfolding environment_in environment_of
    files_count = length-map (get_or (tables_in words rows tables) 1 []) (text_of plan) ∙ ap length (table_of 1)

    pub syms_count : length (environment_in plan words rows tables).syms ≡ length (table_rows words rows tables 2)
    unfolding environment_in environment_of
    syms_count = length-map (get_or (tables_in words rows tables) 2 []) (text_of plan) ∙ ap length (table_of 2)

    pub poss_count : length (environment_in plan words rows tables).poss ≡ length (table_rows words rows tables 3)
    unfolding environment_in environment_of
    poss_count = length-map (get_or (tables_in words rows tables) 3 []) (text_of plan) ∙ ap length (table_of 3)

    pub types_are : (environment_in plan words rows tables).types ≡ builtins all ++ map type_of (table_rows words rows tables 4)
    unfolding environment_in environment_of
    types_are = rw (table_of 4)

    pub variants_are : (environment_in plan words rows tables).variants ≡ map variant_of (table_rows words rows tables 5)
    unfolding environment_in environment_of
    variants_are = rw (table_of 5)

    pub terms_are : (environment_in plan words rows tables).terms ≡ map term_of (table_rows words rows tables 6)
    unfolding environment_in environment_of
    terms_are = rw (table_of 6)

    pub types_count : length (environment_in plan words rows tables).types ≡ length all + length (table_rows words rows tables 4)
    types_count = ap length types_are ∙ length-append (builtins all) (map type_of (table_rows words rows tables 4)) ∙ ap (λ (n : ℕ). length all + n) (length-map (table_rows words rows tables 4) type_of)

    pub variants_count : length (environment_in plan words rows tables).variants ≡ length (table_rows words rows tables 5)
    variants_count = ap length variants_are ∙ length-map (table_rows words rows tables 5) variant_of

    pub terms_count : length (environment_in plan words rows tables).terms ≡ length (table_rows words rows tables 6)
    terms_count = ap length terms_are ∙ length-map (table_rows words rows tables 6) term_of

    -- a term that doesn't exist is that of no words
    pub term_is : (n : ℕ) → term_at (environment_in plan words rows tables) n ≡ term_of (get_or (table_rows words rows tables 6) n [])
    unfolding term_of function_of
    term_is n = rw terms_are (get_or-map term_of (table_rows words rows tables 6) n [])

    pub builtin_is : (n : ℕ) → n < length all → type_at (environment_in plan words rows tables) n ≡ Builtin (get_or all n builtin.Bool)
    builtin_is n h = rw types_are (get_or-append (builtins all) (map type_of (table_rows words rows tables 4)) (Builtin builtin.Bool) n h ∙ each_builtin all n) where
      each_builtin : (ts : List BuiltinType) (n : ℕ) → get_or (builtins ts) n (Builtin builtin.Bool) ≡ Builtin (get_or ts n builtin.Bool)
      each_builtin [] n = refl
      each_builtin (t ∷ ts) zero = refl
      each_builtin (t ∷ ts) (suc n) = each_builtin ts n

    pub type_is : (n : ℕ) → length all ≤ n → n - length all < length (table_rows words rows tables 4) → type_at (environment_in plan words rows tables) n ≡ type_of (get_or (table_rows words rows tables 4) (n - length all) [])
    type_is n h g =
        let z : n ≡ length all + (n - length all) = omega arith in
        rw types_are (ap (λ (m : ℕ). get_or (builtins all ++ map type_of (table_rows words rows tables 4)) m (Builtin builtin.Bool)) z
        ∙ get_or-append-add (builtins all) (map type_of (table_rows words rows tables 4)) (n - length all) (Builtin builtin.Bool)
        ∙ mapped (table_rows words rows tables 4) (n - length all) g) where
          mapped : (l : List (List ℕ)) (k : ℕ) → k < length l → get_or (map type_of l) k (Builtin builtin.Bool) ≡ type_of (get_or l k [])
          mapped [] k g = absurd (omega arith)
          mapped (x ∷ l) zero g = refl
          mapped (x ∷ l) (suc k) g = mapped l k (omega arith)

-- THE ROWS, TYPES AND TERMS OF A PLAN'S VALUE

module _ (p : Plan) where
  same_length : (t : ℕ) (words : List ℕ) → length (table_rows words p.rows.now p.tables.now t) ≡ length (rows_of p t)
  same_length t words = table_length words p.rows.now p.tables.now t ∙ sym (table_length p.words.now p.rows.now p.tables.now t)

  -- a table's row, whatever the words are
  pub row_there : (t i : ℕ) → i < length (rows_of p t) → (words : List ℕ) → cut words p.rows.now (get_or p.tables.now t 0 + i) ≡ get_or (table_rows words p.rows.now p.tables.now t) i []
  row_there t i h words = table_at words p.rows.now p.tables.now t i (omega (arith, same_length t words))

  pub row_none : (t i : ℕ) → length (rows_of p t) ≤ i → (words : List ℕ) → cut words p.rows.now (length p.rows.now) ≡ get_or (table_rows words p.rows.now p.tables.now t) i []
  row_none t i h words = table_past words p.rows.now p.tables.now t i (omega (arith, same_length t words))

  -- a type that the plan does not declare is a builtin one, `bool` where there is none
  pub builtin_data : (n : ℕ) → Undeclared (env_of p) n → Builtin (get_or all n builtin.Bool) ≡ type_at (env_of p) n
  builtin_data n (inl h) = sym (builtin_is p.words.now p.rows.now p.tables.now p.bytes.now n h)
  builtin_data n (inr h) =
      let g : length all ≤ n = omega (arith, types_count p.words.now p.rows.now p.tables.now p.bytes.now) in
      ap Builtin (get_or-eq_default all builtin.Bool {n = n} g) ∙ sym (get_or-eq_default (env_of p).types (Builtin builtin.Bool) h)

  pub type_past : (n : ℕ) → length all ≤ n → length (rows_of p 4) ≤ n - length all → Undeclared (env_of p) n
  type_past n h g = inr (omega (arith, types_count p.words.now p.rows.now p.tables.now p.bytes.now))

  pub type_there : (n i : ℕ) → length all ≤ n → i ≡ n - length all → i < length (rows_of p 4) → type_exists (env_of p) n ≡ true
  type_there n i h e g = lt-ltb n (length (env_of p).types) (omega (arith, types_count p.words.now p.rows.now p.tables.now p.bytes.now))

  pub type_said : (n i r : ℕ) → length all ≤ n → i ≡ n - length all → i < length (rows_of p 4) → words_of p r ≡ get_or (rows_of p 4) i [] → type_at (env_of p) n ≡ type_of (words_of p r)
  type_said n i r h e g q = type_is p.words.now p.rows.now p.tables.now p.bytes.now n h (rw e at g) ∙ ap type_of (sym (rw e at q))

  pub multi_is : (m r : ℕ) → words_of p r ≡ get_or (rows_of p 6) m [] → flagged (nth (words_of p r) 3) ≡ (term_at (env_of p) m).multi
  unfolding term_of
  multi_is m r q = rw (term_is p.words.now p.rows.now p.tables.now p.bytes.now m, q)

-- THE BINDINGS OF A TABLE

pub binding_is : (t : List (List ℕ)) (n : ℕ) → binding_at (map binding_of t) n ≡ binding_of (get_or t n [])
unfolding binding_of binding_made
binding_is t n = get_or-map binding_of t n []

pub sources_are : (t : List (List ℕ)) (n : ℕ) (ws : List ℕ) → ws ≡ get_or t n [] → drop 6 ws ≡ (binding_at (map binding_of t) n).sources
unfolding binding_of
sources_are t n ws e = rw (binding_is t n, e)
