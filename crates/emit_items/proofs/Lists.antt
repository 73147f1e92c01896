-- The definition's lists from the middle on: their next part, and their end. Assumes nothing.
use Rattle.std.specs.Prelude.{◌≡◌, ℕ, zero, suc, ◌-◌, ◌+◌, ◌<◌, ◌≤◌, Bool, false, ◌&&◌, List, [], ◌∷◌, ◌++◌, length, get_or, drop}
use Rattle.std.specs.List.{range_with_len, list_all}
use mathlib.Core.Path.{refl, ap, ◌∙◌}
use mathlib.Core.Path as Path
use mathlib.Core.List.{append_assoc}
use native.Mathlib.Omega.{arith}
use native.Mathlib.Numerals.{add-one}
use lib.ListN.{drop_of_length-le}
use lib.Seq.{drop-cons}
use Rattle.literal.specs.declared.builtin_type.BuiltinType.TheVariants as builtin
use Rattle.plan.specs.Plan as plan
use Rattle.plan.specs.Plan.{Field, Fields, unit, named, tuple, Builtin, Variant, Environment}
use Rattle.plan.specs.Lookup.{type_at, variants_of, variant_at, field_count}
use Rattle.rows.specs.View.{nth, flagged, fields_in, options_of}
use Rattle.layout.specs.View.{plan_of_tables}
use Rattle.view.specs.Tables.{plan_in}
use Rattle.view.specs.Buffers.{rows_of, env_of, plan_of}
use Rattle.view.specs.declared.buffers.Plan as buffers
use Rattle.view.specs.Told.{fields_told, type_told}
use Rattle.view.specs.declared.environment.TypeData.{TypeData}
use Rattle.rows.specs.declared.kinds.Shape.{Shape}
use Rattle.rows.specs.declared.kinds.Shape.TheVariants as shape
use Rattle.view.proofs.Plans.{table_of, files_count, types_count, types_are}
use Rattle.codegen.specs.Piece.{Piece, fix, file, sym, type, break}
use Rattle.codegen.specs.Sema.{field_name, field_type}
use Rattle.codegen.specs.Items.{file_lines, public, named_fields, tuple_fields, generate_fields, is_unit, all_unit, variant_lines, internal_type, generate_internal_types}
use Rattle.emits.specs.Sinks.{shows_none, shows_text}
use Rattle.emit_items.specs.TraitParts.{separator, joined}
use Rattle.emit_items.specs.Parts.{depth, named_field, tuple_field, variant_line}

-- HEADER

module _ (l : List (List ℕ)) (i : ℕ) where
  pub files_next : i < length l → file_lines i (drop i l) ≡ (fix "// - " refl ∷ file i ∷ break 0 ∷ []) ++ file_lines (i + 1) (drop (i + 1) l)
  unfolding file_lines
  files_next h = rw (add-one i, drop-cons l i [] h) refl

  pub files_end : length l ≤ i → file_lines i (drop i l) ≡ []
  unfolding file_lines
  files_end h = rw (drop_of_length-le l h) refl

-- FIELDS

module _ (allow : Bool) where
  module _ (l : List Field) (i : ℕ) where
    pub named_next : i < length l → named_fields allow (suc (depth allow)) (drop i l) ≡ named_field allow (named l) i ++ named_fields allow (suc (depth allow)) (drop (i + 1) l)
    unfolding named_fields field_name field_type
    named_next h =
        let f = get_or l i (record { name = 0; ty = 0 }) in
        rw (add-one i, drop-cons l i (record { name = 0; ty = 0 }) h)
        (ap (λ (m : List Piece). break (suc (depth allow)) ∷ m) (Path.sym (append_assoc (public allow) (sym f.name ∷ fix ": " refl ∷ type f.ty ∷ fix "," refl ∷ []) (named_fields allow (suc (depth allow)) (drop (suc i) l)))))

    pub named_end : length l ≤ i → named_fields allow (suc (depth allow)) (drop i l) ≡ []
    unfolding named_fields
    named_end h = rw (drop_of_length-le l h) refl

  module _ (l : List ℕ) (i : ℕ) where
    pub tuple_next : i < length l → joined i (tuple_fields allow (drop i l)) ≡ tuple_field allow (tuple l) i ++ joined (i + 1) (tuple_fields allow (drop (i + 1) l))
    unfolding joined tuple_fields field_type
    tuple_next h = rw (add-one i, drop-cons l i 0 h) (Path.sym (append_assoc (separator i) (public allow ++ (type (get_or l i 0) ∷ [])) (joined (suc i) (tuple_fields allow (drop (suc i) l)))))

    pub tuple_end : length l ≤ i → joined i (tuple_fields allow (drop i l)) ≡ []
    unfolding joined tuple_fields
    tuple_end h = rw (drop_of_length-le l h) refl

-- the shapes of fields
module _ {s : Shape} (ws : List ℕ) where
  pub held_named : s ≡ shape.Named → fields_told s ws ≡ named (fields_in ws)
  held_named q = ap (λ (s : Shape). fields_told s ws) q

  pub held_tuple : s ≡ shape.Tuple → fields_told s ws ≡ tuple ws
  held_tuple q = ap (λ (s : Shape). fields_told s ws) q

module _ {f : Fields} where
  pub named_count : {n : ℕ} {l : List Field} → n ≡ field_count f → f ≡ named l → n ≡ length l
  named_count p q = p ∙ ap field_count q

  pub tuple_count : {n : ℕ} {l : List ℕ} → n ≡ field_count f → f ≡ tuple l → n ≡ length l
  tuple_count p q = p ∙ ap field_count q

-- VARIANTS

abbrev nothing : Variant
nothing = record { ty = 0; name = 0; fields = unit }

module _ (env : Environment) (n k : ℕ) where
  abbrev vs : List Variant
  vs = variants_of n env.variants

  pub variants_next : k < length vs → variant_lines (drop k vs)
      ≡ variant_line (variant_at env n k) ++ variant_lines (drop (k + 1) vs)
  unfolding variant_lines
  variants_next h =
      let v = variant_at env n k in
      rw (add-one k, drop-cons vs k nothing h)
      (ap (λ (m : List Piece). break 1 ∷ sym v.name ∷ m) (Path.sym (append_assoc (generate_fields false 1 v.fields) (fix "," refl ∷ []) (variant_lines (drop (suc k) vs)))))

  pub variants_end : length vs ≤ k → variant_lines (drop k vs) ≡ []
  unfolding variant_lines
  variants_end h = rw (drop_of_length-le vs h) refl

  unit_next : k < length vs → all_unit (drop k vs) ≡ (is_unit (variant_at env n k).fields && all_unit (drop (k + 1) vs))
  unfolding all_unit
  unit_next h = rw (add-one k, drop-cons vs k nothing h) refl

module _ (env : Environment) (n : ℕ) where
  unit_from : (k m : ℕ) → k + m ≡ length (variants_of n env.variants) → list_all (λ i. is_unit (variant_at env n i).fields) (range_with_len k m) ≡ all_unit (drop k (variants_of n env.variants))
  unfolding all_unit
  unit_from k zero q = let h : length (variants_of n env.variants) ≤ k = omega arith in rw (drop_of_length-le (variants_of n env.variants) h) refl
  unit_from k (suc m) q = ap (λ (b : Bool). is_unit (variant_at env n k).fields && b) (unit_from (k + 1) m (omega arith)) ∙ Path.sym (unit_next env n k (omega arith))

  pub unit_all : (m : ℕ) → m ≡ length (variants_of n env.variants) → list_all (λ i. is_unit (variant_at env n i).fields) (range_with_len 0 (m - 0)) ≡ all_unit (variants_of n env.variants)
  unit_all m q = unit_from 0 (m - 0) (omega arith)

-- TYPES

module _ (env : Environment) (n : ℕ) where
  pub types_next : n < length env.types → generate_internal_types env n (drop n env.types)
      ≡ internal_type env n (type_at env n) ++ generate_internal_types env (n + 1) (drop (n + 1) env.types)
  unfolding generate_internal_types
  types_next h = rw (add-one n, drop-cons env.types n (Builtin builtin.Bool) h) refl

  pub types_end : length env.types ≤ n → generate_internal_types env n (drop n env.types) ≡ []
  unfolding generate_internal_types
  types_end h = rw (drop_of_length-le env.types h) refl

module _ (p : buffers.Plan) where
  pub file_count : length (env_of p).files ≡ length (rows_of p 1)
  file_count = files_count p.words.now p.rows.now p.tables.now p.bytes.now

  pub type_count : length (env_of p).types ≡ 13 + length (rows_of p 4)
  type_count = types_count p.words.now p.rows.now p.tables.now p.bytes.now

  -- the builtin types write nothing
  pub types_start : generate_internal_types (env_of p) 0 (env_of p).types ≡ generate_internal_types (env_of p) 13 (drop 13 (env_of p).types)
  unfolding generate_internal_types internal_type
  types_start = rw (types_are p.words.now p.rows.now p.tables.now p.bytes.now) refl

  -- OPTIONS
  pub nopragmas_is : {ws : List ℕ} → ws ≡ get_or (rows_of p 0) 0 [] → (plan_of p).options.nopragmas ≡ flagged (nth ws 0)
  unfolding plan_in plan_of_tables options_of
  nopragmas_is r = rw (r, table_of p.words.now p.rows.now p.tables.now 0) refl

-- a type, by the variant that is read of it
pub type_as : {t u : TypeData} (ws : List ℕ) {ty : plan.TypeData} → type_told t ws ≡ ty → t ≡ u → ty ≡ type_told u ws
type_as ws h q = Path.sym h ∙ ap (λ (t : TypeData). type_told t ws) q

-- a constant that is put at once, or nothing
pub ruleset at_once = (shows_none, shows_text)
