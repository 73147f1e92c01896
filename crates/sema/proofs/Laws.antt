-- The environment that a plan has, by its rows. Assumes nothing.
use Prim.Native.Nat.{ℕ, zero, suc, ◌+◌, ◌-◌, ◌*◌, ◌/◌, ◌≤◌, ◌<◌}
use mathlib.Core.Path.{◌≡◌, refl, sym, ap, ◌∙◌}
use mathlib.Core.Bool.{Bool, true, false, cond, not, ◌&&◌}
use mathlib.Core.Option.{none}
use mathlib.Core.List.{List, [], ◌∷◌, map}
use native.Mathlib.Omega.{arith}
use lib.Dec.{eqb, ltb}
use lib.ListN.{length, drop, get_or, get_or-map, get_or-eq_default}
use borrow.Author.Tests.{ltb-true, ltb-false}
use Rattle.std.specs.Simd.{first_chunks}
use Rattle.literal.specs.BuiltinType.{all, builtin_int}
use Rattle.literal.specs.declared.builtin_type.BuiltinType.{BuiltinType}
use Rattle.literal.specs.declared.builtin_type.BuiltinType.TheVariants as builtin
use Rattle.plan.specs.Plan.{Field, TypeData, Builtin, Primitive, Enum, Struct, FunctionKind, Term, Environment}
use Rattle.plan.specs.Lookup.{type_at, variants_of, variant_at, term_at}
use Rattle.rows.specs.View.{nth, fields_in, shape_of, declared_of, type_of, variant_of, term_of}
use Rattle.layout.specs.View.{text_of, environment_of}
use Rattle.view.specs.Tables.{environment_in}
use Rattle.view.specs.Buffers.{words_of, rows_of, variants_in, env_of}
use Rattle.view.specs.declared.buffers.Plan.{Plan}
use Rattle.rows.specs.Kinds.{type_kind}
use Rattle.rows.specs.contracts.kinds.TypeKind.{the_type}
use Rattle.rows.specs.declared.kinds.TypeKind.{TypeKind}
use Rattle.rows.specs.declared.kinds.TypeKind.TheVariants as kind
use denote.Enum.Bare.{sameb}
use Rattle.view.proofs.Plans.{table_of, types_count, builtin_is, type_is, term_is}
use Rattle.view.specs.Index.{variant_numbers}
use Rattle.view.proofs.variants.Variants.{numbers_count, number_at}
use Rattle.codegen.specs.Piece.{fix, sym_text, pos_text, type_text}
use Rattle.codegen.specs.ReturnKind.{ReturnKind}
use Rattle.codegen.specs.ReturnKind as ret
use Rattle.codegen.specs.Sema.{is_ref_type, int_type, func_name_of, full_name_of, is_external, extractor_sig, constructor_sig}
use Rattle.sema.specs.declared.texts.Text.{Text}
use Rattle.sema.specs.declared.texts.Text.TheVariants as text
use Rattle.sema.specs.Texts.{text_in, text_table}
use Rattle.sema.specs.Holds.{VariantsIndexed, SameVariants}

-- FIELDS

abbrev field_of : List ℕ → ℕ → Field
field_of ws i = get_or (fields_in ws) i (record { name = 0; ty = 0 })

-- a named field has two words
abbrev words_at : List ℕ → ℕ → List ℕ
words_at ws i = get_or (first_chunks 2 (length ws / 2) ws) i []

field_words : (ws : List ℕ) (i : ℕ) → (nth (words_at ws i) 0 ≡ (field_of ws i).name) × (nth (words_at ws i) 1 ≡ (field_of ws i).ty)
unfolding fields_in
field_words [] i = (refl, refl)
field_words (n ∷ []) i = (refl, refl)
field_words (n ∷ t ∷ ws) zero = let z : length (n ∷ t ∷ ws) / 2 ≡ suc (length ws / 2) = omega arith in rw z (refl, refl)
field_words (n ∷ t ∷ ws) (suc i) = let z : length (n ∷ t ∷ ws) / 2 ≡ suc (length ws / 2) = omega arith in rw z (field_words ws i)

module _ (ws : List ℕ) (i : ℕ) {c : List (List ℕ)} (h : c ≡ first_chunks 2 (length ws / 2) ws) where
  pub field_there : {a : List ℕ} → a ≡ get_or c i [] → (nth a 0 ≡ (field_of ws i).name) × (nth a 1 ≡ (field_of ws i).ty)
  field_there q = rw (q, h) (field_words ws i)

  pub field_past : length c ≤ i → (0 ≡ (field_of ws i).name) × (0 ≡ (field_of ws i).ty)
  field_past g = let q : words_at ws i ≡ [] = get_or-eq_default (first_chunks 2 (length ws / 2) ws) [] {n = i} (rw h at g) in rw q at (field_words ws i)

-- SIGNATURES

pub told_constructor : (m : Term) (f : FunctionKind) (k : ReturnKind) → f ≡ m.ctor → k ≡ cond m.multi ret.Iterator (cond m.partial ret.Option ret.Plain)
    → record { func_name = func_name_of f (fix "constructor_" refl) m; full_name = full_name_of f (fix "constructor_" refl) m; param_tys = m.arg_tys; ret_tys = m.ret_ty ∷ []; ret_kind = k } ≡ constructor_sig m
unfolding constructor_sig
told_constructor m f k p q = rw (p, q) refl

either : (b : Bool) → cond (not b) ret.Option ret.Plain ≡ cond b ret.Plain ret.Option
either true = refl
either false = refl

pub told_extractor : (m : Term) (f : FunctionKind) (k : ReturnKind) → f ≡ m.xtor → k ≡ cond m.multi ret.Iterator (cond (not (m.infallible && is_external f)) ret.Option ret.Plain)
    → record { func_name = func_name_of f (fix "extractor_" refl) m; full_name = full_name_of f (fix "extractor_" refl) m; param_tys = m.ret_ty ∷ []; ret_tys = m.arg_tys; ret_kind = k } ≡ extractor_sig m
unfolding extractor_sig
told_extractor m f k p q = rw (q, either (m.infallible && is_external f), p) refl

-- TYPES OF A ROW

-- a row's type is written as no integer
no_int : (ws : List ℕ) → int_type (type_of ws) ≡ none
unfolding type_of int_type
no_int ws = by_kind (eqb (nth ws 0) 0) (eqb (nth ws 0) 1) where
  by_kind : (a b : Bool) → int_type (cond a (Primitive (nth ws 1)) (cond b (Enum (declared_of ws)) (Struct (declared_of ws) (shape_of (nth ws 0 - 2) (drop 5 ws))))) ≡ none
  by_kind true b = refl
  by_kind false true = refl
  by_kind false false = refl

-- its name is its second word
pub named_by : (env : Environment) (ws : List ℕ) → type_text env (type_of ws) ≡ sym_text env (nth ws 1)
unfolding type_of type_text
named_by env ws = by_kind (eqb (nth ws 0) 0) (eqb (nth ws 0) 1) where
  by_kind : (a b : Bool) → type_text env (cond a (Primitive (nth ws 1)) (cond b (Enum (declared_of ws)) (Struct (declared_of ws) (shape_of (nth ws 0 - 2) (drop 5 ws))))) ≡ sym_text env (nth ws 1)
  by_kind true b = refl
  by_kind false true = refl
  by_kind false false = refl

-- it is a reference unless its kind is the first
pub row_ref : (ws : List ℕ) (k : TypeKind) → k ≡ type_kind (nth ws 0) → not (sameb the_type k kind.Prim) ≡ is_ref_type (type_of ws)
unfolding type_of is_ref_type
row_ref ws k q = rw q (by_kind (eqb (nth ws 0) 0) (eqb (nth ws 0) 1) (eqb (nth ws 0) 2) (eqb (nth ws 0) 3)) where
  by_kind : (a b c d : Bool)
      → not (sameb the_type (cond a kind.Prim (cond b kind.Enum (cond c kind.Unit (cond d kind.Named kind.Tuple)))) kind.Prim)
      ≡ is_ref_type (cond a (Primitive (nth ws 1)) (cond b (Enum (declared_of ws)) (Struct (declared_of ws) (shape_of (nth ws 0 - 2) (drop 5 ws)))))
  by_kind true b c d = refl
  by_kind false true c d = refl
  by_kind false false true d = refl
  by_kind false false false true = refl
  by_kind false false false false = refl

module _ (p : Plan) where
  -- TEXTS

  file_is : (n : ℕ) → text_of p.bytes.now (get_or (rows_of p 1) n []) ≡ get_or (env_of p).files n []
  unfolding environment_in environment_of text_of
  file_is n = sym (ap (λ (l : List (List ℕ)). get_or (map (text_of p.bytes.now) l) n []) (table_of p.words.now p.rows.now p.tables.now 1) ∙ get_or-map (text_of p.bytes.now) (rows_of p 1) n [])

  sym_is : (n : ℕ) → text_of p.bytes.now (get_or (rows_of p 2) n []) ≡ sym_text (env_of p) n
  unfolding environment_in environment_of text_of
  sym_is n = sym (ap (λ (l : List (List ℕ)). get_or (map (text_of p.bytes.now) l) n []) (table_of p.words.now p.rows.now p.tables.now 2) ∙ get_or-map (text_of p.bytes.now) (rows_of p 2) n [])

  pos_is : (n : ℕ) → text_of p.bytes.now (get_or (rows_of p 3) n []) ≡ pos_text (env_of p) n
  unfolding environment_in environment_of text_of
  pos_is n = sym (ap (λ (l : List (List ℕ)). get_or (map (text_of p.bytes.now) l) n []) (table_of p.words.now p.rows.now p.tables.now 3) ∙ get_or-map (text_of p.bytes.now) (rows_of p 3) n [])

  -- by the number of the table in which it stands
  pub text_is : (of : Text) (n r : ℕ) → words_of p r ≡ get_or (rows_of p (text_table of)) n [] → text_of p.bytes.now (words_of p r) ≡ text_in (env_of p) of n
  text_is text.File n r q = ap (text_of p.bytes.now) q ∙ file_is n
  text_is text.Sym n r q = ap (text_of p.bytes.now) q ∙ sym_is n
  text_is text.Pos n r q = ap (text_of p.bytes.now) q ∙ pos_is n

  -- TYPES

  abbrev type_words : ℕ → List ℕ
  type_words n = get_or (rows_of p 4) (n - 13) []

  -- a type that has no row, as it is a builtin one or past the last, and one that has
  type_below : (n : ℕ) → n < 13 → Builtin (get_or all n builtin.Bool) ≡ type_at (env_of p) n
  type_below n g = sym (builtin_is p.words.now p.rows.now p.tables.now p.bytes.now n g)

  type_past : (n : ℕ) → 13 ≤ n → length (rows_of p 4) ≤ n - 13 → Builtin builtin.Bool ≡ type_at (env_of p) n
  type_past n g k = sym (get_or-eq_default (env_of p).types (Builtin builtin.Bool) (omega (arith, types_count p.words.now p.rows.now p.tables.now p.bytes.now)))

  type_row : (n : ℕ) → 13 ≤ n → n - 13 < length (rows_of p 4) → type_of (type_words n) ≡ type_at (env_of p) n
  type_row n g k = sym (type_is p.words.now p.rows.now p.tables.now p.bytes.now n g k)

  -- what is said of a type that is no builtin one goes by its row: that of no words stands for a type that doesn't exist
  by_type : {A : Type 0} (f : TypeData → A) (n : ℕ) → 13 ≤ n → f (type_of []) ≡ f (Builtin builtin.Bool) → f (type_of (type_words n)) ≡ f (type_at (env_of p) n)
  by_type f n g q = by_test (ltb (n - 13) (length (rows_of p 4))) refl where
    by_test : (b : Bool) → ltb (n - 13) (length (rows_of p 4)) ≡ b → f (type_of (type_words n)) ≡ f (type_at (env_of p) n)
    by_test true k = ap f (type_row n g (ltb-true (n - 13) (length (rows_of p 4)) k))
    by_test false k =
        let l = ltb-false (n - 13) (length (rows_of p 4)) k in
        ap (λ (ws : List ℕ). f (type_of ws)) (get_or-eq_default (rows_of p 4) [] l) ∙ q ∙ ap f (type_past n g l)

  int_is : (n : ℕ) → builtin_int (get_or all n builtin.Bool) ≡ int_type (type_at (env_of p) n)
  unfolding int_type
  int_is n = by_test (ltb n 13) refl where
    by_test : (b : Bool) → ltb n 13 ≡ b → builtin_int (get_or all n builtin.Bool) ≡ int_type (type_at (env_of p) n)
    by_test true k = ap int_type (type_below n (ltb-true n 13 k))
    by_test false k =
        let l : 13 ≤ n = ltb-false n 13 k in
        ap builtin_int (get_or-eq_default all builtin.Bool {n = n} l) ∙ sym (no_int (type_words n)) ∙ by_type int_type n l (no_int [])

  pub int_read : (t : BuiltinType) (n : ℕ) → t ≡ get_or all n builtin.Bool → builtin_int t ≡ int_type (type_at (env_of p) n)
  int_read t n h = ap builtin_int h ∙ int_is n

  -- TERMS

  pub term_in_row : (n r : ℕ) → words_of p r ≡ get_or (rows_of p 6) n [] → term_of (words_of p r) ≡ term_at (env_of p) n
  term_in_row n r q = ap term_of q ∙ sym (term_is p.words.now p.rows.now p.tables.now p.bytes.now n)

-- VARIANTS

module _ {p : Plan} (h : VariantsIndexed p) where
  -- of a type that has a place in the index, and of another
  pub variants_counted : (n : ℕ) → n < 256 → length (variants_in p n) ≡ length (variants_of n (env_of p).variants)
  variants_counted n g = ap length (h.indexed.numbers n g) ∙ numbers_count p.bytes.now p.words.now p.rows.now p.tables.now n

  pub variants_none : (n : ℕ) → 256 ≤ n → 0 ≡ length (variants_of n (env_of p).variants)
  variants_none n g = sym (ap length (h.others n g))

  pub variant_row : (n k : ℕ) → k < length (variants_of n (env_of p).variants) → variant_of (words_of p (nth (variants_in p n) k)) ≡ variant_at (env_of p) n k
  variant_row n k g = by_test (ltb n 256) refl where
    by_test : (b : Bool) → ltb n 256 ≡ b → variant_of (words_of p (nth (variants_in p n) k)) ≡ variant_at (env_of p) n k
    by_test true t =
        let l = ltb-true n 256 t in
        let m : k < length (variant_numbers p.words.now p.rows.now p.tables.now n) = omega (arith, g, variants_counted n l, ap length (h.indexed.numbers n l)) in
        ap (λ (l : List ℕ). variant_of (words_of p (nth l k))) (h.indexed.numbers n l) ∙ number_at p.bytes.now p.words.now p.rows.now p.tables.now n k m
    by_test false t = absurd (omega (arith, variants_none n (ltb-false n 256 t)))

-- the same of another plan whose rows and index are these
pub variant_same : {p p' : Plan} → SameVariants p p' → VariantsIndexed p' → (n k : ℕ) → k < length (variants_of n (env_of p').variants) → variant_of (words_of p (nth (variants_in p n) k)) ≡ variant_at (env_of p') n k
variant_same {p} {p'} s h n k g = same ∙ variant_row h n k g where
  same : variant_of (words_of p (nth (variants_in p n) k)) ≡ variant_of (words_of p' (nth (variants_in p' n) k))
  same = rw (s.words, s.rows, s.index) refl

pub same_variants : {p : Plan} → SameVariants p p
same_variants = record { words = refl; rows = refl; index = refl }
