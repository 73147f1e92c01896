-- The words of a row stand for the row of the definition. Assumes nothing.
use Prim.Native.Nat.{ℕ, suc, ◌+◌, ◌-◌, ◌<◌}
use mathlib.Core.Path.{◌≡◌, refl, sym, ap, ◌∙◌}
use mathlib.Core.Bool.{Bool, true, false, cond}
use mathlib.Core.List.{List, [], ◌∷◌}
use mathlib.Core.Option.{Option, some, none}
use native.Mathlib.Omega.{arith}
use lib.Dec.{eqb, ltb}
use lib.ListN.{length, get_or}
use borrow.Author.Tests.{ne_eqb, lt-ltb, le-ltb, ltb-true, ltb-false}
use Rattle.text.specs.Codes.{codes}
use Rattle.text.specs.Split.{split, same}
use Rattle.plan.specs.Plan.{Field, Fields, unit, named, tuple, Declared, TypeData, Primitive, Enum, Struct, FunctionKind, absent, internal, external}
use Rattle.plan.specs.Layout.{◌⊛◌, each, number, is, unused, bit, function_kind, list, field, pattern_binding, row, at, options_row, Kind, by_kind, shapes, declared, type_row, variant_row, term_row}
use Rattle.tokens.specs.Token.{place}
use Rattle.tokens.proofs.Laws.{parts_some}
use Rattle.cells.specs.Words.{◌⧺◌, word}
use Rattle.cells.specs.Value.{flag, function_word, threshold, cell, kind_word}
use Rattle.cells.proofs.values.Laws.{number_small}
use Rattle.cells.specs.Items.{unbound, pattern_word, field_words, item, items, list_words}
use Rattle.rows.specs.Row.{options_words, type_kinds, type_bits, type_poss, type_lists, type_words, shape_kinds, shape_lists, variant_words, term_words}
use Rattle.rows.specs.View.{flagged, options_of, fields_in, shape_of, type_of, variant_of, function_of, term_of, pattern_of, patterns_in}

-- the count of the values is asked once
pub row_law : {A : Type 0} (n : ℕ) (f : List (List ℕ) → Option (List ℕ)) (g : List (List ℕ) → Option A) (d : List ℕ → A)
    → ((vs : List (List ℕ)) → some d ⊛ f vs ≡ g vs) → (line : List ℕ) → some d ⊛ row n f line ≡ row n g line
unfolding row ◌⊛◌
row_law {A = A} n f g d h line = by_test (eqb (length (split (eqb 32) line)) n) where
  by_test : (b : Bool) → some d ⊛ cond b (f (split (eqb 32) line)) none ≡ cond b (g (split (eqb 32) line)) none
  by_test true = h (split (eqb 32) line)
  by_test false = refl

pub flagged_flag : (b : Bool) → flagged (flag b) ≡ b
flagged_flag true = refl
flagged_flag false = refl

pub function_law : (f : FunctionKind) → function_of (function_word f) ≡ f
unfolding function_of
function_law absent = refl
function_law internal = refl
function_law (external n) =
    let z : n + 2 - 2 ≡ n = omega arith in
    rw (ne_eqb (n + 2) 0 (λ q. omega arith), ne_eqb (n + 2) 1 (λ q. omega arith), z)

-- OPTIONS

options_cells : (a b c : Option Bool) (t : Option ℕ)
    → some options_of ⊛ (word (some flag ⊛ a) ⧺ word (some flag ⊛ b) ⧺ word (some flag ⊛ c) ⧺ word t)
    ≡ some (λ n l s t. record { nopragmas = n; log = l; split = s; threshold = t }) ⊛ a ⊛ b ⊛ c ⊛ t
unfolding options_of word ◌⧺◌ ◌⊛◌
options_cells none b c t = refl
options_cells (some a) none c t = refl
options_cells (some a) (some b) none t = refl
options_cells (some a) (some b) (some c) none = refl
options_cells (some a) (some b) (some c) (some t) = rw (flagged_flag a, flagged_flag b, flagged_flag c)

pub options_law : (line : List ℕ) → some options_of ⊛ options_words line ≡ options_row line
unfolding options_words options_row cell threshold
options_law line = row_law 4 _ _ options_of (λ vs. options_cells (bit (at vs 0)) (bit (at vs 1)) (bit (at vs 2)) (threshold (at vs 3))) line

-- LISTS

items_numbers : (ps : List (List ℕ)) → items 1 ps ≡ each number ps
unfolding items item each ◌⊛◌ ◌⧺◌ word
items_numbers [] = refl
items_numbers (p ∷ ps) = rw (items_numbers ps) (by_item (number p) (each number ps)) where
  by_item : (o : Option ℕ) (w : Option (List ℕ)) → word o ⧺ w ≡ some (λ y ys. y ∷ ys) ⊛ o ⊛ w
  by_item none w = refl
  by_item (some n) none = refl
  by_item (some n) (some w) = refl

pub list_numbers : (t : List ℕ) → list_words 1 t ≡ list number t
unfolding list_words list
list_numbers t = rw (items_numbers (split (eqb 44) t))

items_fields : (ps : List (List ℕ)) → some fields_in ⊛ items 2 ps ≡ each field ps
unfolding items item each fields_in ◌⊛◌ ◌⧺◌
items_fields [] = refl
items_fields (p ∷ ps) = by_item (field p) (items 2 ps) ∙ rw (items_fields ps) where
  by_item : (o : Option Field) (w : Option (List ℕ)) → some fields_in ⊛ ((some field_words ⊛ o) ⧺ w) ≡ some (λ y ys. y ∷ ys) ⊛ o ⊛ (some fields_in ⊛ w)
  by_item none w = refl
  by_item (some f) none = refl
  by_item (some f) (some w) = refl

pub list_fields : (t : List ℕ) → some fields_in ⊛ list_words 2 t ≡ list field t
unfolding list_words list ◌⊛◌ fields_in
list_fields t = by_test (is "-" t) where
  by_test : (b : Bool) → some fields_in ⊛ cond b (some []) (items 2 (split (eqb 44) t)) ≡ cond b (some []) (each field (split (eqb 44) t))
  by_test true = refl
  by_test false = items_fields (split (eqb 44) t)

-- no number is the word of `_`
pattern_law : (t : List ℕ) (x : Option ℕ) → pattern_binding t ≡ some x → pattern_of (pattern_word x) ≡ x
unfolding pattern_binding ◌⊛◌
pattern_law t none h = refl
pattern_law t (some n) h = by_test (is "_" t) h where
  by_number : (o : Option ℕ) → number t ≡ o → some some ⊛ o ≡ some (some n) → pattern_of n ≡ some n
  by_number none e h = let z : ◌≡◌ {A = ℕ} 0 1 = cc in absurd (omega arith)
  by_number (some m) e h = let q : m ≡ n = cc in rw (ne_eqb n unbound (λ p. omega (arith, number_small t m e)))

  by_test : (b : Bool) → cond b (some none) (some some ⊛ number t) ≡ some (some n) → pattern_of n ≡ some n
  by_test true h = let z : ◌≡◌ {A = ℕ} 0 1 = cc in absurd (omega arith)
  by_test false h = by_number (number t) refl h

items_patterns : (ps : List (List ℕ)) → some patterns_in ⊛ items 3 ps ≡ each pattern_binding ps
unfolding items item each patterns_in ◌⊛◌ ◌⧺◌ word
items_patterns [] = refl
items_patterns (p ∷ ps) = by_item (pattern_binding p) (λ x h. pattern_law p x h) (items 3 ps) ∙ rw (items_patterns ps) where
  by_item : (o : Option (Option ℕ)) → ((x : Option ℕ) → o ≡ some x → pattern_of (pattern_word x) ≡ x) → (w : Option (List ℕ))
      → some patterns_in ⊛ (word (some pattern_word ⊛ o) ⧺ w) ≡ some (λ y ys. y ∷ ys) ⊛ o ⊛ (some patterns_in ⊛ w)
  by_item none h w = refl
  by_item (some x) h none = refl
  by_item (some x) h (some w) = rw (h x refl)

pub list_patterns : (t : List ℕ) → some patterns_in ⊛ list_words 3 t ≡ list pattern_binding t
unfolding list_words list ◌⊛◌ patterns_in
list_patterns t = by_test (is "-" t) where
  by_test : (b : Bool) → some patterns_in ⊛ cond b (some []) (items 3 (split (eqb 44) t)) ≡ cond b (some []) (each pattern_binding (split (eqb 44) t))
  by_test true = refl
  by_test false = items_patterns (split (eqb 44) t)

pub list_unused : (t : List ℕ) → list_words 0 t ≡ cond (is "-" t) (some []) none
unfolding list_words items item ◌⧺◌
list_unused t = rw (no_items (split (eqb 44) t) (parts_some (eqb 44) t)) where
  no_items : (ps : List (List ℕ)) → 0 < length ps → items 0 ps ≡ none
  no_items [] h = absurd (omega arith)
  no_items (p ∷ ps) h = refl

-- KINDS

pub ltb_suc : (a b : ℕ) → ltb (suc a) (suc b) ≡ ltb a b
ltb_suc a b = by_test (ltb a b) refl where
  by_test : (t : Bool) → ltb a b ≡ t → ltb (suc a) (suc b) ≡ t
  by_test true h = lt-ltb (suc a) (suc b) (omega (arith, ltb-true a b h))
  by_test false h = le-ltb (suc a) (suc b) (omega (arith, ltb-false a b h))

abbrev pub names_of : {A : Type 0} → List (Kind A) → List (List ℕ)
names_of [] = []
names_of (c ∷ cs) = codes c.name ∷ names_of cs

-- f gives what each kind reads
abbrev pub Reads : {A : Type 0} → (ℕ → Option A) → List (Kind A) → List ℕ → List ℕ → Type 0
Reads f [] a b = Unit
Reads f (c ∷ cs) a b = (f 0 ≡ c.read a b) × Reads (λ i. f (suc i)) cs a b

pub by_place : {A : Type 0} (cs : List (Kind A)) (f : ℕ → Option A) (k a b : List ℕ) → Reads f cs a b
    → by_kind cs k a b ≡ cond (ltb (place (names_of cs) k) (length cs)) (f (place (names_of cs) k)) none
unfolding by_kind place
by_place [] f k a b h = refl
by_place (c ∷ cs) f k a b h = by_test (same k (codes c.name)) (by_place cs (λ i. f (suc i)) k a b h.1) where
  by_test : (t : Bool) → by_kind cs k a b ≡ cond (ltb (place (names_of cs) k) (length cs)) (f (suc (place (names_of cs) k))) none
      → cond t (c.read a b) (by_kind cs k a b) ≡ cond (ltb (cond t 0 (suc (place (names_of cs) k))) (suc (length cs))) (f (cond t 0 (suc (place (names_of cs) k)))) none
  by_test true e = rw (lt-ltb 0 (suc (length cs)) (omega arith)) (sym h.0)
  by_test false e = rw (ltb_suc (place (names_of cs) k) (length cs)) e

-- SHAPES

shape_unit : (l : List ℕ) → some (shape_of 0) ⊛ list_words 0 l ≡ unused l (some unit)
unfolding shape_of unused ◌⊛◌
shape_unit l = rw (list_unused l) (by_test (is "-" l)) where
  by_test : (b : Bool) → some (shape_of 0) ⊛ cond b (some []) none ≡ cond b (some unit) none
  by_test true = refl
  by_test false = refl

shape_named : (l : List ℕ) → some (shape_of 1) ⊛ list_words 2 l ≡ some named ⊛ list field l
unfolding shape_of ◌⊛◌
shape_named l = by_words (list_words 2 l) ∙ rw (list_fields l) where
  by_words : (w : Option (List ℕ)) → some (shape_of 1) ⊛ w ≡ some named ⊛ (some fields_in ⊛ w)
  by_words none = refl
  by_words (some w) = refl

shape_tuple : (l : List ℕ) → some (shape_of 2) ⊛ list_words 1 l ≡ some tuple ⊛ list number l
unfolding shape_of ◌⊛◌
shape_tuple l = rw (list_numbers l) (by_words (list number l)) where
  by_words : (w : Option (List ℕ)) → some (shape_of 2) ⊛ w ≡ some tuple ⊛ w
  by_words none = refl
  by_words (some w) = refl

shape_law : (k l : List ℕ) → by_kind shapes k l [] ≡ cond (ltb (place shape_kinds k) 3) (some (shape_of (place shape_kinds k)) ⊛ list_words (get_or shape_lists (place shape_kinds k) 0) l) none
unfolding shape_kinds split
shape_law k l = by_place shapes (λ j. some (shape_of j) ⊛ list_words (get_or shape_lists j 0) l) k l [] (shape_unit l, (shape_named l, (shape_tuple l, tt)))

-- VARIANTS

variant_cells : (a b : Option ℕ) (k : ℕ) (w : Option (List ℕ))
    → some variant_of ⊛ (word a ⧺ word b ⧺ word (kind_word 3 k) ⧺ w)
    ≡ some (λ t n f. record { ty = t; name = n; fields = f }) ⊛ a ⊛ b ⊛ cond (ltb k 3) (some (shape_of k) ⊛ w) none
unfolding variant_of kind_word word ◌⧺◌ ◌⊛◌
variant_cells none b k w = refl
variant_cells (some a) none k w = refl
variant_cells (some a) (some b) k w = by_test (ltb k 3) w where
  by_test : (t : Bool) (w : Option (List ℕ)) → some variant_of ⊛ (some (a ∷ []) ⧺ some (b ∷ []) ⧺ word (cond t (some k) none) ⧺ w)
      ≡ some (λ t n f. record { ty = t; name = n; fields = f }) ⊛ some a ⊛ some b ⊛ cond t (some (shape_of k) ⊛ w) none
  by_test true none = refl
  by_test true (some w) = refl
  by_test false w = refl

pub variant_law : (line : List ℕ) → some variant_of ⊛ variant_words line ≡ variant_row line
unfolding variant_words variant_row cell
variant_law line = row_law 4 _ _ variant_of (λ vs.
    variant_cells (number (at vs 0)) (number (at vs 1)) (place shape_kinds (at vs 2)) (list_words (get_or shape_lists (place shape_kinds (at vs 2)) 0) (at vs 3))
    ∙ ap (λ (f : Option Fields). some (λ t n f. record { ty = t; name = n; fields = f }) ⊛ number (at vs 0) ⊛ number (at vs 1) ⊛ f) (sym (shape_law (at vs 2) (at vs 3)))) line

-- TERMS

term_cells : (a b c : Option ℕ) (m o : Option Bool) (k x : Option FunctionKind) (i : Option Bool) (w : Option (List ℕ))
    → some term_of ⊛ (word a ⧺ word b ⧺ word c ⧺ word (some flag ⊛ m) ⧺ word (some flag ⊛ o) ⧺ word (some function_word ⊛ k) ⧺ word (some function_word ⊛ x) ⧺ word (some flag ⊛ i) ⧺ w)
    ≡ some (λ n p r m o c x i ts. record { name = n; pos = p; ret_ty = r; multi = m; partial = o; ctor = c; xtor = x; infallible = i; arg_tys = ts })
    ⊛ a ⊛ b ⊛ c ⊛ m ⊛ o ⊛ k ⊛ x ⊛ i ⊛ w
unfolding term_of word ◌⧺◌ ◌⊛◌
term_cells none b c m o k x i w = refl
term_cells (some a) none c m o k x i w = refl
term_cells (some a) (some b) none m o k x i w = refl
term_cells (some a) (some b) (some c) none o k x i w = refl
term_cells (some a) (some b) (some c) (some m) none k x i w = refl
term_cells (some a) (some b) (some c) (some m) (some o) none x i w = refl
term_cells (some a) (some b) (some c) (some m) (some o) (some k) none i w = refl
term_cells (some a) (some b) (some c) (some m) (some o) (some k) (some x) none w = refl
term_cells (some a) (some b) (some c) (some m) (some o) (some k) (some x) (some i) none = refl
term_cells (some a) (some b) (some c) (some m) (some o) (some k) (some x) (some i) (some w) =
    rw (flagged_flag m, flagged_flag o, flagged_flag i, function_law k, function_law x)

pub term_law : (line : List ℕ) → some term_of ⊛ term_words line ≡ term_row line
unfolding term_words term_row cell
term_law line = row_law 9 _ _ term_of (λ vs. rw (list_numbers (at vs 8))
    (term_cells (number (at vs 0)) (number (at vs 1)) (number (at vs 2)) (bit (at vs 3)) (bit (at vs 4)) (function_kind (at vs 5)) (function_kind (at vs 6)) (bit (at vs 7)) (list number (at vs 8)))) line

-- TYPES

-- what an enum and a struct have in common, from its values
abbrev from_values : Option ℕ → Option Bool → Option Bool → Option ℕ → Option Declared
from_values a x y p = some (λ n e d p. record { name = n; is_extern = e; is_nodebug = d; pos = p }) ⊛ a ⊛ x ⊛ y ⊛ p

-- the words of a type of kind k
abbrev typed : ℕ → Option ℕ → Option ℕ → Option ℕ → Option ℕ → Option (List ℕ) → Option (List ℕ)
typed k a x y p w = some (k ∷ []) ⧺ word a ⧺ word x ⧺ word y ⧺ word p ⧺ w

prim_cells : (a : Option ℕ) (x y p l : Bool)
    → some type_of ⊛ typed 0 a (cond x (some 0) none) (cond y (some 0) none) (cond p (some 0) none) (cond l (some []) none)
    ≡ cond x (cond y (cond p (cond l (some Primitive ⊛ a) none) none) none) none
unfolding type_of word ◌⧺◌ ◌⊛◌
prim_cells none true true true true = refl
prim_cells none true true true false = refl
prim_cells none true true false l = refl
prim_cells none true false p l = refl
prim_cells none false y p l = refl
prim_cells (some a) true true true true = refl
prim_cells (some a) true true true false = refl
prim_cells (some a) true true false l = refl
prim_cells (some a) true false p l = refl
prim_cells (some a) false y p l = refl

enum_cells : (a : Option ℕ) (x y : Option Bool) (p : Option ℕ) (l : Bool)
    → some type_of ⊛ typed 1 a (some flag ⊛ x) (some flag ⊛ y) p (cond l (some []) none) ≡ cond l (some Enum ⊛ from_values a x y p) none
unfolding type_of word ◌⧺◌ ◌⊛◌
enum_cells none x y p true = refl
enum_cells none x y p false = refl
enum_cells (some a) none y p true = refl
enum_cells (some a) none y p false = refl
enum_cells (some a) (some x) none p true = refl
enum_cells (some a) (some x) none p false = refl
enum_cells (some a) (some x) (some y) none true = refl
enum_cells (some a) (some x) (some y) none false = refl
enum_cells (some a) (some x) (some y) (some p) true = rw (flagged_flag x, flagged_flag y)
enum_cells (some a) (some x) (some y) (some p) false = refl

struct_cells : (k : ℕ) (a : Option ℕ) (x y : Option Bool) (p : Option ℕ) (w : Option (List ℕ)) → eqb k 0 ≡ false → eqb k 1 ≡ false
    → some type_of ⊛ typed k a (some flag ⊛ x) (some flag ⊛ y) p w ≡ some (λ d f. Struct d f) ⊛ from_values a x y p ⊛ (some (shape_of (k - 2)) ⊛ w)
unfolding type_of word ◌⧺◌ ◌⊛◌
struct_cells k none x y p w e f = refl
struct_cells k (some a) none y p w e f = refl
struct_cells k (some a) (some x) none p w e f = refl
struct_cells k (some a) (some x) (some y) none w e f = refl
struct_cells k (some a) (some x) (some y) (some p) none e f = refl
struct_cells k (some a) (some x) (some y) (some p) (some w) e f = rw (e, f, flagged_flag x, flagged_flag y)

-- the kind of a type, by the tests of its name
by_tests : (f : ℕ → Option TypeData) (A B : Option TypeData) (d : Option Declared) (u n t : Option Fields)
    → f 0 ≡ A → f 1 ≡ B → f 2 ≡ some (λ d f. Struct d f) ⊛ d ⊛ u → f 3 ≡ some (λ d f. Struct d f) ⊛ d ⊛ n → f 4 ≡ some (λ d f. Struct d f) ⊛ d ⊛ t → f 5 ≡ none
    → (t0 t1 t2 t3 t4 : Bool) → f (cond t0 0 (suc (cond t1 0 (suc (cond t2 0 (suc (cond t3 0 (suc (cond t4 0 (suc 0))))))))))
    ≡ cond t0 A (cond t1 B (some (λ d f. Struct d f) ⊛ d ⊛ cond t2 u (cond t3 n (cond t4 t none))))
unfolding ◌⊛◌
by_tests f A B d u n t a b c e g h true t1 t2 t3 t4 = a
by_tests f A B d u n t a b c e g h false true t2 t3 t4 = b
by_tests f A B d u n t a b c e g h false false true t3 t4 = c
by_tests f A B d u n t a b c e g h false false false true t4 = e
by_tests f A B d u n t a b c e g h false false false false true = g
by_tests f A B d u n t a b c e g h false false false false false = h ∙ no_fields d where
  no_fields : (d : Option Declared) → none ≡ some (λ d f. Struct d f) ⊛ d ⊛ none
  no_fields none = refl
  no_fields (some d) = refl

unfoldable type_values : (vs : List (List ℕ)) → (k : ℕ) → Option (List ℕ)
type_values vs k =
    word (kind_word 5 k) ⧺ word (cell 1 (at vs 1)) ⧺ word (cell (get_or type_bits k 0) (at vs 2)) ⧺ word (cell (get_or type_bits k 0) (at vs 3))
    ⧺ word (cell (get_or type_poss k 0) (at vs 4)) ⧺ list_words (get_or type_lists k 0) (at vs 5)

type_cells : (vs : List (List ℕ)) → some type_of ⊛ type_values vs (place type_kinds (at vs 0))
    ≡ cond (is "prim" (at vs 0)) (unused (at vs 2) (unused (at vs 3) (unused (at vs 4) (unused (at vs 5) (some Primitive ⊛ number (at vs 1))))))
    (cond (is "enum" (at vs 0)) (unused (at vs 5) (some Enum ⊛ declared vs))
    (some (λ d f. Struct d f) ⊛ declared vs ⊛ by_kind shapes (at vs 0) (at vs 5) []))
unfolding type_values type_kinds split place cell kind_word unused declared by_kind word ◌⊛◌ ◌⧺◌
type_cells vs =
    let a = number (at vs 1) in
    let x = bit (at vs 2) in
    let y = bit (at vs 3) in
    let p = number (at vs 4) in
    by_tests (λ k. some type_of ⊛ type_values vs k) _ _ (declared vs) (unused (at vs 5) (some unit)) (some named ⊛ list field (at vs 5)) (some tuple ⊛ list number (at vs 5))
    (rw (list_unused (at vs 5)) (prim_cells a (is "-" (at vs 2)) (is "-" (at vs 3)) (is "-" (at vs 4)) (is "-" (at vs 5))))
    (rw (list_unused (at vs 5)) (enum_cells a x y p (is "-" (at vs 5))))
    (struct_cells 2 a x y p (list_words 0 (at vs 5)) refl refl ∙ ap (λ (f : Option Fields). some (λ d f. Struct d f) ⊛ from_values a x y p ⊛ f) (shape_unit (at vs 5)))
    (struct_cells 3 a x y p (list_words 2 (at vs 5)) refl refl ∙ ap (λ (f : Option Fields). some (λ d f. Struct d f) ⊛ from_values a x y p ⊛ f) (shape_named (at vs 5)))
    (struct_cells 4 a x y p (list_words 1 (at vs 5)) refl refl ∙ ap (λ (f : Option Fields). some (λ d f. Struct d f) ⊛ from_values a x y p ⊛ f) (shape_tuple (at vs 5)))
    refl
    (is "prim" (at vs 0)) (is "enum" (at vs 0)) (is "unit" (at vs 0)) (is "named" (at vs 0)) (is "tuple" (at vs 0))

pub type_law : (line : List ℕ) → some type_of ⊛ type_words line ≡ type_row line
unfolding type_words type_row type_values
type_law line = row_law 6 _ _ type_of type_cells line
