-- Laws of the reader's answer. Assumes nothing.
use Prim.Native.Nat.{ℕ, ◌+◌, ◌*◌, ◌≤◌, ◌<◌}
use mathlib.Core.Path.{◌≡◌, refl, sym, ◌∙◌}
use mathlib.Core.Bool.{Bool, true, false, ◌&&◌}
use mathlib.Core.List.{List, [], ◌∷◌}
use mathlib.Core.Option.{Option, some, none}
use native.Mathlib.Omega.{arith}
use native.Mathlib.Numerals.{add-one}
use lib.Dec.{eqb}
use lib.ListN.{length, take, drop, set, get_or, drop_of_length-le}
use lib.Seq.{drop-cons}
use borrow.Author.Tests.{le-leb, lt-leb}
use Rattle.text.specs.Split.{split}
use Rattle.plan.specs.Layout.{◌⊛◌, only, read}
use Rattle.plan.specs.Refusal.{every, allowed, fits_length, bytes_allowed, refused, accepted}
use Rattle.layout.specs.Scan.{Tables, scan, shaped, laid_tables, sort_at, Done, Fill}
use Rattle.std.specs.Prelude.{Some, None, Ok, Err}
use Rattle.refusal.specs.declared.Refusal.{Refusal}
use Rattle.refusal.specs.Number as refusal
use Rattle.layout.specs.View.{tables_of, plan_of_tables, plan_held, Indexed}
use Rattle.layout.proofs.Cuts.{tables_are, indexed}
use Rattle.layout.proofs.Read.{read_law}
use Rattle.reader.specs.Reading.{of_layout, reading, Says}

-- bytes

-- a text of which a first part was looked at
pub every_end : (s : List ℕ) (good : Bool) (i : ℕ) → length s ≤ i → (good && every allowed (drop i s)) ≡ good
unfolding every
every_end s true i h = rw (drop_of_length-le s h)
every_end s false i h = refl

pub every_next : (s : List ℕ) (good : Bool) (i : ℕ) → i < length s → (good && allowed (get_or s i 0) && every allowed (drop (i + 1) s)) ≡ (good && every allowed (drop i s))
unfolding every
every_next s true i h = rw (drop-cons s i 0 h, add-one)
every_next s false i h = refl

-- the refusals

pub reading_long : (s : List ℕ) → 65536 < length s → reading s ≡ refused 1
unfolding reading fits_length
reading_long s h = rw (lt-leb (length s) 65536 h)

module _ (s : List ℕ) (short : length s ≤ 65536) where
  pub reading_byte : bytes_allowed s ≡ false → reading s ≡ refused 2
  unfolding reading fits_length
  reading_byte e = rw (le-leb (length s) 65536 short, e)

  module _ (plain : bytes_allowed s ≡ true) where
    reading_laid : reading s ≡ of_layout (read s)
    unfolding reading fits_length
    reading_laid = rw (le-leb (length s) 65536 short, plain)

    not_shaped : (ts : Tables) → scan 0 false 0 (split (eqb 10) s) ≡ some ts → shaped 0 ts ≡ false → reading s ≡ refused 3
    unfolding laid_tables only ◌⊛◌
    not_shaped ts e h = let q : read s ≡ none = sym (read_law s) ∙ rw (e, h) in reading_laid ∙ rw q

    is_shaped : (ts : Tables) → scan 0 false 0 (split (eqb 10) s) ≡ some ts → shaped 0 ts ≡ true → reading s ≡ accepted (plan_of_tables s ts)
    unfolding laid_tables only ◌⊛◌
    is_shaped ts e h = let q : read s ≡ some (plan_of_tables s ts) = sym (read_law s) ∙ rw (e, h) in reading_laid ∙ rw q

    module _ (words₀ rows₀ tables₀ o x m : List ℕ) where
      -- the lines are not those of tables
      pub says_bad : Fill words₀ 0 rows₀ 0 tables₀ 0 (scan 0 false 0 (split (eqb 10) s)) None o x m → reading s ≡ refused 3
      unfolding laid_tables only ◌⊛◌ Fill
      says_bad f = by_scan (scan 0 false 0 (split (eqb 10) s)) refl f where
        by_scan : (p : Option Tables) → scan 0 false 0 (split (eqb 10) s) ≡ p → Fill words₀ 0 rows₀ 0 tables₀ 0 p None o x m → reading s ≡ refused 3
        by_scan none e f = let q : read s ≡ none = sym (read_law s) ∙ rw e in reading_laid ∙ rw q
        by_scan (some ts) e f = absurd f

      module _ (k n j : ℕ) (f : Fill words₀ 0 rows₀ 0 tables₀ 0 (scan 0 false 0 (split (eqb 10) s)) (Some (record { words = k; rows = n; tables = j })) o x m)
          (first_row : take 1 rows₀ ≡ 0 ∷ []) (first_table : take 1 tables₀ ≡ 0 ∷ []) where
        filled : (P : Type 0) → ((ts : Tables) → scan 0 false 0 (split (eqb 10) s) ≡ some ts → Done words₀ 0 rows₀ 0 tables₀ 0 ts k n j o x m → P) → P
        unfolding Fill
        filled P g = by_scan (scan 0 false 0 (split (eqb 10) s)) refl f where
          by_scan : (p : Option Tables) → scan 0 false 0 (split (eqb 10) s) ≡ p → Fill words₀ 0 rows₀ 0 tables₀ 0 p (Some (record { words = k; rows = n; tables = j })) o x m → P
          by_scan none e f = absurd f
          by_scan (some ts) e f = g ts e f

        pub says_index : Indexed m n j
        says_index = filled (Indexed m n j) (λ ts e d. indexed d first_table)

        pub says_not : shaped 0 (tables_of o x m n j) ≡ false → reading s ≡ refused 3
        says_not h = filled (reading s ≡ refused 3) (λ ts e d. not_shaped ts e (rw (tables_are d first_row first_table) at h))

        pub says_read : shaped 0 (tables_of o x m n j) ≡ true → reading s ≡ accepted (plan_held s o x m n j)
        unfolding plan_held
        says_read h = filled (reading s ≡ accepted (plan_of_tables s (tables_of o x m n j))) (λ ts e d. rw (tables_are d first_row first_table) (is_shaped ts e (rw (tables_are d first_row first_table) at h)))

pub says_refused : (s words rows tables : List ℕ) (r : Refusal) → reading s ≡ refused (refusal.number r) → Says (reading s) s (Err r) words rows tables
unfolding Says
says_refused s words rows tables r e = rw e refl

pub says_held : (s words rows tables : List ℕ) (n j : ℕ) → reading s ≡ accepted (plan_held s words rows tables n j) → Indexed tables n j → sort_at j ≡ 7 → 2 * n ≤ length s → 4 * j ≤ length s → j < length tables
    → Says (reading s) s (Ok (record { rows = n; tables = j })) words rows tables
unfolding Says
says_held s words rows tables n j e i w h g l = rw e (record { is = refl; index = i; whole = w; few_rows = h; few_tables = g; held = l })

pub first_zero : (l : List ℕ) → 0 < length l → take 1 (set l 0 0) ≡ 0 ∷ []
first_zero [] h = absurd (omega arith)
first_zero (x ∷ l) h = refl
