-- A test of every row, of every word of a list, of every generated term: by the first and the others. Assumes nothing.
use Prim.Native.Nat.{ℕ, zero, suc, ◌+◌, ◌-◌}
use mathlib.Core.Path.{◌≡◌, refl, ap}
use mathlib.Core.Bool.{Bool, true, false, ◌&&◌}
use mathlib.Core.List.{List, [], ◌∷◌, ◌++◌, map}
use lib.ListN.{get_or}
use Rattle.std.specs.List.{list_all, range_with_len}
use Rattle.plan.specs.Refusal.{every}
use Rattle.layout.specs.View.{cut, cuts}
use Rattle.view.specs.Tables.{table_rows}

pub every_map : {A B : Type 0} (P : B → Bool) (f : A → B) (xs : List A) → every P (map f xs) ≡ every (λ x. P (f x)) xs
unfolding every
every_map P f [] = refl
every_map P f (x ∷ xs) = ap (λ (b : Bool). P (f x) && b) (every_map P f xs)

pub every_same : {A : Type 0} (P Q : A → Bool) → ((x : A) → P x ≡ Q x) → (xs : List A) → every P xs ≡ every Q xs
unfolding every
every_same P Q h [] = refl
every_same P Q h (x ∷ xs) = rw (h x, every_same P Q h xs)

pub every_append : {A : Type 0} (P : A → Bool) (xs ys : List A) → every P (xs ++ ys) ≡ (every P xs && every P ys)
unfolding every
every_append P [] ys = refl
every_append P (x ∷ xs) ys = rw (every_append P xs ys) (and_assoc (P x) (every P xs) (every P ys)) where
  and_assoc : (a b c : Bool) → (a && (b && c)) ≡ ((a && b) && c)
  and_assoc true b c = refl
  and_assoc false b c = refl

pub every_list : {A : Type 0} (P : A → Bool) (xs : List A) → list_all P xs ≡ every P xs
unfolding every
every_list P [] = refl
every_list P (x ∷ xs) = ap (λ (b : Bool). P x && b) (every_list P xs)

-- the same of the rows of a table, by their numbers
pub every_row : (P : List ℕ → Bool) (words rows : List ℕ) (i n : ℕ) → list_all (λ r. P (cut words rows r)) (range_with_len i n) ≡ every P (cuts words rows i n)
unfolding every cuts
every_row P words rows i zero = refl
every_row P words rows i (suc n) = ap (λ (b : Bool). P (cut words rows i) && b) (every_row P words rows (i + 1) n)

-- the rows of a table, from its first
pub rows_start : (words rows tables : List ℕ) (t i m : ℕ) → i ≡ get_or tables t 0 → m ≡ get_or tables (t + 1) 0 → cuts words rows i (m - i) ≡ table_rows words rows tables t
unfolding table_rows
rows_start words rows tables t i m p q = rw (p, q) refl
