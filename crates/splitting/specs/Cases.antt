-- Proofs by cases on tests.
use Rattle.std.specs.Prelude.{ℕ, ◌<◌, ◌≤◌, ◌≡◌, refl, Bool, true, false, ◌&&◌, List, [], ◌∷◌, leb}
use Rattle.std.proofs.Math.Option.{some, none}
use Rattle.std.proofs.Common.{arith, leb-true, leb-false}

pub and_left : (a b : Bool) → a && b ≡ true → a ≡ true
and_left true b h = refl
and_left false b h = h

pub and_right : (a b : Bool) → a && b ≡ true → b ≡ true
and_right true b h = h
and_right false true h = refl
and_right false false h = h

pub and_both : {a b : Bool} → a ≡ true → b ≡ true → a && b ≡ true
and_both p q = rw (p, q)

pub by_bool : (P : Bool → Type 0) (b : Bool) → P true → P false → P b
by_bool P true x y = x
by_bool P false x y = y

-- each case with what the test says
pub by_leb : (P : Bool → Type 0) (l m : ℕ) → (l ≤ m → P true) → (m < l → P false) → P (leb l m)
by_leb P l m f g = go (leb l m) refl
  where
    go : (b : Bool) → leb l m ≡ b → P b
    go true q = f (leb-true l m q)
    go false q = g (leb-false l m q)

-- CASES THAT CANNOT BE

pub false_true : {A : Type 0} → false ≡ true → A
false_true h = absurd (let z : ◌≡◌ {A = ℕ} 0 1 = cc in omega arith)

pub none_some : {A B : Type 0} {x : A} → none ≡ some x → B
none_some h = absurd (let z : ◌≡◌ {A = ℕ} 0 1 = cc in omega arith)

pub empty_cons : {A B : Type 0} {x : A} {xs : List A} → [] ≡ x ∷ xs → B
empty_cons h = absurd (let z : ◌≡◌ {A = ℕ} 0 1 = cc in omega arith)

pub cons_empty : {A B : Type 0} {x : A} {xs : List A} → x ∷ xs ≡ [] → B
cons_empty h = absurd (let z : ◌≡◌ {A = ℕ} 0 1 = cc in omega arith)
