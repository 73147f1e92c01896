-- Texts filled into an array from its end, the last byte first, as digits are. Assumes nothing.
use Rattle.std.specs.Prelude.{ℕ, suc, ◌-◌, ◌≤◌, ◌≡◌, List, [], ◌∷◌, ◌++◌, length, drop, set}
use Rattle.std.proofs.Common.{append_assoc, arith, lt-length-set, drop-cons, get_or-set_same, drop-set-lt}

-- one byte, stored before those from `first` on
pub filled_one : (a : List ℕ) (first d x : ℕ) → x ≡ d → 1 ≤ first → first ≤ length a → drop (first - 1) (set a (first - 1) x) ≡ (d ∷ []) ++ drop first a
filled_one a first d x p h g =
    let z : suc (first - 1) ≡ first = omega arith in
    rw (drop-cons (set a (first - 1) x) (first - 1) 0 (lt-length-set a (first - 1) x (omega arith)), get_or-set_same a (first - 1) x 0 (omega arith), drop-set-lt (suc (first - 1)) a (first - 1) x (omega arith), z, p)

-- What is left of a text goes before what is filled in. A part that is filled in is left no more
pub filled_more : {whole left now' : List ℕ} (left' u now : List ℕ) → whole ≡ left ++ now → now' ≡ u ++ now → left ≡ left' ++ u → whole ≡ left' ++ now'
filled_more left' u now p q e = rw (p, e, q, append_assoc)
