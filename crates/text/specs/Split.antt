-- Cutting a list at its separators, and comparing texts. Assumes nothing: these are definitions.
use Rattle.std.specs.Prelude.{ℕ, Bool, true, false, cond, ◌&&◌, List, [], ◌∷◌, eqb}
use Rattle.std.proofs.Math.Option.{Option, some, none}

abbrev pub null : {A : Type 0} → List A → Bool
null [] = true
null (x ∷ xs) = false

-- x before the first part
abbrev pub push : {A : Type 0} → A → List (List A) → List (List A)
push x [] = (x ∷ []) ∷ []
push x (p ∷ ps) = (x ∷ p) ∷ ps

-- the parts between the separators: one part more than there are separators
unfoldable pub split : {A : Type 0} → (A → Bool) → List A → List (List A)
split sep [] = [] ∷ []
split sep (x ∷ xs) = let rest = split sep xs in cond (sep x) ([] ∷ rest) (push x rest)

-- the parts where each is ended by its separator: the last of `split` is empty, and no part
unfoldable pub ended : {A : Type 0} → List (List A) → Option (List (List A))
ended [] = none
ended (p ∷ []) = cond (null p) (some []) none
ended (p ∷ q ∷ ps) = before p (ended (q ∷ ps))
  where
    before : {A : Type 0} → List A → Option (List (List A)) → Option (List (List A))
    before p none = none
    before p (some ps) = some (p ∷ ps)

-- two texts are the same
unfoldable pub same : List ℕ → List ℕ → Bool
same [] [] = true
same [] (d ∷ t) = false
same (c ∷ s) [] = false
same (c ∷ s) (d ∷ t) = eqb c d && same s t

-- a text begins with another
unfoldable pub starts_with : List ℕ → List ℕ → Bool
starts_with [] t = true
starts_with (c ∷ s) [] = false
starts_with (c ∷ s) (d ∷ t) = eqb c d && starts_with s t
