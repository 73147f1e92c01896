-- Taking closures off takes spaces, and nothing else; where a line has too few, there is no text.
use Rattle.std.specs.Prelude.{◌≡◌, ℕ, zero, suc, Bool, true, false, cond, List, [], ◌∷◌, ◌++◌, replicate, ◌==◌}
use Rattle.std.specs.Prelude.{refl}
use Rattle.std.proofs.Common.{ap₂, eqb-true}
use Rattle.std.proofs.Math.Option.{some, none, none-ne-some}
use Rattle.text.specs.Codes.{codes}
use Rattle.codegen.specs.TakeOff.{kept, first_line, other_lines, spaces_off, edited, edit_lines}

-- where something is left, the line is n spaces and then that
pub spaces_are_taken : (n : ℕ) (l s : List ℕ) → spaces_off n l ≡ some s → l ≡ replicate n 32 ++ s
unfolding spaces_off
spaces_are_taken zero l s h = cc
spaces_are_taken (suc n) [] s h = absurd (none-ne-some s h)
spaces_are_taken (suc n) (c ∷ l) s h = go (c == 32) refl h (spaces_are_taken n l s)
  where
    go : (b : Bool) → (c == 32) ≡ b → cond b (spaces_off n l) none ≡ some s → (spaces_off n l ≡ some s → l ≡ replicate n 32 ++ s) → c ∷ l ≡ replicate (suc n) 32 ++ s
    go true e k f = ap₂ (λ (x : ℕ) (xs : List ℕ). x ∷ xs) (eqb-true c 32 e) (f k)
    go false e k f = absurd (none-ne-some s k)

pub spaces_off_spaces : (n : ℕ) (s : List ℕ) → spaces_off n (replicate n 32 ++ s) ≡ some s
unfolding spaces_off
spaces_off_spaces zero s = refl
spaces_off_spaces (suc n) s = spaces_off_spaces n s

-- WHERE THERE IS NO TEXT

-- a tab is no space
pub tab_is_no_space : spaces_off 4 (9 ∷ codes "false") ≡ none
unfolding spaces_off
tab_is_no_space = refl

-- one line has three spaces where it is to lose four
pub line_lacks_space : edit_lines (kept 1 ∷ kept 0 ∷ []) (codes "   a\nb\n") ≡ none
unfolding edit_lines edited spaces_off first_line other_lines
line_lacks_space = refl

-- the last line has no end
pub line_not_ended : edit_lines (kept 0 ∷ kept 0 ∷ []) (codes "a\nb") ≡ none
unfolding edit_lines edited spaces_off first_line other_lines
line_not_ended = refl
