-- An accepted plan passes the checks 4 to 10. Assumes nothing.
use Rattle.std.specs.Prelude.{ℕ, ◌<◌, ◌≡◌, refl, Bool, true, false, cond, List, [], ◌∷◌, leb}
use Rattle.std.proofs.Math.Option.{Option, some, none}
use Rattle.std.proofs.Common.{arith, leb-true}
use Rattle.plan.specs.Plan.{Plan}
use Rattle.plan.specs.Row.{Row, step, arm, level}
use Rattle.plan.specs.Layout.{read}
use Rattle.plan.specs.Refusal.{every, row_most, within_most, all_exist, lengths_fit, sources_lower, returns_fit, matches_have_arms, loops_iterate, fits_length, bytes_allowed, Outcome, refused, accepted, judged, laid_out, outcome}
use Rattle.splitting.specs.Cases.{and_left, and_right}

-- what holds of each of a list
abbrev pub Each : {A : Type 0} → (A → Type 0) → List A → Type 0
Each P [] = Unit
Each P (x ∷ xs) = P x × Each P xs

-- THE CHECKS 4 TO 10 HOLD

pub record Passes (p : Plan) : Type 0 where
  pub most : within_most p ≡ true
  pub exist : all_exist p ≡ true
  pub lengths : lengths_fit p ≡ true
  pub lower : sources_lower p ≡ true
  pub returns : returns_fit p ≡ true
  pub arms : matches_have_arms p ≡ true
  pub loops : loops_iterate p ≡ true

accepted_by : {A : Type 0} {p : Plan} (b : Bool) (x : Outcome) (n : ℕ) → cond b x (refused n) ≡ accepted p → (b ≡ true → x ≡ accepted p → A) → A
accepted_by true x n h f = f refl h
accepted_by false x n h f = absurd (let z : ◌≡◌ {A = ℕ} 0 1 = cc in omega arith)

judged_passes : (q p : Plan) → judged q ≡ accepted p → Passes p
unfolding judged
judged_passes q p e =
    accepted_by (within_most q) _ 4 e (λ a e₁. accepted_by (all_exist q) _ 5 e₁ (λ b e₂. accepted_by (lengths_fit q) _ 6 e₂ (λ c e₃. accepted_by (sources_lower q) _ 7 e₃ (λ d e₄.
    accepted_by (returns_fit q) _ 8 e₄ (λ f e₅. accepted_by (matches_have_arms q) _ 9 e₅ (λ g e₆. accepted_by (loops_iterate q) _ 10 e₆ (λ h e₇.
    let s : q ≡ p = cc in let passes : Passes q = record { most = a; exist = b; lengths = c; lower = d; returns = f; arms = g; loops = h } in rw s at passes)))))))

laid_out_passes : (o : Option Plan) (p : Plan) → laid_out o ≡ accepted p → Passes p
laid_out_passes none p e = absurd (let z : ◌≡◌ {A = ℕ} 0 1 = cc in omega arith)
laid_out_passes (some q) p e = judged_passes q p e

pub accepted_passes : (s : List ℕ) (p : Plan) → outcome s ≡ accepted p → Passes p
unfolding outcome
accepted_passes s p e = accepted_by (fits_length s) _ 1 e (λ a e₁. accepted_by (bytes_allowed s) _ 2 e₁ (λ b e₂. laid_out_passes (read s) p e₂))

-- WHAT THEY SAY

pub every_each : {A : Type 0} (test : A → Bool) (P : A → Type 0) → ((x : A) → test x ≡ true → P x) → (xs : List A) → every test xs ≡ true → Each P xs
unfolding every
every_each test P f [] h = tt
every_each test P f (x ∷ xs) h = (f x (and_left (test x) (every test xs) h), every_each test P f xs (and_right (test x) (every test xs) h))

pub row_shallow : (r : Row) → row_most r ≡ true → level r < 64
unfolding level
row_shallow (step l c bs) h = omega (arith, leb-true l 63 (and_left (leb l 63) _ h))
row_shallow (arm l c bs) h = omega (arith, leb-true l 63 (and_left (leb l 63) _ h))
