-- Document 01's checks as one list: "Checks run over the whole plan in number order; the lowest number is given, and none otherwise."
-- Assumes nothing.
use Rattle.std.specs.Prelude.{ℕ, zero, suc, ◌+◌, ◌<◌, ◌≡◌, Bool, cond, List, [], ◌∷◌, leb, length, get_or}
use Rattle.std.proofs.Math.Path.{refl}
use Rattle.std.proofs.Math.Bool.{true, false}
use Rattle.std.proofs.Math.Option.{Option, some, none}
use Rattle.std.proofs.Common.{arith, zero-add}
use Rattle.plan.specs.Plan.{Plan}
use Rattle.plan.specs.Layout.{read}
use Rattle.plan.specs.Refusal.{Outcome, refused, accepted, outcome, laid_out, judged, fits_length, bytes_allowed, within_most, all_exist, lengths_fit, sources_lower, returns_fit, matches_have_arms, loops_iterate}

-- 3: "table, row, level or value not as laid out" is where the bytes are read as no plan; then nothing is left to ask of it
abbrev pub is_read : Option Plan → Bool
is_read none = false
is_read (some p) = true

abbrev pub of_read : (Plan → Bool) → Option Plan → Bool
of_read test none = true
of_read test (some p) = test p

-- whether each check passes, in the order of their numbers (plan/specs/Refusal has their definitions): 3 to 11 of what the bytes are
-- read as, where 11 is about the text that is asked for
abbrev pub checks_from_3 : (Plan → List ℕ) → ℕ → Option Plan → List Bool
checks_from_3 form room p =
    is_read p
    ∷ of_read within_most p
    ∷ of_read all_exist p
    ∷ of_read lengths_fit p
    ∷ of_read sources_lower p
    ∷ of_read returns_fit p
    ∷ of_read matches_have_arms p
    ∷ of_read loops_iterate p
    ∷ of_read (λ p. leb (length (form p)) room) p
    ∷ []

-- 1 to 11, of a plan's bytes and a buffer of `room` bytes
unfoldable pub checks : (Plan → List ℕ) → List ℕ → ℕ → List Bool
checks form plan room = fits_length plan ∷ bytes_allowed plan ∷ checks_from_3 form room (read plan)

-- whether the check with a number passes
abbrev pub passes : List Bool → ℕ → Bool
passes cs zero = true
passes cs (suc n) = get_or cs n true

-- check n fails, and every earlier check passes
pub record FirstToFail (cs : List Bool) (n : ℕ) : Type 0 where
  pub fails : passes cs n ≡ false
  pub earlier : (m : ℕ) → m < n → passes cs m ≡ true

-- THE NUMBER OF AN OUTCOME

-- the number of the first that fails, where k checks stand before; 0 if none does
unfoldable pub first_failing : ℕ → List Bool → ℕ
first_failing k [] = 0
first_failing k (c ∷ cs) = let more = first_failing (suc k) cs in cond c more (suc k)

data Found (k : ℕ) (cs : List Bool) : ℕ → Type 0 where
  none_fails : ((i : ℕ) → get_or cs i true ≡ true) → Found k cs 0
  fails_at : (j : ℕ) → get_or cs j true ≡ false → ((i : ℕ) → i < j → get_or cs i true ≡ true) → Found k cs (suc (k + j))

found : (k : ℕ) (cs : List Bool) → Found k cs (first_failing k cs)
unfolding first_failing
found k [] = none_fails (λ i. refl)
found k (false ∷ cs) = let z : k + 0 ≡ k = omega arith in let f : Found k (false ∷ cs) (suc (k + 0)) = fails_at 0 refl (λ i h. absurd (omega arith)) in rw z at f
found k (true ∷ cs) = one_more (found (suc k) cs)
  where
    passing : ((i : ℕ) → get_or cs i true ≡ true) → (i : ℕ) → get_or (true ∷ cs) i true ≡ true
    passing h zero = refl
    passing h (suc i) = h i

    before : (j : ℕ) → ((i : ℕ) → i < j → get_or cs i true ≡ true) → (i : ℕ) → i < suc j → get_or (true ∷ cs) i true ≡ true
    before j h zero l = refl
    before j h (suc i) l = h i (omega arith)

    one_more : {n : ℕ} → Found (suc k) cs n → Found k (true ∷ cs) n
    one_more (none_fails h) = none_fails (passing h)
    one_more (fails_at j h g) =
        let z : suc k + j ≡ k + suc j = omega arith in
        let f : Found k (true ∷ cs) (suc (k + suc j)) = fails_at (suc j) h (before j g) in rw z f

pub all_pass : (cs : List Bool) → first_failing 0 cs ≡ 0 → (n : ℕ) → passes cs n ≡ true
all_pass cs e n = go (found 0 cs) e n
  where
    go : {m : ℕ} → Found 0 cs m → m ≡ 0 → (n : ℕ) → passes cs n ≡ true
    go (none_fails h) q zero = refl
    go (none_fails h) q (suc n) = h n
    go (fails_at j h g) q n = absurd (omega arith)

pub first_to_fail : (cs : List Bool) (n : ℕ) → first_failing 0 cs ≡ suc n → FirstToFail cs (suc n)
first_to_fail cs n e = go (found 0 cs) e
  where
    before : ((i : ℕ) → i < n → get_or cs i true ≡ true) → (m : ℕ) → m < suc n → passes cs m ≡ true
    before h zero l = refl
    before h (suc m) l = h m (omega arith)

    go : {m : ℕ} → Found 0 cs m → m ≡ suc n → FirstToFail cs (suc n)
    go (none_fails h) q = absurd (omega arith)
    go (fails_at j h g) q = let z : j ≡ n = omega (arith, zero-add j) in record { fails = rw z at h; earlier = before (rw z at g) }

-- the number that an outcome gives in a buffer of `room` bytes
unfoldable pub number_given : (Plan → List ℕ) → ℕ → Outcome → ℕ
number_given form room (refused n) = n
number_given form room (accepted p) = cond (leb (length (form p)) room) 0 11

module _ (form : Plan → List ℕ) (room : ℕ) where
  -- one more check before an outcome
  check : (b : Bool) (x : Outcome) (n : ℕ) {m : ℕ} → number_given form room x ≡ m → number_given form room (cond b x (refused n)) ≡ cond b m n
  unfolding number_given
  check true x n h = h
  check false x n h = refl

  pub first_check : (plan : List ℕ) → number_given form room (outcome plan) ≡ first_failing 0 (checks form plan room)
  unfolding outcome judged checks first_failing number_given
  first_check plan = check (fits_length plan) _ 1 (check (bytes_allowed plan) _ 2 (of (read plan)))
    where
      of : (o : Option Plan) → number_given form room (laid_out o) ≡ first_failing 2 (checks_from_3 form room o)
      of none = refl
      of (some p) =
          check (within_most p) _ 4 (check (all_exist p) _ 5 (check (lengths_fit p) _ 6 (check (sources_lower p) _ 7
          (check (returns_fit p) _ 8 (check (matches_have_arms p) _ 9 (check (loops_iterate p) _ 10 refl))))))
