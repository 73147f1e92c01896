-- What a reader of Req 01 expects of the faults and the sheet. Assumes nothing.
use Rattle.std.specs.Prelude.{ℕ, zero, suc, ◌≡◌, refl, Bool, true, false, not, ◌&&◌, List, [], ◌∷◌, length, get_or}
use Rattle.std.proofs.Common.{ap}
use Rattle.plan.specs.Plan.{Environment, Plan}
use Rattle.plan.specs.Binding.{BindingRow}
use Rattle.plan.specs.Row.{ControlFlow, Match, Equal, Loop, Return, Row, step, arm}
use Rattle.plan.specs.Lookup.{binding_at}
use Rattle.codegen.specs.Writer.{Marks, contains}
use Rattle.codegen.specs.TakeOff.{is_arm}
use Rattle.splitting.specs.Cases.{false_true}
use Rattle.splitting.specs.Demand3.{DifferOnlyInSplitting}
use Rattle.origin.specs.Names.{Names, past}
use Rattle.schedule_rules.specs.Faults.{loop_unbound, match_uses_own, Letters, row_faults, block_faults, fault_free}
use Rattle.schedule_rules.specs.Sheet.{sheet}

-- OPTIONS

-- the sheet goes by the tables alone: by no option
pub sheet_by_tables : (p q : Plan) → p.env ≡ q.env → p.generated ≡ q.generated → sheet p ≡ sheet q
unfolding sheet
sheet_by_tables p q e g = rw (e, g)

pub faults_by_tables : (p q : Plan) → p.env ≡ q.env → p.generated ≡ q.generated → fault_free p ≡ fault_free q
unfolding fault_free
faults_by_tables p q e g = rw (e, g)

-- "faults are the same under every split and threshold"
pub split_faults_same : {p q : Plan} → DifferOnlyInSplitting p q → fault_free p ≡ fault_free q
split_faults_same {p} {q} d = faults_by_tables p q d.env d.generated

-- ROWS

abbrev no_letters : Letters
no_letters = record { a = false; b = false; c = false }

abbrev no_row : Row
no_row = step 0 (Return 0 0) []

-- an entry for each row
pub one_each : (e : Environment) (bs : List BindingRow) (s : Names) (rs : List Row) → length (block_faults e bs s rs) ≡ length rs
unfolding block_faults
one_each e bs s [] = refl
one_each e bs s (r ∷ rs) = ap suc (one_each e bs (past s r rs) rs)

arm_alone : (e : Environment) (bs : List BindingRow) (m : Marks) (r : Row) (rs : List Row) → is_arm r ≡ true → row_faults e bs m r rs ≡ no_letters
unfolding row_faults
arm_alone e bs m (step l k xs) rs h = false_true h
arm_alone e bs m (arm l k xs) rs h = refl

-- no fault stands on an arm's row
pub no_fault_on_arms : (e : Environment) (bs : List BindingRow) (s : Names) (rs : List Row) (i : ℕ) → is_arm (get_or rs i no_row) ≡ true → get_or (block_faults e bs s rs) i no_letters ≡ no_letters
unfolding block_faults
no_fault_on_arms e bs s [] i h = refl
no_fault_on_arms e bs s (r ∷ rs) zero h = arm_alone e bs _ r rs h
no_fault_on_arms e bs s (r ∷ rs) (suc i) h = no_fault_on_arms e bs (past s r rs) rs i h

-- (a) and (c) never meet on a row, so a row has at most two lines
and_false : (b : Bool) → b && false ≡ false
and_false true = refl
and_false false = refl

not_both : (bs : List BindingRow) (m : Marks) (l : ℕ) (k : ControlFlow) (rs : List Row) → loop_unbound bs m k && match_uses_own bs m l k rs ≡ false
unfolding loop_unbound match_uses_own
not_both bs m l (Match q) rs = refl
not_both bs m l (Equal a b) rs = refl
not_both bs m l (Loop r) rs = and_false (not (contains m (get_or (binding_at bs r).sources 0 0)))
not_both bs m l (Return r p) rs = refl

pub never_a_and_c : (e : Environment) (bs : List BindingRow) (m : Marks) (r : Row) (rs : List Row) → (row_faults e bs m r rs).a && (row_faults e bs m r rs).c ≡ false
unfolding row_faults
never_a_and_c e bs m (step l k xs) rs = not_both bs _ l k rs
never_a_and_c e bs m (arm l k xs) rs = refl
