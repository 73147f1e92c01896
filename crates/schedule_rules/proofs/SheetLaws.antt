-- How long a sheet is: what a buffer for it must hold. Assumes nothing.
use Rattle.std.specs.Prelude.{ℕ, zero, suc, ◌+◌, ◌*◌, ◌/◌, ◌%◌, ◌^◌, ◌≤◌, ◌<◌, ◌≡◌, refl, Bool, true, false, cond, ◌&&◌, List, [], ◌∷◌, ◌++◌, ltb, length}
use Rattle.std.proofs.Common.{sym, ◌∙◌, arith, div-lt_iff_lt-mul, lt-ltb, length-append}
use Rattle.text.specs.Digits.{digit, digits, decimal}
use Rattle.plan.specs.Plan.{Environment, Generated, Plan}
use Rattle.plan.specs.Binding.{BindingRow}
use Rattle.plan.specs.Row.{Row}
use Rattle.splitting.specs.Cases.{false_true}
use Rattle.origin.specs.Names.{Names, at_row, past}
use Rattle.schedule_rules.specs.Faults.{Letters, row_faults, block_faults, no_names, table_faults}
use Rattle.schedule_rules.specs.Sheet.{fault_line, row_lines, table_lines, plan_lines, sheet}
use Rattle.schedule_rules.proofs.Laws.{never_a_and_c}

one_or : (b : Bool) (d : ℕ) (ds : List ℕ) (m : ℕ) → 1 ≤ m → (b ≡ false → length ds ≤ m) → length (cond b (d ∷ []) ds) ≤ m
one_or true d ds m h g = h
one_or false d ds m h g = g refl

-- a number below 10 ^ (j + 1) has at most j + 1 digits
digits_most : (j k n : ℕ) → n < 10 ^ suc j → length (digits 10 k n) ≤ suc j
unfolding digits
digits_most j zero n h = omega arith
digits_most zero (suc k) n h =
    let l : n < 10 = omega arith in
    one_or (ltb n 10) (digit n) (digits 10 k (n / 10) ++ (digit (n % 10) ∷ [])) 1 (omega arith) (λ q. false_true (sym q ∙ lt-ltb n 10 l))
digits_most (suc j) (suc k) n h =
    let z : 10 ^ suc (suc j) ≡ 10 ^ suc j * 10 = omega arith in
    let ten : zero < 10 = omega arith in
    let l : n / 10 < 10 ^ suc j = (div-lt_iff_lt-mul {k = 10} {x = n} {y = 10 ^ suc j} ten).1 (rw z at h) in
    let ih : length (digits 10 k (n / 10)) ≤ suc j = digits_most j k (n / 10) l in
    one_or (ltb n 10) (digit n) (digits 10 k (n / 10) ++ (digit (n % 10) ∷ [])) (suc (suc j)) (omega arith) (λ q. simp length-append (omega arith))

decimal_most : (j n : ℕ) → n < 10 ^ suc j → length (decimal n) ≤ suc j
unfolding decimal
decimal_most j n h = digits_most j (suc n) n h

-- "512 terms", "2,048 block rows": a line has at most 11 bytes
line_most : (term row letter : ℕ) → term < 512 → row < 2048 → length (fault_line term row letter) ≤ 11
unfolding fault_line
line_most term row letter h g =
    let d : length (decimal term) ≤ 3 = decimal_most 2 term (omega arith) in
    let e : length (decimal row) ≤ 4 = decimal_most 3 row (omega arith) in
    simp length-append (omega arith)

cond_most : (b : Bool) (xs : List ℕ) (m : ℕ) → length xs ≤ m → length (cond b xs []) ≤ m
cond_most true xs m h = h
cond_most false xs m h = omega arith

two : (x y z : List ℕ) → length x ≤ 11 → length y ≤ 11 → length z ≤ 0 → length (x ++ (y ++ z)) ≤ 22
two x y z h g f = simp length-append (omega arith)

rest : (y z : List ℕ) → length y ≤ 11 → length z ≤ 11 → length (y ++ z) ≤ 22
rest y z h g = simp length-append (omega arith)

-- a row has at most two lines
row_most : (term row : ℕ) (f : Letters) → term < 512 → row < 2048 → f.a && f.c ≡ false → length (row_lines term row f) ≤ 22
unfolding row_lines
row_most term row f h g x = go f.a f.b f.c x
  where
    la : length (fault_line term row 97) ≤ 11
    la = line_most term row 97 h g

    lb : length (fault_line term row 98) ≤ 11
    lb = line_most term row 98 h g

    lc : length (fault_line term row 99) ≤ 11
    lc = line_most term row 99 h g

    go : (a b c : Bool) → a && c ≡ false → length (cond a (fault_line term row 97) [] ++ (cond b (fault_line term row 98) [] ++ cond c (fault_line term row 99) [])) ≤ 22
    go true b true x = false_true (sym x)
    go true b false x = two (fault_line term row 97) (cond b (fault_line term row 98) []) [] la (cond_most b (fault_line term row 98) 11 lb) (omega arith)
    go false b c x = rest (cond b (fault_line term row 98) []) (cond c (fault_line term row 99) []) (cond_most b (fault_line term row 98) 11 lb) (cond_most c (fault_line term row 99) 11 lc)

table_most : (e : Environment) (bs : List BindingRow) (s : Names) (term row : ℕ) (rs : List Row) → term < 512 → row + length rs ≤ 2048 → length (table_lines term row (block_faults e bs s rs)) ≤ 22 * length rs
unfolding table_lines block_faults
table_most e bs s term row [] h g = omega arith
table_most e bs s term row (r ∷ rs) h g =
    let one : length (row_lines term row (row_faults e bs (at_row s r) r rs)) ≤ 22 = row_most term row (row_faults e bs (at_row s r) r rs) h (omega arith) (never_a_and_c e bs (at_row s r) r rs) in
    let more : length (table_lines term (suc row) (block_faults e bs (past s r rs) rs)) ≤ 22 * length rs = table_most e bs (past s r rs) term (suc row) rs h (omega arith) in
    simp length-append (omega arith)

-- the block rows of a plan
unfoldable pub all_rows : List Generated → ℕ
all_rows [] = 0
all_rows (g ∷ gs) = length g.rows + all_rows gs

-- each generated term has a row below 512 and at most 2,048 block rows
abbrev pub Within : List Generated → Type 0
Within [] = Unit
Within (g ∷ gs) = (g.term < 512) × (length g.rows ≤ 2048) × Within gs

plan_most : (e : Environment) (gs : List Generated) → Within gs → length (plan_lines e gs) ≤ 22 * all_rows gs
unfolding plan_lines all_rows table_faults
plan_most e [] w = omega arith
plan_most e (g ∷ gs) w =
    let r : 0 + length g.rows ≤ 2048 = omega (arith, w.1) in
    let one : length (table_lines g.term 0 (block_faults e g.bindings no_names g.rows)) ≤ 22 * length g.rows = table_most e g.bindings no_names g.term 0 g.rows w.0 r in
    let more : length (plan_lines e gs) ≤ 22 * all_rows gs = plan_most e gs w.2 in
    simp length-append (omega arith)

-- what a buffer for the sheet must hold at most
pub sheet_most : (p : Plan) → Within p.generated → length (sheet p) ≤ 15 + 22 * all_rows p.generated
unfolding sheet
sheet_most p w = let m : length (plan_lines p.env p.generated) ≤ 22 * all_rows p.generated = plan_most p.env p.generated w in simp length-append (omega arith)
