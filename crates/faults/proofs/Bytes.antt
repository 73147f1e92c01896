-- What is found is the same in each environment with the terms that the buffers hold: it is asked which calls return many, and nothing else.
-- So the sheet is the same whatever the plan's bytes are, and what a contract says in the plan's own environment holds in each with its terms
-- (`many_same`, and then the law of the definition that it cites). The generated terms of an accepted plan fit whatever its bytes are. Assumes
-- nothing.
use Rattle.std.specs.Prelude.{ℕ, ◌≡◌, refl, Bool, List, [], ◌∷◌}
use Rattle.std.proofs.Math.Path.{fun_ext}
use Rattle.plan.specs.Plan.{Environment, Generated}
use Rattle.plan.specs.Binding.{BindingRow}
use Rattle.plan.specs.Row.{ControlFlow, Match, Equal, Loop, Return, Row, step, arm}
use Rattle.codegen.specs.Writer.{Marks, insert}
use Rattle.origin.specs.Names.{Names, at_row, past}
use Rattle.view.specs.Bytes.{plan_with, generated_any}
use Rattle.view.specs.Buffers.{env_of, plan_of}
use Rattle.view.specs.declared.buffers.Plan.{Plan}
use Rattle.view.proofs.Plans.{environment_is, term_is}
use Rattle.schedule_rules.specs.Faults.{returns_many, calls_below, calls, list_calls, check_calls, row_faults, block_faults, table_faults}
use Rattle.schedule_rules.specs.Passes.{Each, Passes}
use Rattle.schedule_rules.specs.Sheet.{plan_lines, sheet}
use Rattle.faults.specs.Held.{TermsHeld, many_held}
use Rattle.faults.specs.Kept.{asked_call, answer}
use Rattle.faults.specs.Ready.{member_calls}
use Rattle.faults.specs.Accepted.{TermFits, passes_fit}

pub many_same : {env : Environment} {p : Plan} → TermsHeld env p → returns_many env ≡ returns_many (env_of p)
many_same h = fun_ext (many_held h)

-- environments in which the same calls return many
module _ (d e : Environment) (same : returns_many d ≡ returns_many e) where
  pub below_same : (bs : List BindingRow) (bound : Marks) (k b : ℕ) → calls_below d bs bound k b ≡ calls_below e bs bound k b
  unfolding calls_below
  below_same bs bound k b = rw same refl

  pub calls_same : (bs : List BindingRow) (bound : Marks) (b : ℕ) → calls d bs bound b ≡ calls e bs bound b
  unfolding calls
  calls_same bs bound b = below_same bs bound _ b

  pub member_same : (bs : List BindingRow) (bound : Marks) (b : ℕ) → member_calls d bs bound b ≡ member_calls e bs bound b
  unfolding member_calls
  member_same bs bound b = let s : calls_below d bs bound b ≡ calls_below e bs bound b = fun_ext (below_same bs bound b) in rw s refl

  asked_same : (own : Bool) (bs : List BindingRow) (b : ℕ) → asked_call own d bs b ≡ asked_call own e bs b
  unfolding asked_call
  asked_same own bs b = rw same refl

  pub answer_same : (own : Bool) (bs : List BindingRow) (before bound : Marks) (b : ℕ) → answer own d bs before bound b ≡ answer own e bs before bound b
  unfolding answer
  answer_same own bs before bound b = let s : asked_call own d bs ≡ asked_call own e bs = fun_ext (asked_same own bs) in rw s refl

  pub list_same : (bs : List BindingRow) (bound : Marks) (xs : List ℕ) → list_calls d bs bound xs ≡ list_calls e bs bound xs
  unfolding list_calls
  list_same bs bound [] = refl
  list_same bs bound (b ∷ rest) = let s : calls_below d bs bound b ≡ calls_below e bs bound b = fun_ext (below_same bs bound b) in rw (s, list_same bs (insert bound b) rest) refl

  pub check_same : (bs : List BindingRow) (bound : Marks) (l : ℕ) (c : ControlFlow) (rs : List Row) → check_calls d bs bound l c rs ≡ check_calls e bs bound l c rs
  unfolding check_calls
  check_same bs bound l (Match q) rs = calls_same bs _ q
  check_same bs bound l (Equal a b) rs = rw (calls_same bs bound a, calls_same bs bound b) refl
  check_same bs bound l (Loop r) rs = refl
  check_same bs bound l (Return r p) rs = calls_same bs bound r

  pub row_same : (bs : List BindingRow) (bound : Marks) (r : Row) (rs : List Row) → row_faults d bs bound r rs ≡ row_faults e bs bound r rs
  unfolding row_faults
  row_same bs bound (step l k xs) rs = rw (list_same bs bound xs, check_same bs _ l k rs) refl
  row_same bs bound (arm l k xs) rs = refl

  pub block_same : (bs : List BindingRow) (s : Names) (rs : List Row) → block_faults d bs s rs ≡ block_faults e bs s rs
  unfolding block_faults
  block_same bs s [] = refl
  block_same bs s (r ∷ rs) = rw (row_same bs (at_row s r) r rs, block_same bs (past s r rs) rs) refl

  pub table_same : (g : Generated) → table_faults d g ≡ table_faults e g
  unfolding table_faults
  table_same g = block_same g.bindings _ g.rows

  pub lines_same : (gs : List Generated) → plan_lines d gs ≡ plan_lines e gs
  unfolding plan_lines
  lines_same [] = refl
  lines_same (g ∷ gs) = rw (table_same g, lines_same gs) refl

module _ (p : Plan) (bytes : List ℕ) where
  many_any : returns_many (plan_with bytes p).env ≡ returns_many (env_of p)
  many_any = rw (environment_is p.words.now p.rows.now p.tables.now bytes) (many_same {p = p} (record { term = term_is p.words.now p.rows.now p.tables.now bytes }))

  pub sheet_any : sheet (plan_with bytes p) ≡ sheet (plan_of p)
  unfolding sheet
  sheet_any = rw (generated_any p bytes, lines_same _ _ many_any (plan_of p).generated, environment_is p.words.now p.rows.now p.tables.now p.bytes.now) refl

  pub fits_any : Passes (plan_with bytes p) → Each TermFits (plan_of p).generated
  fits_any x = rw (generated_any p bytes) at (passes_fit (plan_with bytes p) x)
