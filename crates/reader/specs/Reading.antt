-- What the reader answers: the refusals 1 to 3, and the plan that the buffers hold. Assumes nothing: these are definitions.
use Rattle.std.specs.Prelude.{ℕ, ◌+◌, ◌*◌, ◌≤◌, ◌<◌, min, ◌≡◌, cond, List, length, take, Result, Ok, Err}
use Rattle.std.proofs.Math.Option.{Option, some, none}
use Rattle.plan.specs.Plan.{Plan}
use Rattle.plan.specs.Layout.{read}
use Rattle.plan.specs.Refusal.{fits_length, bytes_allowed, Outcome, refused, accepted}
use Rattle.layout.specs.Scan.{sort_at}
use Rattle.layout.specs.View.{plan_held, Indexed}
use Rattle.layout.specs.declared.Buffers.{Buffers}
use Rattle.view.specs.declared.buffers.Plan as view
use Rattle.refusal.specs.declared.Refusal.{Refusal}
use Rattle.refusal.specs.Number.{number}
use Rattle.reader.specs.declared.Held.{Held}

abbrev pub of_layout : Option Plan → Outcome
of_layout none = refused 3
of_layout (some p) = accepted p

-- the outcome as far as the refusals 1 to 3 go
unfoldable pub reading : List ℕ → Outcome
reading s = cond (fits_length s) (cond (bytes_allowed s) (of_layout (read s)) (refused 2)) (refused 1)

-- Lengths of buffers that are long enough for a plan of n bytes: a row has no more words than its line has bytes with the LF, and at least two bytes;
-- a table has four at least, its names line and the LF. `above` has an entry for each row, and two more.
abbrev pub Enough : ℕ → ℕ → ℕ → ℕ → ℕ → Type 0
Enough n words rows tables above = (min n 65536 ≤ words) × (min n 65536 + 2 ≤ 2 * rows) × (min n 65536 + 4 ≤ 4 * tables) × (min n 65536 + 4 ≤ 2 * above)

-- buffers that are long enough for a plan
abbrev pub Room : List ℕ → List ℕ → List ℕ → List ℕ → List ℕ → Type 0
Room s words rows tables above = Enough (length s) (length words) (length rows) (length tables) (length above)

-- the buffers hold the plan p: n rows in j tables
pub record Holding (p : Plan) (s words rows tables : List ℕ) (n j : ℕ) : Type 0 where
  pub is : plan_held s words rows tables n j ≡ p
  pub index : Indexed tables n j
  pub whole : sort_at j ≡ 7
  pub few_rows : 2 * n ≤ length s
  pub few_tables : 4 * j ≤ length s
  pub held : j < length tables

unfoldable pub Says : Outcome → List ℕ → Result Held Refusal → List ℕ → List ℕ → List ℕ → Type 0
Says (refused n) s (Err r) words rows tables = number r ≡ n
Says (refused n) s (Ok h) words rows tables = ⊥
Says (accepted p) s (Err r) words rows tables = ⊥
Says (accepted p) s (Ok h) words rows tables = Holding p s words rows tables h.rows h.tables

-- A refusal up to the number m leaves a buffer as it was. Nothing else is said here: after a later refusal all entries of the buffer are
-- free, and where a plan is held those past the ones that hold it: any numbers may stand there.
abbrev pub Keeps : ℕ → Result Held Refusal → List ℕ → List ℕ → Type 0
Keeps m (Err r) before after = number r ≤ m → after ≡ before
Keeps m (Ok h) before after = Unit {0}

abbrev pub KeepsBuffers : ℕ → Result Held Refusal → Buffers → Buffers → Type 0
KeepsBuffers m r b b' = Keeps m r b.words.now b'.words.now × Keeps m r b.rows.now b'.rows.now × Keeps m r b.tables.now b'.tables.now

-- the plan's buffers are these
abbrev pub Views : List ℕ → Buffers → view.Plan → Type 0
Views bytes b p = (p.bytes.now ≡ bytes) × (p.words.now ≡ b.words.now) × (p.rows.now ≡ b.rows.now) × (p.tables.now ≡ b.tables.now)

-- the same up to a number of tables
abbrev pub IsHeld : List ℕ → Buffers → ℕ → view.Plan → Type 0
IsHeld bytes b j p = (p.bytes.now ≡ bytes) × (p.words.now ≡ b.words.now) × (p.rows.now ≡ b.rows.now) × (p.tables.now ≡ take (j + 1) b.tables.now)
