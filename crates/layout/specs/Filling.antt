-- How the reader's buffers are filled, a row and a table at a time. Assumes nothing: these are definitions.
use Rattle.std.specs.Prelude.{Some, None, ℕ, ◌+◌, ◌*◌, ◌≤◌, ◌<◌, ◌≡◌, false, List, ◌++◌, eqb, length, take, drop, set}
use Rattle.std.proofs.Math.Option.{Option, some, none}
use Rattle.std.specs.declared.option.Option as rust
use Rattle.text.specs.Split.{split}
use Rattle.layout.specs.Scan.{Tables, scan, Fill}
use Rattle.layout.specs.declared.Filled.{Filled}
use Rattle.layout.specs.declared.Buffers.{Buffers}

-- the same buffers, of the same lengths
abbrev pub SameBuffers : Buffers → Buffers → Type 0
SameBuffers b b' = (b'.words.ghost_name ≡ b.words.ghost_name) × (b'.rows.ghost_name ≡ b.rows.ghost_name) × (b'.tables.ghost_name ≡ b.tables.ghost_name)
    × (length b'.words.now ≡ length b.words.now) × (length b'.rows.now ≡ length b.rows.now) × (length b'.tables.now ≡ length b.tables.now)

-- the words of `new` up to m are those of `old` up to k and a row's words
unfoldable pub Written : List ℕ → ℕ → Option (List ℕ) → ℕ → List ℕ → Type 0
Written old k none m new = ⊥
Written old k (some ws) m new = (m ≡ k + length ws) × (take m new ≡ take k old ++ ws)

-- a row of so many bytes is behind those that were there
pub record PutRow (b b' : Buffers) (row : Option (List ℕ)) (bytes : ℕ) : Type 0 where
  pub words : Written b.words.now b.filled.words row b'.filled.words b'.words.now
  pub few : b'.filled.words ≤ b.filled.words + (bytes + 1)
  pub row_end : b'.filled.rows ≡ b.filled.rows + 1
  pub has_row : b'.rows.now ≡ set b.rows.now (b.filled.rows + 1) b'.filled.words
  pub table_end : b'.filled.tables ≡ b.filled.tables
  pub has_tables : b'.tables.now ≡ b.tables.now

-- it is there, or the line has no such words
abbrev pub Put : Buffers → Buffers → Option (List ℕ) → ℕ → rust.Option Unit → Type 0
Put b b' row bytes None = row ≡ none
Put b b' row bytes (Some u) = PutRow b b' row bytes

-- a table ends behind the rows that are there
pub record Ended (b b' : Buffers) : Type 0 where
  pub words : b'.words.now ≡ b.words.now
  pub word_end : b'.filled.words ≡ b.filled.words
  pub rows : b'.rows.now ≡ b.rows.now
  pub row_end : b'.filled.rows ≡ b.filled.rows
  pub table_end : b'.filled.tables ≡ b.filled.tables + 1
  pub has_table : b'.tables.now ≡ set b.tables.now (b.filled.tables + 1) b.filled.rows

-- the buffers have room for what stands from a place of the text on, where they hold what stands before it
pub record HasRoom (s : List ℕ) (at : ℕ) (b : Buffers) : Type 0 where
  pub few : length s ≤ 65536
  pub inside : at ≤ length s
  pub words : b.filled.words ≤ at
  pub rows : 2 * b.filled.rows ≤ at
  pub tables : 4 * b.filled.tables ≤ at
  pub word_room : length s ≤ length b.words.now
  pub row_room : length s + 2 ≤ 2 * length b.rows.now
  pub table_room : length s + 4 ≤ 4 * length b.tables.now

-- what fills b' with the tables p' fills b with the tables p
abbrev pub Leads : Buffers → Option Tables → Buffers → Option Tables → Type 0
Leads b p b' p' = (r : rust.Option Filled) (o x m : List ℕ) → Fill b'.words.now b'.filled.words b'.rows.now b'.filled.rows b'.tables.now b'.filled.tables p' r o x m
    → Fill b.words.now b.filled.words b.rows.now b.filled.rows b.tables.now b.filled.tables p r o x m

-- the tables that are still to be read
abbrev pub rest : List ℕ → ℕ → Buffers → Option Tables
rest s at b = scan b.filled.tables false at (split (eqb 10) (drop at s))

-- a table is behind those that were there, or the text is not laid out as it should be
abbrev pub PutTable : List ℕ → ℕ → Buffers → Buffers → rust.Option ℕ → Type 0
PutTable s at b b' None = rest s at b ≡ none
PutTable s at b b' (Some next) = (at < next) × HasRoom s next b' × Leads b (rest s at b) b' (rest s next b')
