-- What a test of rows, or of generated terms, computes. Assumes nothing: these are definitions.
use Rattle.std.specs.Prelude.{◌≡◌, ℕ, ◌+◌, ◌-◌, ◌*◌, Bool, not, ◌&&◌, ◌||◌, [], map, get_or}
use Rattle.plan.specs.Plan.{Generated}
use Rattle.plan.specs.Row.{level}
use Rattle.plan.specs.Refusal.{is_match, is_loop, is_return, has_below, ends_block}
use Rattle.rows.specs.View.{nth, binding_of, block_of}
use Rattle.layout.specs.View.{cuts}
use Rattle.view.specs.Buffers.{words_of, rows_of}
use Rattle.view.specs.declared.buffers.Plan.{Plan}
use Rattle.checks.specs.declared.tables.GeneratedTables.{GeneratedTables}

-- what a call may answer of a is P of what a stands for
abbrev pub Tests : {A X : Type 0} → (A → Bool → Type 0) → (A → X) → (X → Bool) → Type 0
Tests {A} answers stands_for P = (a : A) (b : Bool) → answers a b → b ≡ P (stands_for a)

-- the tables of generated term i: three each, after the 7 of the environment
abbrev pub tables_at : ℕ → GeneratedTables
tables_at i = record { term = 7 + 3 * i; bindings = 7 + 3 * i + 1; block = 7 + 3 * i + 2 }

-- the generated term that these tables hold
abbrev pub generated_of : Plan → GeneratedTables → Generated
generated_of p g = record {
  term = nth (get_or (rows_of p g.term) 0 []) 0;
  bindings = map binding_of (rows_of p g.bindings);
  rows = map block_of (rows_of p g.block);
}

-- row r of a block that ends before row m: a match has the next row below it
abbrev pub armed : Plan → ℕ → ℕ → Bool
armed p m r = not (is_match (block_of (words_of p r))) || has_below (level (block_of (words_of p r))) (map block_of (cuts p.words.now p.rows.now (r + 1) (m - (r + 1))))

-- it is no loop, and a return is the last step of its block
abbrev pub ended : Plan → ℕ → ℕ → Bool
ended p m r = not (is_loop (block_of (words_of p r)))
    && (not (is_return (block_of (words_of p r))) || ends_block (level (block_of (words_of p r))) (map block_of (cuts p.words.now p.rows.now (r + 1) (m - (r + 1)))))
