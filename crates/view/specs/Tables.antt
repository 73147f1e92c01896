-- The tables that the reader's buffers hold, by their number. Assumes nothing: these are definitions.
use Rattle.std.specs.Prelude.{ℕ, zero, suc, ◌+◌, ◌-◌, List, [], ◌∷◌, map, length, get_or}
use Rattle.layout.specs.Scan.{Tables}
use Rattle.layout.specs.View.{cuts, environment_of, generated_of, plan_of_tables}
use Rattle.plan.specs.Plan.{Generated, Environment, Plan}
use Rattle.rows.specs.View.{nth, binding_of, block_of}

-- the rows of table t: `rows` has where each row's words end, `tables` where each table's rows end, both after a 0
unfoldable pub table_rows : List ℕ → List ℕ → List ℕ → ℕ → List (List ℕ)
table_rows words rows tables t = cuts words rows (get_or tables t 0) (get_or tables (t + 1) 0 - get_or tables t 0)

-- n tables from the table t on
unfoldable pub tables_from : List ℕ → List ℕ → List ℕ → ℕ → ℕ → Tables
tables_from words rows tables t zero = []
tables_from words rows tables t (suc n) = table_rows words rows tables t ∷ tables_from words rows tables (t + 1) n

-- all tables: there is one entry more than there are tables
unfoldable pub tables_in : List ℕ → List ℕ → List ℕ → Tables
tables_in words rows tables = tables_from words rows tables 0 (length tables - 1)

-- the environment and the plan of these tables
unfoldable pub environment_in : List ℕ → List ℕ → List ℕ → List ℕ → Environment
environment_in plan words rows tables = environment_of plan (tables_in words rows tables)

unfoldable pub plan_in : List ℕ → List ℕ → List ℕ → List ℕ → Plan
plan_in plan words rows tables = plan_of_tables plan (tables_in words rows tables)

-- the generated term whose tables are t, t + 1 and t + 2
unfoldable pub generated_at : List ℕ → List ℕ → List ℕ → ℕ → Generated
generated_at words rows tables t = record {
  term = nth (get_or (table_rows words rows tables t) 0 []) 0;
  bindings = map binding_of (table_rows words rows tables (t + 1));
  rows = map block_of (table_rows words rows tables (t + 2));
}

-- the generated terms whose tables stand from the table t on
unfoldable pub generated_from : List ℕ → List ℕ → List ℕ → ℕ → List Generated
generated_from words rows tables t = generated_of (tables_from words rows tables t (length tables - 1 - t))
