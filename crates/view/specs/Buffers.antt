-- What the buffers of a `Plan` hold: the words of a row, the rows of a table, the environment, a generated term, the plan. Assumes nothing:
-- these are definitions.
use Rattle.std.specs.Prelude.{ℕ, ◌<◌, ◌≤◌, ◌⊎◌, ◌≡◌, true, List, map, length, get_or, Option, Some, None, MatchOption}
use Rattle.literal.specs.BuiltinType.{all}
use Rattle.literal.specs.declared.builtin_type.BuiltinType.TheVariants as builtin
use Rattle.plan.specs.Plan as plan
use Rattle.plan.specs.Binding.{BindingRow}
use Rattle.plan.specs.Lookup.{type_at}
use Rattle.plan.specs.Refusal.{type_exists}
use Rattle.rows.specs.View.{binding_of, type_of}
use Rattle.layout.specs.View.{cut}
use Rattle.view.specs.Tables.{table_rows, environment_in, plan_in}
use Rattle.view.specs.declared.buffers.Plan.{Plan}

-- the words of row r
abbrev pub words_of : Plan → ℕ → List ℕ
words_of p r = cut p.words.now p.rows.now r

-- the rows of table t
abbrev pub rows_of : Plan → ℕ → List (List ℕ)
rows_of p t = table_rows p.words.now p.rows.now p.tables.now t

-- the bindings of table t
abbrev pub bindings_in : Plan → ℕ → List BindingRow
bindings_in p t = map binding_of (rows_of p t)

-- the rows of the variants of type n, as they are indexed
abbrev pub variants_in : Plan → ℕ → List ℕ
variants_in p n = cut p.index.now p.index.now n

abbrev pub env_of : Plan → plan.Environment
env_of p = environment_in p.bytes.now p.words.now p.rows.now p.tables.now

abbrev pub plan_of : Plan → plan.Plan
plan_of p = plan_in p.bytes.now p.words.now p.rows.now p.tables.now

-- the type n is a builtin one, or there is none
abbrev pub Undeclared : plan.Environment → ℕ → Type 0
Undeclared e n = (n < length all) ⊎ (length e.types ≤ n)

-- the type n, by its row: a type that has none is a builtin one
abbrev pub type_by_row : Plan → ℕ → Option ℕ → plan.TypeData
type_by_row p n None = plan.Builtin (get_or all n builtin.Bool)
type_by_row p n (Some r) = type_of (words_of p r)

-- the type n has a row if the plan declares it, and is what that row says
abbrev pub IfDeclared : Plan → ℕ → Option ℕ → Type 0
IfDeclared p n row = MatchOption row (Undeclared (env_of p) n) (λ r. (type_exists (env_of p) n ≡ true) × (type_at (env_of p) n ≡ type_of (words_of p r)))
