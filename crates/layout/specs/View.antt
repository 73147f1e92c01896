-- The plan that the reader's buffers hold. Assumes nothing: these are definitions.
use Rattle.std.specs.Prelude.{ℕ, zero, suc, ◌+◌, ◌≤◌, ◌<◌, List, [], ◌∷◌, ◌++◌, map, get_or, drop}
use Rattle.std.proofs.Math.Seq.{slice}
use Rattle.literal.specs.BuiltinType.{all}
use Rattle.plan.specs.Plan.{Generated, Environment, Plan}
use Rattle.plan.specs.Layout.{builtins}
use Rattle.rows.specs.View.{nth, options_of, type_of, variant_of, term_of, binding_of, block_of}
use Rattle.layout.specs.Scan.{Tables}

-- the part i of a list that an index cuts: from the index's entry i up to the next
unfoldable pub cut : {A : Type 0} → List A → List ℕ → ℕ → List A
cut xs index i = slice (get_or index i 0) (get_or index (i + 1) 0) xs

-- n parts from the part i on
unfoldable pub cuts : {A : Type 0} → List A → List ℕ → ℕ → ℕ → List (List A)
cuts xs index i zero = []
cuts xs index i (suc n) = cut xs index i ∷ cuts xs index (i + 1) n

-- j tables of n rows: `rows` has where each row's words end, `tables` where each table's rows end, both after a 0
unfoldable pub tables_of : List ℕ → List ℕ → List ℕ → ℕ → ℕ → Tables
tables_of words rows tables n j = cuts (cuts words rows 0 n) tables 0 j

-- what is known of the index of tables: table t has the rows from its entry t up to the next one, which are rows
pub record Indexed (tables : List ℕ) (n j : ℕ) : Type 0 where
  pub ordered : (t : ℕ) → t < j → get_or tables t 0 ≤ get_or tables (t + 1) 0
  pub inside : (t : ℕ) → t < j → get_or tables (t + 1) 0 ≤ n

-- a text's words are its start and its end in the plan
unfoldable pub text_of : List ℕ → List ℕ → List ℕ
text_of plan ws = slice (nth ws 0) (nth ws 1) plan

unfoldable pub generated_of : Tables → List Generated
generated_of [] = []
generated_of (t ∷ []) = []
generated_of (t ∷ b ∷ []) = []
generated_of (t ∷ b ∷ r ∷ ts) = record { term = nth (get_or t 0 []) 0; bindings = map binding_of b; rows = map block_of r } ∷ generated_of ts

unfoldable pub environment_of : List ℕ → Tables → Environment
environment_of plan ts = record {
  files = map (text_of plan) (get_or ts 1 []);
  syms = map (text_of plan) (get_or ts 2 []);
  poss = map (text_of plan) (get_or ts 3 []);
  types = builtins all ++ map type_of (get_or ts 4 []);
  variants = map variant_of (get_or ts 5 []);
  terms = map term_of (get_or ts 6 []);
}

-- the plan of the words of its tables
unfoldable pub plan_of_tables : List ℕ → Tables → Plan
plan_of_tables plan ts = record { options = options_of (get_or (get_or ts 0 []) 0 []); env = environment_of plan ts; generated = generated_of (drop 7 ts) }

-- the plan that the buffers hold
unfoldable pub plan_held : List ℕ → List ℕ → List ℕ → List ℕ → ℕ → ℕ → Plan
plan_held plan words rows tables n j = plan_of_tables plan (tables_of words rows tables n j)
