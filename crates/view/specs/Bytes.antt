-- What does not depend on a plan's bytes: the types, variants and terms that its tables say, how many texts there are, and its generated terms.
-- A clause that speaks of these of the plan that the buffers hold (`env_of`, `plan_of`) says it of each plan with the same tables. Assumes nothing.
use Rattle.std.specs.Prelude.{ℕ, ◌≡◌, refl, List, [], map, length, get_or}
use Rattle.std.proofs.Common.{sym, ◌∙◌}
use lib.ListN.{length-map}
use Rattle.plan.specs.Plan as plan
use Rattle.plan.specs.Plan.{Environment}
use Rattle.layout.specs.View.{text_of, environment_of, plan_of_tables}
use Rattle.view.specs.Buffers.{env_of, plan_of}
use Rattle.view.specs.Tables.{tables_in, environment_in, plan_in}
use Rattle.view.specs.declared.buffers.Plan.{Plan}

-- the environment and the plan of these bytes and of the buffers' tables
abbrev pub env_with : List ℕ → Plan → Environment
env_with bytes p = environment_in bytes p.words.now p.rows.now p.tables.now

abbrev pub plan_with : List ℕ → Plan → plan.Plan
plan_with bytes p = plan_in bytes p.words.now p.rows.now p.tables.now

-- environments that have the same types, variants and terms, and as many texts
pub record Alike (d e : Environment) : Type 0 where
  pub files : length d.files ≡ length e.files
  pub syms : length d.syms ≡ length e.syms
  pub poss : length d.poss ≡ length e.poss
  pub types : d.types ≡ e.types
  pub variants : d.variants ≡ e.variants
  pub terms : d.terms ≡ e.terms

module _ (p : Plan) (bytes : List ℕ) where
  pub env_alike : Alike (env_with bytes p) (env_of p)
  unfolding environment_in environment_of
  env_alike =
      let ts = tables_in p.words.now p.rows.now p.tables.now in
      let texts : (t : ℕ) → length (map (text_of bytes) (get_or ts t [])) ≡ length (map (text_of p.bytes.now) (get_or ts t [])) =
      λ t. length-map (get_or ts t []) (text_of bytes) ∙ sym (length-map (get_or ts t []) (text_of p.bytes.now)) in
      record { files = texts 1; syms = texts 2; poss = texts 3; types = refl; variants = refl; terms = refl }

  pub plan_alike : Alike (plan_with bytes p).env (plan_of p).env
  unfolding plan_in plan_of_tables environment_in
  plan_alike = env_alike

  pub generated_any : (plan_with bytes p).generated ≡ (plan_of p).generated
  unfolding plan_in plan_of_tables
  generated_any = refl
