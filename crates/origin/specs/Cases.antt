-- A worked case: the origins of a block table, by computation.
use Rattle.std.specs.Prelude.{◌≡◌, refl, true, false, [], ◌∷◌}
use Rattle.plan.specs.Plan.{absent, internal, Options, Environment, Generated}
use Rattle.plan.specs.Binding.{Argument, ConstInt, Constructor}
use Rattle.plan.specs.Constraint as constraint
use Rattle.plan.specs.Row.{Match, Equal, Return, step, arm, level}
use Rattle.codegen.specs.Pattern.{bind_all}
use Rattle.codegen.specs.Block.{arm_count}
use Rattle.codegen.specs.Terms.{ends_in_return}
use Rattle.origin.specs.Names.{listed, after_list, match_inside, arm_inside, inside, match_opens, arm_opens, opens, restore, keep, opened, at_row, past}
use Rattle.origin.specs.Origin.{of_binding, of_arm, of_name, of_return, of_declared, flat, written_sources, reached, expr_origins, list_origins, match_origins, check_origins, arm_origins, row_origins, rows_origins, last_origins, origins}

-- one term with two parameters
abbrev environment : Environment
environment = record {
  files = [];
  syms = [];
  poss = [];
  types = [];
  variants = [];
  terms = record { name = 0; pos = 0; ret_ty = 0; multi = false; partial = false; ctor = internal; xtor = absent; infallible = false; arg_tys = 0 ∷ 0 ∷ [] } ∷ [];
}

abbrev options : Options
options = record { nopragmas = false; log = true; split = false; threshold = 0 }

-- Binding 1, 5, has a name in the first arm, from the list of row 2 on; in the second arm it has none.
abbrev table : Generated
table = record {
  term = 0;
  bindings =
      record { binding = Argument 0; sources = [] } ∷ record { binding = ConstInt 0 5; sources = [] } ∷ record { binding = ConstInt 0 7; sources = [] }
      ∷ record { binding = Constructor 0; sources = 1 ∷ 2 ∷ [] } ∷ [];
  rows =
      step 0 (Match 0) []
      ∷ arm 1 (constraint.ConstInt 0 1) []
      ∷ step 2 (Equal 3 1) (1 ∷ [])
      ∷ step 3 (Return 2 0) []
      ∷ arm 1 (constraint.ConstInt 0 2) []
      ∷ step 2 (Return 3 1) [] ∷ [];
}

-- the first arm; the list of row 2; the call of row 2, where binding 1 has a name; row 3; the second arm; row 5; the last line
pub worked_origins :
    origins options environment table ≡
    of_arm 1
    ∷ of_binding 1
    ∷ of_binding 2
    ∷ of_name ∷ of_return 3 ∷ of_binding 2
    ∷ of_arm 4
    ∷ of_name ∷ of_return 5 ∷ of_binding 1 ∷ of_binding 2
    ∷ of_name ∷ of_declared ∷ []
unfolding flat written_sources reached expr_origins list_origins match_origins check_origins arm_origins row_origins rows_origins last_origins origins listed after_list match_inside arm_inside inside match_opens arm_opens opens restore keep opened at_row past level bind_all arm_count ends_in_return
worked_origins = refl
