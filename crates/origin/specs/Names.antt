-- Which bindings have names at each row of a block: `is_bound` of codegen.rs 87, without anything that is written.
-- Assumes nothing: these are definitions. NamesLaws.antt shows that they are the marks of the walk that writes the text.
use Rattle.std.specs.Prelude.{ℕ, cond, List, [], ◌∷◌, leb, eqb}
use Rattle.std.proofs.Math.Option.{Option, some, none}
use Rattle.plan.specs.Row.{Match, Equal, Loop, Return, Row, step, arm, level}
use Rattle.codegen.specs.Writer.{Marks, insert}
use Rattle.codegen.specs.Pattern.{bind_all}
use Rattle.codegen.specs.Block.{Purpose, one_arm, arms_of, arm_body, body, arm_count}

-- an open block: the level of the row that opened it, what it is for, the names that are there again at its end
pub record Scope : Type 0 where
  pub level : ℕ
  pub purpose : Purpose
  pub outside : Marks

-- the names after a row, and the open blocks
pub record Names : Type 0 where
  pub bound : Marks
  pub scopes : List Scope

-- codegen.rs 737: each binding of a step's list has a name from then on
unfoldable pub listed : List ℕ → Marks → Marks
listed [] m = m
listed (b ∷ bs) m = listed bs (insert m b)

unfoldable pub after_list : Row → Marks → Marks
after_list (step l k bs) m = listed bs m
after_list (arm l k bs) m = m

-- codegen.rs 742: a match of one arm names that arm's bindings before its source is written; another match names none
unfoldable pub match_inside : ℕ → List Row → Marks → Marks
match_inside n [] m = m
match_inside n (step l k bs ∷ rs) m = m
match_inside n (arm l k bs ∷ rs) m = cond (eqb n 1) (bind_all bs m) m

unfoldable pub arm_inside : Purpose → List (Option ℕ) → Marks → Marks
arm_inside one_arm bs m = m
arm_inside (arms_of q) bs m = bind_all bs m
arm_inside arm_body bs m = m
arm_inside body bs m = m

-- the names inside the block that a row opens; m: those after its list, p: what the block around is for, rs: the rows after it
unfoldable pub inside : Purpose → Row → List Row → Marks → Marks
inside p (step l (Match q) bs) rs m = match_inside (arm_count l rs) rs m
inside p (step l (Equal a b) bs) rs m = m
inside p (step l (Loop r) bs) rs m = insert m r
inside p (step l (Return r x) bs) rs m = m
inside p (arm l k bs) rs m = arm_inside p bs m

unfoldable pub match_opens : ℕ → ℕ → List Row → Option Purpose
match_opens q n [] = none
match_opens q n (step l k bs ∷ rs) = none
match_opens q n (arm l k bs ∷ rs) = some (cond (eqb n 1) one_arm (arms_of q))

unfoldable pub arm_opens : Purpose → Option Purpose
arm_opens one_arm = none
arm_opens (arms_of q) = some arm_body
arm_opens arm_body = none
arm_opens body = none

-- the block that a row opens
unfoldable pub opens : Purpose → Row → List Row → Option Purpose
opens p (step l (Match q) bs) rs = match_opens q (arm_count l rs) rs
opens p (step l (Equal a b) bs) rs = some body
opens p (step l (Loop r) bs) rs = some body
opens p (step l (Return r x) bs) rs = none
opens p (arm l k bs) rs = arm_opens p

-- codegen.rs 138, `end_block`: a row of level l closes the blocks of rows of its level and deeper
unfoldable pub restore : ℕ → Marks → List Scope → Marks
restore l m [] = m
restore l m (s ∷ ss) = let more = restore l s.outside ss in cond (leb l s.level) more m

unfoldable pub keep : ℕ → List Scope → List Scope
keep l [] = []
keep l (s ∷ ss) = let more = keep l ss in cond (leb l s.level) more (s ∷ ss)

abbrev pub around : List Scope → Purpose
around [] = body
around (s ∷ ss) = s.purpose

unfoldable pub opened : Option Purpose → ℕ → Marks → List Scope → List Scope
opened none l m ss = ss
opened (some p) l m ss = record { level = l; purpose = p; outside = m } ∷ ss

-- the names at a row, before its list
unfoldable pub at_row : Names → Row → Marks
at_row s r = restore (level r) s.bound s.scopes

-- after row r, where the rows rs stand after it
unfoldable pub past : Names → Row → List Row → Names
past s r rs =
    let ss = keep (level r) s.scopes in
    let m = after_list r (at_row s r) in
    record { bound = inside (around ss) r rs m; scopes = opened (opens (around ss) r rs) (level r) m ss }
