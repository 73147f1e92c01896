-- Taking closures off: the split text and its plan give the text without closures (document 01, "Taking closures off").
-- Assumes nothing: these are definitions.
use Rattle.std.specs.Prelude.{ℕ, zero, suc, ◌*◌, Bool, true, false, cond, ◌&&◌, List, [], ◌∷◌, ◌++◌, length, drop, replicate, ◌==◌, nat_le, nat_lt, slice_index}
use Rattle.std.proofs.Math.Option.{Option, some, none, map}
use Rattle.text.specs.Codes.{codes}
use Rattle.text.specs.Split.{starts_with}
use Rattle.plan.specs.Plan.{Options, Environment, Generated, Plan}
use Rattle.plan.specs.Row.{Match, Equal, Loop, Return, Row, step, arm, level}
use Rattle.plan.specs.Refusal.{Outcome, refused, accepted, outcome}
use Rattle.codegen.specs.Piece.{plain, breaks}
use Rattle.codegen.specs.Block.{words, overflow, What, line, edge, Part, arm_count, block_weight}
use Rattle.codegen.specs.Terms.{splits, term_parts}
use Rattle.codegen.specs.Items.{items}

-- SPLIT ARMS, FROM THE ROWS

-- a row's level, and how many arms it has: none, if it is no match
pub record Above : Type 0 where
  pub level : ℕ
  pub arms : ℕ

-- the arms of the nearest earlier row of a lower level than l; the earlier rows from the nearest on
unfoldable pub arms_above : ℕ → List Above → ℕ
arms_above l [] = 0
arms_above l (a ∷ hs) = let more = arms_above l hs in cond (nat_lt a.level l) a.arms more

abbrev pub arms_of_row : Row → List Row → ℕ
arms_of_row (step l (Match q) bs) rs = arm_count l rs
arms_of_row (step l (Equal a b) bs) rs = 0
arms_of_row (step l (Loop r) bs) rs = 0
arms_of_row (step l (Return r p) bs) rs = 0
arms_of_row (arm l c bs) rs = 0

abbrev pub is_arm : Row → Bool
is_arm (step l c bs) = false
is_arm (arm l c bs) = true

-- the arm r splits: its match has two or more arms, and its weight splits
unfoldable pub splits_arm : (ℕ → Bool) → List Above → Row → List Row → Bool
splits_arm splits above r rs = is_arm r && (nat_le 2 (arms_above (level r) above) && splits (block_weight (level r) rs))

-- of the levels of split arms, those that a row of level l is below: "The rows below an arm are those after it, up to the next
-- row of its level or a lower one"
unfoldable pub lower : ℕ → List ℕ → List ℕ
lower l [] = []
lower l (m ∷ ms) = let more = lower l ms in cond (nat_lt m l) (m ∷ more) more

-- for each row, how many split arms it is below
unfoldable pub belows : (ℕ → Bool) → List Above → List ℕ → List Row → List ℕ
belows splits above ms [] = []
belows splits above ms (r ∷ rs) =
    let around = lower (level r) ms in
    length around ∷ belows splits (record { level = level r; arms = arms_of_row r rs } ∷ above) (cond (splits_arm splits above r rs) (level r ∷ around) around) rs

-- WHOSE A LINE IS

pub data Tag : Type 0 where
  -- a closure's line
  closure : Tag
  -- another line, below so many split arms
  kept : ℕ → Tag
  -- an overflow line, below so many split arms
  overflowing : ℕ → Tag

abbrev pub line_tags : ℕ → What → List Tag
line_tags n (line (words ps)) = replicate (suc (breaks ps)) (kept n)
line_tags n (line overflow) = overflowing n ∷ []
line_tags n (edge g) = closure ∷ []

-- a line of no row is below no split arm
abbrev pub below_of : List ℕ → Option ℕ → ℕ
below_of ns none = 0
below_of ns (some i) = slice_index ns i

unfoldable pub part_tags : List ℕ → List Part → List Tag
part_tags ns [] = []
part_tags ns (p ∷ ps) = line_tags (below_of ns p.row) p.what ++ part_tags ns ps

unfoldable pub term_tags : Options → Environment → List Generated → List Tag
term_tags o e [] = []
term_tags o e (g ∷ gs) = part_tags (belows (splits o e g) [] [] g.rows) (term_parts o e g) ++ term_tags o e gs

unfoldable pub tags : Plan → List Tag
tags p = term_tags p.options p.env p.generated

-- LINE BY LINE

-- the bytes up to the first line feed, and those after it
unfoldable pub first_line : List ℕ → List ℕ
first_line [] = []
first_line (c ∷ s) = let more = c ∷ first_line s in cond (c == 10) [] more

unfoldable pub other_lines : List ℕ → List ℕ
other_lines [] = []
other_lines (c ∷ s) = let more = other_lines s in cond (c == 10) s more

-- "an overflow line that has `return true;` gets `return;` for it"
unfoldable pub plain_return : List ℕ → List ℕ
plain_return [] = []
plain_return (c ∷ s) =
    let more = c ∷ plain_return s in
    let turned = codes "return;" ++ drop 12 (c ∷ s) in
    cond (starts_with (codes "return true;") (c ∷ s)) turned more

-- a line without the n spaces at its front: none where it has fewer
unfoldable pub spaces_off : ℕ → List ℕ → Option (List ℕ)
spaces_off zero l = some l
spaces_off (suc n) [] = none
spaces_off (suc n) (c ∷ l) = let more = spaces_off n l in cond (c == 32) more none

-- "a closure's line is left out; any other loses four spaces at its front for each split arm that its row is below"
unfoldable pub edited : Tag → List ℕ → Option (List ℕ)
edited closure l = some []
edited (kept n) l = map (λ s. s ++ (10 ∷ [])) (spaces_off (4 * n) l)
edited (overflowing n) l = map (λ s. plain_return s ++ (10 ∷ [])) (spaces_off (4 * n) l)

-- a text before another, where there are both
abbrev pub joined : Option (List ℕ) → Option (List ℕ) → Option (List ℕ)
joined none t = none
joined (some s) t = map (λ r. s ++ r) t

-- What stands after the last tag's line stays. There is no text where a line has fewer spaces than it is to lose, or where no line feed
-- ends it.
unfoldable pub edit_lines : List Tag → List ℕ → Option (List ℕ)
edit_lines [] s = some s
edit_lines (t ∷ ts) s = let more = joined (edited t (first_line s)) (edit_lines ts (other_lines s)) in cond (plain s) none more

-- of the terms text, and of the whole text, whose lines before the terms have no row
unfoldable pub take_off_terms : Plan → List ℕ → Option (List ℕ)
take_off_terms p s = edit_lines (tags p) s

unfoldable pub take_off : Plan → List ℕ → Option (List ℕ)
take_off p s = edit_lines (replicate (breaks (items p)) (kept 0) ++ tags p) s

-- fed a text and its plan's bytes; a plan that is refused has no text
unfoldable pub take_off_by : (Plan → List ℕ → Option (List ℕ)) → Outcome → List ℕ → Option (List ℕ)
take_off_by edit (refused n) s = none
take_off_by edit (accepted p) s = edit p s

unfoldable pub closures_off : List ℕ → List ℕ → Option (List ℕ)
closures_off plan s = take_off_by take_off (outcome plan) s

unfoldable pub closures_off_terms : List ℕ → List ℕ → Option (List ℕ)
closures_off_terms plan s = take_off_by take_off_terms (outcome plan) s
