-- Pieces one after the other: whether each literal and each quoted text among them has beside it what it must have, and what may come
-- next. Assumes nothing.
use Rattle.std.specs.Prelude.{ℕ, ◌≡◌, refl, Bool, true, false, cond, ◌&&◌, List, [], ◌∷◌, ◌++◌}
use Rattle.text.specs.Codes.{codes}
use Rattle.codegen.specs.Piece.{Piece, fix, file, sym, pos, type, quoted_sym, quoted_pos, num, var, new, lit, brace, unbrace, break}
use Rattle.codegen.specs.Writer.{Marks, contains, Writer, said, say, mark, ask, ◌▸◌}
use Rattle.splitting.specs.Cases.{and_left, and_right, false_true}
use Rattle.token_boundaries.specs.Boundary.{may_precede, may_follow, begins, ends}

-- a literal or a quoted text
abbrev pub is_token : Piece → Bool
is_token (lit t v) = true
is_token (quoted_sym n) = true
is_token (quoted_pos n) = true
is_token (fix t h) = false
is_token (file n) = false
is_token (sym n) = false
is_token (pos n) = false
is_token (type n) = false
is_token (num n) = false
is_token (var n) = false
is_token (new n) = false
is_token brace = false
is_token unbrace = false
is_token (break k) = false

-- it may stand before one, whatever the plan's own texts are
abbrev pub precedes : Piece → Bool
precedes (fix t h) = ends may_precede false (codes t)
precedes (break k) = true
precedes (lit t v) = false
precedes (quoted_sym n) = false
precedes (quoted_pos n) = false
precedes (file n) = false
precedes (sym n) = false
precedes (pos n) = false
precedes (type n) = false
precedes (num n) = false
precedes (var n) = false
precedes (new n) = false
precedes brace = false
precedes unbrace = false

-- it may stand after one
abbrev pub follows : Piece → Bool
follows (fix t h) = begins may_follow (codes t)
follows (break k) = true
follows brace = true
follows (lit t v) = false
follows (quoted_sym n) = false
follows (quoted_pos n) = false
follows (file n) = false
follows (sym n) = false
follows (pos n) = false
follows (type n) = false
follows (num n) = false
follows (var n) = false
follows (new n) = false
follows unbrace = false

-- what was written last: something that may stand before a token, something else, or a token; or something stood as it may not
pub data Last : Type 0 where
  separated : Last
  unseparated : Last
  token : Last
  wrong : Last

abbrev pub is_separated : Last → Bool
is_separated separated = true
is_separated unseparated = false
is_separated token = false
is_separated wrong = false

abbrev pub sound : Last → Bool
sound separated = true
sound unseparated = true
sound token = true
sound wrong = false

-- after a piece, by whether it is a token, may follow one, and may precede one
abbrev pub after : Last → Bool → Bool → Bool → Last
after separated true f b = token
after separated false f b = cond b separated unseparated
after unseparated true f b = wrong
after unseparated false f b = cond b separated unseparated
after token true f b = wrong
after token false true b = cond b separated unseparated
after token false false b = wrong
after wrong t f b = wrong

abbrev pub step : Last → Piece → Last
step s p = after s (is_token p) (follows p) (precedes p)

abbrev pub run : Last → List Piece → Last
run s [] = s
run s (p ∷ ps) = run (step s p) ps

pub run_append : (s : Last) (ps qs : List Piece) → run s (ps ++ qs) ≡ run (run s ps) qs
run_append s [] qs = refl
run_append s (p ∷ ps) qs = run_append (step s p) ps qs

-- WRITERS

-- where p holds of what was written before it, q holds of what was written last after it
pub record Leads (p : Last → Bool) (w : Writer) (q : Last → Bool) : Type 0 where
  pub leads : (s : Last) (r : Marks) → p s ≡ true → q (run s (said w r).pieces) ≡ true

-- the same of pieces, computed
abbrev implies : Bool → Bool → Bool
implies a b = cond a b true

abbrev from_each : (Last → Bool) → List Piece → (Last → Bool) → Bool
from_each p ps q = implies (p separated) (q (run separated ps)) && (implies (p unseparated) (q (run unseparated ps)) && (implies (p token) (q (run token ps)) && implies (p wrong) (q (run wrong ps))))

implied : (a b : Bool) → implies a b ≡ true → a ≡ true → b ≡ true
implied true b h g = h
implied false b h g = false_true g

from_last : (p q : Last → Bool) (ps : List Piece) → from_each p ps q ≡ true → (s : Last) → p s ≡ true → q (run s ps) ≡ true
from_last p q ps h separated g = implied (p separated) _ (and_left (implies (p separated) _) _ h) g
from_last p q ps h unseparated g = implied (p unseparated) _ (and_left (implies (p unseparated) _) _ (and_right (implies (p separated) _) _ h)) g
from_last p q ps h token g = implied (p token) _ (and_left (implies (p token) _) _ (and_right (implies (p unseparated) _) _ (and_right (implies (p separated) _) _ h))) g
from_last p q ps h wrong g = implied (p wrong) _ (and_right (implies (p token) _) _ (and_right (implies (p unseparated) _) _ (and_right (implies (p separated) _) _ h))) g

says : {p q : Last → Bool} {ps : List Piece} → from_each p ps q ≡ true → Leads p (say ps) q
unfolding said
says {p} {q} {ps} h = record { leads = λ s r g. from_last p q ps h s g }

-- pieces after which a token may come: where one may come before them, and wherever they may stand
pub keeps : {ps : List Piece} → from_each is_separated ps is_separated ≡ true → Leads is_separated (say ps) is_separated
keeps h = says h

pub separates : {ps : List Piece} → from_each sound ps is_separated ≡ true → Leads sound (say ps) is_separated
separates h = says h

-- pieces after which one may not come, or not yet
pub writes : {ps : List Piece} → from_each is_separated ps sound ≡ true → Leads is_separated (say ps) sound
writes h = says h

pub closes : {ps : List Piece} → from_each sound ps sound ≡ true → Leads sound (say ps) sound
closes h = says h

pub marks : {p : Last → Bool} {b : ℕ} → Leads p (mark b) p
unfolding said
marks = record { leads = λ s r g. g }

pub asks : {p q : Last → Bool} {b : ℕ} {f : Bool → Writer} → ((x : Bool) → Leads p (f x) q) → Leads p (ask b f) q
unfolding said
asks {b = b} h = record { leads = λ s r g. (h (contains r b)).leads s r g }

infixr 20 ◌⨾◌
pub ◌⨾◌ : {p q t : Last → Bool} {v w : Writer} → Leads p v q → Leads q w t → Leads p (v ▸ w) t
unfolding said
◌⨾◌ {v = v} h g = record { leads = λ s r k. rw run_append (g.leads (run s (said v r).pieces) (said v r).refs (h.leads s r k)) }
