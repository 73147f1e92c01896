-- Closures are opened in the order of the rows, and every line of a closure is a row's.
use Rattle.std.specs.Prelude.{ℕ, suc, ◌≡◌, Bool, true, false, cond, leb}
use Rattle.std.proofs.Math.Path.{refl}
use Rattle.std.proofs.Common.{ap, ◌∙◌}
use Rattle.std.proofs.Math.Option.{Option, some, none}
use mathlib.Core.List.{List, [], ◌∷◌, ◌++◌, append_assoc, append-nil}
use Rattle.plan.specs.Plan.{Options, Environment, Generated, Term}
use Rattle.plan.specs.Row.{Row, level}
use Rattle.plan.specs.Lookup.{term_at}
use Rattle.codegen.specs.Piece.{Piece}
use Rattle.codegen.specs.Block.{Body, Line, Part, Purpose, one_arm, arms_of, arm_body, body, Frame, State, Own, place, end_closure, catchall, end_block, closing, left, numbered, open_closure, row_parts, after, here, splits_here, next, written, walk}
use Rattle.codegen.specs.TakeOff.{Above}
use Rattle.codegen.specs.Terms.{rowless, signature, term_end, body_of, start, splits, term_parts}
use Rattle.splitting.specs.Demand3.{has_row, edges_have_rows, opened_row, opened_rows, split_arms}
use Rattle.splitting.specs.Cases.{and_left, and_right, and_both, by_bool}
use Rattle.splitting.specs.Owners.{arms_placed}
use Rattle.splitting.specs.Closures.{split_numbers, Numbers, row_split, row_numbers, start_numbers}
use Rattle.splitting.proofs.SplitArms.{numbers_from, block_numbers, true_rows}

-- OPENED ROWS

opened_append : (ps qs : List Part) → opened_rows (ps ++ qs) ≡ opened_rows ps ++ opened_rows qs
unfolding opened_rows
opened_append [] qs = refl
opened_append (p ∷ ps) qs = rw (opened_append ps qs, append_assoc)

opened_place : (i : ℕ) (fs : List Frame) (ls : List Line) → opened_rows (place (some i) fs ls) ≡ []
unfolding opened_rows opened_row place
opened_place i fs [] = refl
opened_place i fs (l ∷ ls) = opened_place i fs ls

opened_end_closure : (i : ℕ) (fs : List Frame) (k : Option ℕ) → opened_rows (end_closure i fs k) ≡ []
unfolding opened_rows opened_row end_closure
opened_end_closure i fs none = refl
opened_end_closure i fs (some n) = refl

opened_catchall : (f : Frame) (fs : List Frame) (p : Purpose) → opened_rows (catchall f fs p) ≡ []
unfolding opened_rows opened_row catchall
opened_catchall f fs one_arm = refl
opened_catchall f fs (arms_of q) = refl
opened_catchall f fs arm_body = refl
opened_catchall f fs body = refl

opened_closing : (l : ℕ) (fs : List Frame) → opened_rows (closing l fs) ≡ []
unfolding closing end_block opened_rows
opened_closing l [] = refl
opened_closing l (f ∷ fs) =
    by_bool (λ b. opened_rows (cond b (end_block f fs ++ closing l fs) []) ≡ []) (leb l f.level)
    (rw (opened_append, opened_append, opened_append, opened_end_closure, opened_catchall, opened_place, opened_closing l fs))
    refl

opened_open_closure : (i : ℕ) (fs : List Frame) (b : Bool) → opened_rows (open_closure i fs b) ≡ cond b (i ∷ []) []
unfolding open_closure opened_rows opened_row
opened_open_closure i fs true = refl
opened_open_closure i fs false = refl

opened_row_parts : (i : ℕ) (fs : List Frame) (o : Own) (b : Bool) → opened_rows (row_parts i fs o b) ≡ cond b (i ∷ []) []
unfolding row_parts
opened_row_parts i fs o b = rw (opened_append, opened_place) (opened_open_closure i fs b)

-- the rows that have a number, from row i on
unfoldable numbered_row : ℕ → Option ℕ → List ℕ
numbered_row i none = []
numbered_row i (some n) = i ∷ []

unfoldable numbered_rows : ℕ → List (Option ℕ) → List ℕ
numbered_rows i [] = []
numbered_rows i (n ∷ ns) = numbered_row i n ++ numbered_rows (suc i) ns

numbered_one : (i n : ℕ) (b : Bool) → cond b (i ∷ []) [] ≡ numbered_row i (numbered b n)
unfolding numbered_row
numbered_one i n true = refl
numbered_one i n false = refl

module _ (c : Body) (sp : ℕ → Bool) where
  opened_written : (s : State) (i : ℕ) (r : Row) (rs : List Row) → opened_rows (written c sp s i r rs) ≡ numbered_row i (numbered (splits_here sp (here c s r rs) r rs) s.match_split)
  unfolding written
  opened_written s i r rs = rw (opened_append, opened_closing, opened_row_parts) (numbered_one i s.match_split (splits_here sp (here c s r rs) r rs))

  next_split : (s : State) (i : ℕ) (r : Row) (rs : List Row) → (next c sp s i r rs).match_split ≡ cond (splits_here sp (here c s r rs) r rs) (suc s.match_split) s.match_split
  unfolding next after
  next_split s i r rs = refl

  opened_walk : (ns : List (Option ℕ)) (s : State) (above : List Above) (i : ℕ) (rs : List Row) → Numbers ns sp above s i rs → opened_rows (walk c sp s i rs) ≡ numbered_rows i (split_numbers sp above s.match_split rs)
  unfolding walk split_numbers numbered_rows
  opened_walk ns s above i [] f = opened_closing 0 s.frames
  opened_walk ns s above i (r ∷ rs) f =
      rw (opened_append, opened_written, opened_walk ns (next c sp s i r rs) _ (suc i) rs (row_numbers c sp ns s above i r rs f), next_split, row_split c sp ns s above i r rs f)

numbered_true : (i k : ℕ) (bs : List Bool) → numbered_rows i (numbers_from k bs) ≡ true_rows i bs
unfolding numbered_rows numbered_row numbers_from true_rows
numbered_true i k [] = refl
numbered_true i k (true ∷ bs) = ap (λ (x : List ℕ). i ∷ x) (numbered_true (suc i) (suc k) bs)
numbered_true i k (false ∷ bs) = numbered_true (suc i) k bs

opened_rowless : (d : ℕ) (ls : List (List Piece)) → opened_rows (rowless d ls) ≡ []
unfolding opened_rows opened_row rowless
opened_rowless d [] = refl
opened_rowless d (l ∷ ls) = opened_rowless d ls

opened_signature : (e : Environment) (m : Term) → opened_rows (signature e m) ≡ []
unfolding signature
opened_signature e m = rw (opened_append, opened_append, opened_rowless, opened_rowless, opened_rowless)

opened_end : (m : Term) (rs : List Row) → opened_rows (term_end m rs) ≡ []
unfolding term_end
opened_end m rs = rw (opened_append, opened_rowless, opened_rowless)

-- the rows that open closures, in the order of the text, are the split arms in the order of the rows
pub opened_term : (o : Options) (e : Environment) (g : Generated) → arms_placed [] g.rows ≡ true → opened_rows (term_parts o e g) ≡ true_rows 0 (split_arms o e g)
unfolding term_parts start
opened_term o e g h =
    rw (opened_append, opened_append, opened_signature, opened_end, append-nil)
    (opened_walk (body_of o e g) (splits o e g) _ (start e g) [] 0 g.rows (start_numbers (splits o e g) e g h)
    ∙ ap (numbered_rows 0) (block_numbers o e g h) ∙ numbered_true 0 0 (split_arms o e g))

-- ROWS OF CLOSURES' LINES

-- every closure's line among the parts is a row's
unfoldable Rowed : List Part → Type 0
Rowed ps = edges_have_rows ps ≡ true

rowed_nothing : Rowed []
unfolding Rowed edges_have_rows
rowed_nothing = refl

rowed_append : (ps qs : List Part) → Rowed ps → Rowed qs → Rowed (ps ++ qs)
unfolding Rowed edges_have_rows
rowed_append [] qs h k = k
rowed_append (p ∷ ps) qs h k = and_both (and_left (has_row p.row p.what) _ h) (rowed_append ps qs (and_right (has_row p.row p.what) _ h) k)

rowed_place : (i : Option ℕ) (fs : List Frame) (ls : List Line) → Rowed (place i fs ls)
unfolding Rowed edges_have_rows has_row place
rowed_place i fs [] = refl
rowed_place i fs (l ∷ ls) = rowed_place i fs ls

rowed_rowless : (d : ℕ) (ls : List (List Piece)) → Rowed (rowless d ls)
unfolding Rowed edges_have_rows has_row rowless
rowed_rowless d [] = refl
rowed_rowless d (l ∷ ls) = rowed_rowless d ls

rowed_end_closure : (i : ℕ) (fs : List Frame) (k : Option ℕ) → Rowed (end_closure i fs k)
unfolding Rowed edges_have_rows has_row end_closure
rowed_end_closure i fs none = refl
rowed_end_closure i fs (some n) = refl

rowed_open_closure : (i : ℕ) (fs : List Frame) (b : Bool) → Rowed (open_closure i fs b)
unfolding Rowed edges_have_rows has_row open_closure
rowed_open_closure i fs true = refl
rowed_open_closure i fs false = refl

rowed_catchall : (f : Frame) (fs : List Frame) (p : Purpose) → Rowed (catchall f fs p)
unfolding Rowed edges_have_rows has_row catchall
rowed_catchall f fs one_arm = refl
rowed_catchall f fs (arms_of q) = refl
rowed_catchall f fs arm_body = refl
rowed_catchall f fs body = refl

rowed_end_block : (f : Frame) (fs : List Frame) → Rowed (end_block f fs)
unfolding end_block
rowed_end_block f fs = rowed_append (end_closure f.row fs f.closure) _ (rowed_end_closure f.row fs f.closure) (rowed_append (catchall f fs f.purpose) _ (rowed_catchall f fs f.purpose) (rowed_place (some f.row) fs _))

rowed_closing : (l : ℕ) (fs : List Frame) → Rowed (closing l fs)
unfolding closing
rowed_closing l [] = rowed_nothing
rowed_closing l (f ∷ fs) =
    by_bool (λ b. Rowed (cond b (end_block f fs ++ closing l fs) [])) (leb l f.level) (rowed_append (end_block f fs) (closing l fs) (rowed_end_block f fs) (rowed_closing l fs)) rowed_nothing

rowed_written : (c : Body) (sp : ℕ → Bool) (s : State) (i : ℕ) (r : Row) (rs : List Row) → Rowed (written c sp s i r rs)
unfolding written row_parts
rowed_written c sp s i r rs = rowed_append (closing (level r) s.frames) _ (rowed_closing (level r) s.frames) (rowed_append (place (some i) (left (level r) s.frames) (here c s r rs).lines) _ (rowed_place (some i) _ _) (rowed_open_closure i _ _))

rowed_walk : (c : Body) (sp : ℕ → Bool) (s : State) (i : ℕ) (rs : List Row) → Rowed (walk c sp s i rs)
unfolding walk
rowed_walk c sp s i [] = rowed_closing 0 s.frames
rowed_walk c sp s i (r ∷ rs) = rowed_append (written c sp s i r rs) _ (rowed_written c sp s i r rs) (rowed_walk c sp (next c sp s i r rs) (suc i) rs)

rowed_signature : (e : Environment) (m : Term) → Rowed (signature e m)
unfolding signature
rowed_signature e m = rowed_append (rowless 0 _) _ (rowed_rowless 0 _) (rowed_append (rowless 1 _) _ (rowed_rowless 1 _) (rowed_rowless 0 _))

rowed_end : (m : Term) (rs : List Row) → Rowed (term_end m rs)
unfolding term_end
rowed_end m rs = rowed_append (rowless 1 _) _ (rowed_rowless 1 _) (rowed_rowless 0 _)

pub rowed_term : (o : Options) (e : Environment) (g : Generated) → edges_have_rows (term_parts o e g) ≡ true
unfolding term_parts Rowed
rowed_term o e g =
    rowed_append (signature e (term_at e g.term)) _ (rowed_signature e _)
    (rowed_append (walk (body_of o e g) (splits o e g) (start e g) 0 g.rows) _ (rowed_walk (body_of o e g) (splits o e g) (start e g) 0 g.rows) (rowed_end _ _))
