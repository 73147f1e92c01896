-- The terms text: without its closures it is the text of the other plan, and the odd counts are equal.
use Rattle.std.specs.Prelude.{ℕ, ◌≡◌, refl, Bool, true, false, ◌&&◌}
use Rattle.std.proofs.Math.Path.{sym, ap}
use Rattle.std.proofs.Common.{ap₂, ◌∙◌, arith}
use Rattle.std.proofs.Math.Option.{some}
use mathlib.Core.List.{List, [], ◌∷◌, append-nil}
use Rattle.plan.specs.Lookup.{term_at}
use Rattle.plan.specs.Plan.{Plan, Options, Environment, Generated, Term}
use Rattle.plan.specs.Row.{Row}
use Rattle.codegen.specs.Block.{walk}
use Rattle.codegen.specs.Piece.{Piece}
use Rattle.codegen.specs.TakeOff.{arms_above, belows, part_tags, term_tags, tags, edit_lines, take_off_terms}
use Rattle.codegen.specs.Terms.{rowless, signature, term_end, body_of, start, splits, term_parts, all_parts, parts, terms_text, odds}
use Rattle.splitting.specs.Cases.{and_left, and_right}
use Rattle.splitting.specs.Plains.{Clean}
use Rattle.splitting.specs.Simulation.{unsplit_frames, unsplit_state, unsplit_part, unsplit, unsplit_append, unsplit_walk, unsplit_odds}
use Rattle.splitting.specs.Lines.{around_tags, edit_parts}
use Rattle.splitting.specs.Owners.{closure_levels, Known, arms_placed, Same, same_append, around_append, Fits, same_walk}

-- the arms of every block are placed
unfoldable pub all_arms_placed : List Generated → Bool
all_arms_placed [] = true
all_arms_placed (g ∷ gs) = arms_placed [] g.rows && all_arms_placed gs

-- what the terms texts of two plans have in common
pub record Alike (p q : Plan) : Type 0 where
  pub env : p.env ≡ q.env
  pub generated : p.generated ≡ q.generated
  pub log : p.options.log ≡ q.options.log

unsplit_rowless : (d : ℕ) (ls : List (List Piece)) → unsplit (rowless d ls) ≡ rowless d ls
unfolding rowless unsplit unsplit_part
unsplit_rowless d [] = refl
unsplit_rowless d (l ∷ ls) = rw (unsplit_rowless d ls)

unsplit_signature : (env : Environment) (m : Term) → unsplit (signature env m) ≡ signature env m
unfolding signature
unsplit_signature env m = rw (unsplit_append, unsplit_append, unsplit_rowless, unsplit_rowless, unsplit_rowless)

unsplit_end : (m : Term) (rs : List Row) → unsplit (term_end m rs) ≡ term_end m rs
unfolding term_end
unsplit_end m rs = rw (unsplit_append, unsplit_rowless, unsplit_rowless)

same_rowless : (bs : List ℕ) (d : ℕ) (ls : List (List Piece)) → Same bs (rowless d ls)
unfolding rowless Same part_tags around_tags
same_rowless bs d [] = refl
same_rowless bs d (l ∷ ls) = rw (same_rowless bs d ls)

unsplit_start : (env : Environment) (g : Generated) → unsplit_state (start env g) ≡ start env g
unfolding start unsplit_state unsplit_frames
unsplit_start env g = refl

same_signature : (bs : List ℕ) (env : Environment) (m : Term) → Same bs (signature env m)
unfolding signature
same_signature bs env m = same_append bs (rowless 0 _) _ (same_rowless bs 0 _) (same_append bs (rowless 1 _) _ (same_rowless bs 1 _) (same_rowless bs 0 _))

same_end : (bs : List ℕ) (m : Term) (rs : List Row) → Same bs (term_end m rs)
unfolding term_end
same_end bs m rs = same_append bs (rowless 1 _) _ (same_rowless bs 1 _) (same_rowless bs 0 _)

start_fits : (sp : ℕ → Bool) (env : Environment) (g : Generated) → arms_placed [] g.rows ≡ true → Fits (belows sp [] [] g.rows) sp [] (start env g).frames 0 g.rows
unfolding start closure_levels Known arms_above
start_fits sp env g h = record { rest = refl; sorted = tt; known = λ l e. absurd (omega arith); owned = tt; nests = h }

unsplit_term : (o o' : Options) (env : Environment) (g : Generated) → o.log ≡ o'.log → o'.split ≡ false → term_parts o' env g ≡ unsplit (term_parts o env g)
unfolding term_parts splits body_of
unsplit_term o o' env g e f = rw (unsplit_append, unsplit_append, unsplit_signature, unsplit_end, ← unsplit_walk (body_of o env g) (splits o env g) (start env g) 0 g.rows, unsplit_start, e, f)

same_term : (o : Options) (env : Environment) (g : Generated) → arms_placed [] g.rows ≡ true → Same (belows (splits o env g) [] [] g.rows) (term_parts o env g)
unfolding term_parts
same_term o env g h =
    let bs : List ℕ = belows (splits o env g) [] [] g.rows in
    same_append bs (signature env (term_at env g.term)) _ (same_signature bs env _)
    (same_append bs (walk (body_of o env g) (splits o env g) (start env g) 0 g.rows) _ (same_walk (body_of o env g) (splits o env g) bs (start env g) [] 0 g.rows (start_fits (splits o env g) env g h)) (same_end bs _ _))

unsplit_all : (o o' : Options) (env : Environment) (gs : List Generated) → o.log ≡ o'.log → o'.split ≡ false → all_parts o' env gs ≡ unsplit (all_parts o env gs)
unfolding all_parts unsplit
unsplit_all o o' env [] e f = refl
unsplit_all o o' env (g ∷ gs) e f = rw (unsplit_append, unsplit_term o o' env g e f, unsplit_all o o' env gs e f)

tags_all : (o : Options) (env : Environment) (gs : List Generated) → all_arms_placed gs ≡ true → term_tags o env gs ≡ around_tags (all_parts o env gs)
unfolding all_parts all_arms_placed term_tags around_tags Same
tags_all o env [] h = refl
tags_all o env (g ∷ gs) h = rw (around_append, same_term o env g (and_left (arms_placed [] g.rows) (all_arms_placed gs) h), tags_all o env gs (and_right (arms_placed [] g.rows) (all_arms_placed gs) h))

pub no_tags : (s : List ℕ) → edit_lines [] s ≡ some s
unfolding edit_lines
no_tags s = refl

module _ (p q : Plan) (a : Alike p q) (f : q.options.split ≡ false) where
  off_parts : parts q ≡ unsplit (parts p)
  off_parts = rw (← a.env, ← a.generated) (unsplit_all p.options q.options p.env p.generated a.log f)

  pub same_odds : odds p ≡ odds q
  unfolding odds
  same_odds = rw off_parts (sym (unsplit_odds (parts p)))

  module _ (c : Clean p.env) (n : all_arms_placed p.generated ≡ true) where
    whole_tags : term_tags p.options p.env p.generated ≡ around_tags (parts p)
    whole_tags = tags_all p.options p.env p.generated n

    pub terms_off : take_off_terms p (terms_text p) ≡ some (terms_text q)
    unfolding take_off_terms terms_text tags
    terms_off = rw (off_parts, ← a.env) (ap₂ edit_lines (whole_tags ∙ sym (append-nil _)) (sym (append-nil _)) ∙ edit_parts c (parts p) [] [] [] (no_tags []) ∙ ap some (append-nil _))
