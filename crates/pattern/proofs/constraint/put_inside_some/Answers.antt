use Rattle.std.proofs.Common.{◌≡◌, cond, refl, sym, rules}
use Rattle.codegen.specs.Piece.{odd_piece, odd_pieces}
use Rattle.codegen.specs.Writer.{insert}
use Rattle.codegen.specs.Pattern.{inside_some}
use Rattle.emits.specs.Marks.{set_of}
use Rattle.emits.specs.Sinks.{shows_none, shows_fix}
use Rattle.emits.specs.Runs.{emits_say, ◌⟫◌}
use Rattle.expr_parts.specs.EmitsLaws.{shows_new_put}
use Rattle.expr_parts.proofs.Laws.{emits_nothing}
use Rattle.pattern.proofs.Laws.{patterns_first, patterns_none, emits_given}
use Rattle.pattern.proofs.constraint.put_inside_some.Goals as goal
use Rattle.pattern.proofs.constraint.put_inside_some.Goals.{then-contains, else-contains}

pub returns-in_default : goal.returns-in_default
unfolding inside_some
returns-in_default c = λ env d. rw (patterns_none c.args.list.now c.in_default.ensures.value) emits_nothing

pub returns-in_default-pattern_of : goal.returns-in_default-pattern_of
unfolding inside_some odd_pieces odd_piece
returns-in_default-pattern_of c = λ env d. rw (patterns_first c.in-Some.word.now c.args.list.now c.in-Some.ensures.value, ← c.pattern_of.ensures, c.in_default-pattern_of.is) (emits_say refl (shows_fix c.put_bytes.ensures shows_none))

pub returns : goal.returns
unfolding inside_some odd_pieces odd_piece
returns c =
    let r = set_of c.args.refs.now in
    let marked : set_of c.if-contains.refs ≡ cond c.contains.result (insert r c.in-Some-pattern_of.b) r = elim c.if-contains.branch [ then-contains w ↦ search rules | else-contains w ↦ search rules ] in
    λ env d. rw (patterns_first c.in-Some.word.now c.args.list.now c.in-Some.ensures.value, ← c.pattern_of.ensures, c.in-Some-pattern_of.is)
    (emits_given c.contains.result (sym c.contains.ensures) marked ⟫ emits_say refl (shows_new_put c.put_var.ensures shows_none))
