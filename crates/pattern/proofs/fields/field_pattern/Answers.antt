use Rattle.std.proofs.Common.{refl, ◌∙◌}
use Rattle.codegen.specs.Piece.{odd_piece, odd_pieces}
use Rattle.codegen.specs.Pattern.{field_patterns}
use Rattle.view.specs.Buffers.{env_of}
use Rattle.sema.specs.Fields.{fields_read}
use Rattle.emits.specs.Sinks.{shows_none, shows_piece, shows_fix}
use Rattle.emits.specs.Runs.{emits_say, shows_plain, ◌⟫◌}
use Rattle.expr_parts.specs.EmitsLaws.{shows_new_put, shows_break_put}
use Rattle.expr_parts.proofs.Laws.{odd_head, emits_nothing}
use Rattle.pattern.proofs.fields.field_pattern.Goals as goal

pub returns-in-Some-clause-plain : goal.returns-in-Some-clause-plain
unfolding field_patterns odd_pieces odd_piece
returns-in-Some-clause-plain c =
    let env = env_of c.args.plan.now in
    λ n. rw c.in-Some.is
    (emits_say (odd_head (fields_read c.args.f.now) c.args.i 1) (shows_plain n (shows_break_put c.put_break.ensures (shows_piece (c.put_name.ensures c.args.depth) (shows_fix c.put_bytes.ensures shows_none))))
    ⟫ rw (c.is_ref.ensures, c.ty.ensures) at (c.put_ref.ensures.plain env c.args.depth n)
    ⟫ emits_say refl (shows_plain n (shows_new_put c.put_var.ensures (shows_fix c.put_bytes-in-Some.ensures shows_none)))
    ⟫ emits_nothing)

pub returns-in_default-clause-plain : goal.returns-in_default-clause-plain
unfolding field_patterns
returns-in_default-clause-plain c = λ n. rw c.in_default.is emits_nothing

pub returns-in-Some-clause-odd : goal.returns-in-Some-clause-odd
returns-in-Some-clause-odd c = c.put_bytes-in-Some.ensures.odd ∙ c.put_var.ensures.odd ∙ c.put_ref.ensures.odd ∙ c.put_bytes.ensures.odd ∙ (c.put_name.ensures c.args.depth).odd ∙ c.put_break.ensures.odd
