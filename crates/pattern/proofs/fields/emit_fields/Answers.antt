use Rattle.std.proofs.Common.{sym, ◌∙◌, length, eqb-true}
use Rattle.std.proofs.lemmas.Bool.{eqb-false}
use Rattle.view.specs.Buffers.{env_of}
use Rattle.sema.specs.Fields.{fields_read}
use Rattle.emits.specs.Runs.{writes_plain, shows_plain, emits_plain}
use Rattle.pattern.proofs.Laws.{emits_no_fields, emits_fields}
use Rattle.pattern.proofs.fields.emit_fields.Goals as goal

pub returns-then-is_empty-clause-emits : goal.returns-then-is_empty-clause-emits
returns-then-is_empty-clause-emits c = emits_no_fields _ c.args.list.now (eqb-true (length c.args.list.now) 0 (sym c.is_empty.ensures ∙ c.if-is_empty.true))

pub returns-then-is_empty-clause-plain : goal.returns-then-is_empty-clause-plain
returns-then-is_empty-clause-plain c = λ n. emits_no_fields _ c.args.list.now (eqb-true (length c.args.list.now) 0 (sym c.is_empty.ensures ∙ c.if-is_empty.true))

pub returns-clause-plain : goal.returns-clause-plain
returns-clause-plain c = λ n.
    emits_fields (fields_read c.args.f.now) c.args.list.now c.skipped_some.result (eqb-false (length c.args.list.now) 0 (sym c.is_empty.ensures ∙ c.if-is_empty.false)) c.skipped_some.ensures
    (writes_plain n c.put_bytes.ensures) (c.field_patterns.ensures.plain n) (shows_plain n (c.put_skipped.ensures (env_of c.args.plan.now)))

pub returns-clause-odd : goal.returns-clause-odd
returns-clause-odd c = (c.put_skipped.ensures (env_of c.args.plan.now)).is.odd ∙ c.field_patterns.ensures.odd ∙ c.put_bytes.ensures.odd

pub returns-clause-emits : goal.returns-clause-emits
returns-clause-emits c = emits_plain (returns-clause-plain c) (returns-clause-odd c)
