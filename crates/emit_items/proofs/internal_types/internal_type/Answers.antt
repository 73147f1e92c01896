use Rattle.std.proofs.Common.{inl, inr}
use Rattle.std.proofs.lemmas.Bool.{not-true, not-false}
use Rattle.codegen.specs.Items.{internal_type}
use Rattle.emits.specs.Sinks.{shows_none}
use Rattle.emit_items.proofs.Lists.{type_as}
use Rattle.emit_items.proofs.internal_types.internal_type.Goals as goal

pub returns-in-Builtin-clause-shows : goal.returns-in-Builtin-clause-shows
unfolding internal_type
returns-in-Builtin-clause-shows c = λ v. elim c.in-Builtin.is [ inl w ↦ rw (type_as _ c.data-data.ensures w.1) shows_none | inr w ↦ rw (type_as _ c.data-data.ensures w.1) shows_none ]

pub returns-then-not-d-clause-shows : goal.returns-then-not-d-clause-shows
unfolding internal_type
returns-then-not-d-clause-shows c = λ v.
    let intern = not-true _ c.if-not-d.true in
    rw (type_as _ c.data-data.ensures c.in-Enum.is, intern) (rw intern at (c.enum_type.ensures.shows v))

pub returns-else-not-d-clause-shows : goal.returns-else-not-d-clause-shows
unfolding internal_type
returns-else-not-d-clause-shows c = λ v. rw (type_as _ c.data-data.ensures c.in-Enum.is, not-false _ c.if-not-d.false) shows_none

pub returns-then-not-d-2-clause-shows : goal.returns-then-not-d-2-clause-shows
unfolding internal_type
returns-then-not-d-2-clause-shows c = λ v.
    let intern = not-true _ c.if-not-d-2.true in
    rw (type_as _ c.data-data.ensures c.in-Struct.is, intern) (rw intern at c.struct_type.ensures)

pub returns-else-not-d-2-clause-shows : goal.returns-else-not-d-2-clause-shows
unfolding internal_type
returns-else-not-d-2-clause-shows c = λ v. rw (type_as _ c.data-data.ensures c.in-Struct.is, not-false _ c.if-not-d-2.false) shows_none
