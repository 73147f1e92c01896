use Rattle.std.specs.Prelude.{refl, [], ◌∷◌, cond}
use Rattle.text.specs.Sink.{spaces}
use Rattle.codegen.specs.Piece.{fix, break, render, bytes, indent}
use Rattle.emits.specs.Sinks.{Shows, shows_none, shows_fix, shows_text, ◌⟫ₛ◌}
use Rattle.emit_items.specs.Shown.{shows_line}
use Rattle.emit_items.proofs.internal_types.put_derives.Goals as goal
use Rattle.emit_items.proofs.internal_types.put_derives.Goals.{then-copy, else-copy, then-not-nodebug, else-not-nodebug}

pub returns : goal.returns
unfolding render bytes indent spaces
returns c = λ env.
    let start : Shows env 0 (break 0 ∷ cond c.args.copy (fix "#[derive(Copy, Clone, PartialEq, Eq" refl) (fix "#[derive(Clone" refl) ∷ []) c.args.w.now c.if-copy.w =
    elim c.if-copy.branch [ then-copy w ↦ rw (w.if-copy.true, w.w-is) (shows_text w.put_bytes.ensures) | else-copy w ↦ rw (w.if-copy.false, w.w-is) (shows_text w.put_bytes-else-copy.ensures) ] in
    let debug : Shows env 0 (cond c.args.nodebug [] (fix ", Debug" refl ∷ [])) c.if-copy.w c.if-not-nodebug.w =
    elim c.if-not-nodebug.branch [ then-not-nodebug w ↦ rw (w.if-not-nodebug.true, w.w-is) (shows_fix w.put_bytes-then-not-nodebug.ensures shows_none) | else-not-nodebug w ↦ rw (w.if-not-nodebug.false, w.w-is) shows_none ] in
    start ⟫ₛ debug ⟫ₛ shows_line c.put_bytes-2.ensures shows_none
