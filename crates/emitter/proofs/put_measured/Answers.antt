use Rattle.std.specs.Prelude.{◌≡◌, List, ℕ}
use borrow.Author.Rules.{rules}
use Rattle.emitter.specs.Held.{form_text, form_count}
use Rattle.emitter.specs.Texts.{Starts}
use Rattle.emitter.specs.EntryLaws.{form_le, measured}
use Rattle.emitter.proofs.put_measured.Goals as goal

pub returns-clause-measured : goal.returns-clause-measured
returns-clause-measured c = λ p h.
    let s : Starts c.new-w.result = record { at = c.new-w.ensures.start.0; odd = c.new-w.ensures.start.1 } in
    let q = c.put_text.ensures p h s in
    let e : ◌≡◌ {A = List ℕ} c.out-1.given.0 c.put_text.new.w.out.now = search (rules, q.buffer) in
    rw (← c.new-w.ensures.bytes, e) (measured (form_text c.args.form p) (form_count c.args.form p) (form_le c.args.form p) c.args.room s c.new-w.ensures.room q c.then_some.ensures)
