use Rattle.std.specs.Prelude.{ℕ, ◌<◌, ◌≡◌, List}
use Rattle.std.proofs.Common.{arith}
use borrow.Author.Rules.{rules}
use Rattle.text.specs.Writes.{writes_then}
use Rattle.refusal.specs.Number.{number}
use Rattle.programs.specs.Printed.{refused_line}
use Rattle.programs.proofs.Laws.{line_put, refused_length}
use Rattle.programs.proofs.put_refusal.Goals as goal

pub returns : goal.returns
unfolding refused_line
returns c =
    let b : number c.args.refusal < 18446744073709551616 = omega (arith, c.from.ensures) in
    let q = writes_then c.put_bytes.ensures (writes_then (rw (c.from-2.ensures, c.from.ensures) at c.put_decimal.ensures) c.put_byte.ensures) in
    let e : ◌≡◌ {A = List ℕ} c.out-1.given.0 c.put_byte.new.self.out.now = search (rules, q.buffer) in
    rw e (line_put c.new-w.ensures.room c.new-w.ensures.start.0 q (refused_length (number c.args.refusal) b) (search rules))
