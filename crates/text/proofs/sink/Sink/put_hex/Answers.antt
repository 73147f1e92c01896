use Rattle.std.proofs.Common.{append-nil, rules}
use Rattle.text.specs.Digits.{hexadecimal}
use Rattle.text.specs.Wide.{low_half, hexadecimal_halves}
use Rattle.text.proofs.sink.Sink.put_hex.Goals as goal
use Rattle.text.proofs.sink.Sink.put_hex.Goals.{then-n-eq0, else-n-eq0}

pub returns : goal.returns
unfolding hexadecimal
returns c = elim c.if-n-eq0.branch [
  | then-n-eq0 t ↦ rw (low_half c.args.n.high c.args.n.low t.if-n-eq0.true) (rw (c.as_bytes.ensures, t.digits-is, t.fill_digits.ensures, c.new-digits.ensures.filled, append-nil) at c.put_bytes.ensures)
  | else-n-eq0 t ↦ rw (hexadecimal_halves c.args.n.high c.args.n.low t.if-n-eq0.false (search rules)) (rw (c.as_bytes.ensures, t.digits-is, t.fill_digits-else-n-eq0.ensures, t.fill_padded.ensures.filled, c.new-digits.ensures.filled, append-nil) at c.put_bytes.ensures)
]
