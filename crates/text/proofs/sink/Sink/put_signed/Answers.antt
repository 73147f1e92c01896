-- The search for this return ends at a limit: its parts are named.
use Rattle.std.proofs.Common.{rules}
use Rattle.text.proofs.Signs.{writes_minus_high}
use Rattle.text.proofs.sink.Sink.put_signed.Goals as goal

-- src/number.rt:75:13
pub returns-then-n-eq0 : goal.returns-then-n-eq0
returns-then-n-eq0 c = writes_minus_high c.args.n.high c.args.n.low c.if-n-lt9223372036854775808.false (search rules) c.if-n-eq0.true c.put_byte.ensures c.put_decimal_wide-then-n-eq0.ensures
