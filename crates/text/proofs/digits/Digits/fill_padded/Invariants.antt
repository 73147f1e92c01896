use Rattle.std.proofs.Common.{◌≡◌, ◌-◌, ◌/◌, ◌^◌, ◌++◌, drop}
use Rattle.text.specs.DigitsLaws.{padded}
use Rattle.text.specs.Filled.{filled}
use Rattle.text.proofs.digits.Digits.fill_padded.Given as goal

abbrev pub invariant-loop-i : goal.invariant-loop-i
invariant-loop-i g l = record {
  left : l.left ≡ l.n / g.row.B ^ l.i;
  filled : padded g.row.B g.row.K l.n ++ filled l.fn.self ≡ padded g.row.B (g.row.K - l.i) l.left ++ drop (l.first - l.i) l.self.text;
}
