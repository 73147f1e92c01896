use Rattle.std.proofs.Common.{◌≡◌, ◌+◌, ◌^◌, ◌≤◌, ◌<◌, ◌++◌, length, drop}
use Rattle.text.specs.Digits.{decimal}
use Rattle.text.specs.Wide.{whole}
use Rattle.text.proofs.decimal.find_decimal.Given as goal

abbrev pub invariant-loop-digits : goal.invariant-loop-digits
invariant-loop-digits l = record {
  room : (1 ≤ l.first) × (whole l.rest.left < 10 ^ l.first);
  size : length l.digits ≡ 40;
  made : l.first + l.rest.divisions ≡ 40;
  filled : decimal (whole l.fn.n) ≡ decimal (whole l.rest.left) ++ drop l.first l.digits;
}

abbrev pub decreases-loop-digits : goal.decreases-loop-digits
decreases-loop-digits l = l.first
