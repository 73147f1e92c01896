use Rattle.std.proofs.Common.{◌≡◌, ◌^◌, ◌≤◌, ◌<◌, ◌++◌}
use Rattle.text.specs.Digits.{decimal}
use Rattle.text.specs.Filled.{filled}
use Rattle.text.proofs.digits.Digits.fill_decimal.Given as goal

abbrev pub invariant-loop-rest : goal.invariant-loop-rest
invariant-loop-rest l = record {
  room : (1 ≤ l.self.first) × (l.rest < 10 ^ l.self.first);
  filled : decimal l.n ++ filled l.fn.self ≡ decimal l.rest ++ filled l.self;
}

abbrev pub decreases-loop-rest : goal.decreases-loop-rest
decreases-loop-rest l = l.self.first
