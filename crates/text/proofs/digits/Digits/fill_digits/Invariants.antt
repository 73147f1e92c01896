use Rattle.std.proofs.Common.{◌≡◌, suc, ◌^◌, ◌≤◌, ◌<◌, ◌++◌, drop}
use Rattle.text.specs.Digits.{digits}
use Rattle.text.specs.Filled.{filled}
use Rattle.text.proofs.digits.Digits.fill_digits.Given as goal

abbrev pub invariant-loop-rest : goal.invariant-loop-rest
invariant-loop-rest g l = record {
  room : (1 ≤ l.place) × (l.place ≤ 40) × (l.rest < g.row.B ^ l.place);
  filled : digits g.row.B (suc l.n) l.n ++ filled l.fn.self ≡ digits g.row.B (suc l.rest) l.rest ++ drop l.place l.self.text;
}

abbrev pub decreases-loop-rest : goal.decreases-loop-rest
decreases-loop-rest g l = l.place
