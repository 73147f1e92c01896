use Rattle.std.proofs.Common.{[], ◌∷◌, ◌≡◌, ◌+◌, ◌-◌, sym, arith}
use Rattle.text.specs.DigitsLaws.{padded_none, padded_more, quotient_more}
use Rattle.text.proofs.Filling.{filled_one, filled_more}
use Rattle.text.proofs.digits.Digits.fill_padded.Goals as goal

pub loop-i-preserved : goal.loop-i-preserved
loop-i-preserved g c =
    let i = c.loop-i.invariant in
    let e : g.row.K - c.loop-i.i - 1 ≡ g.row.K - (c.loop-i.i + 1) = omega arith in
    let f : c.args.self.now.first - c.loop-i.i - 1 ≡ c.args.self.now.first - (c.loop-i.i + 1) = omega arith in
    let h : c.args.self.now.first - 1 - c.loop-i.i ≡ c.args.self.now.first - c.loop-i.i - 1 = omega arith in
    record {
      left = quotient_more g.row.B c.loop-i.i c.args.n i.left;
      filled = rw (h, ← e, ← f) (filled_more _ (_ ∷ []) _ i.filled (filled_one c.loop-i.self.text (c.args.self.now.first - c.loop-i.i) _ _ c.from_digit.ensures (omega arith) (omega arith)) (padded_more g.row.B (g.row.K - c.loop-i.i) c.loop-i.left (omega arith)));
    }

pub returns-clause-filled : goal.returns-clause-filled
returns-clause-filled g c =
    let e : c.loop-i.i ≡ g.row.K = omega arith in
    let z : g.row.K - g.row.K ≡ 0 = omega arith in
    sym (rw (e, z, padded_none) at c.loop-i.invariant.filled)
