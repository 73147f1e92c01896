use Rattle.std.proofs.Common.{◌<◌, sym, ◌∙◌, arith}
use Rattle.text.specs.Digits.{decimal}
use Rattle.text.specs.DigitsLaws.{decimal_four, quotient_four, places, part_less_four}
use Rattle.text.proofs.Filling.{filled_more}
use Rattle.text.proofs.digits.Digits.fill_decimal.Goals as goal

pub loop-rest-preserved : goal.loop-rest-preserved
loop-rest-preserved c =
    let i = c.loop-rest.invariant in
    let f = c.fill_padded-rest.ensures in
    let p : 4 < c.loop-rest.self.first = places 10 4 c.loop-rest.rest c.loop-rest.self.first (omega arith) c.loop-rest-test.true i.room.1 in
    let q = f.left ∙ quotient_four c.loop-rest.rest in
    record {
      room = (omega (arith, f.place), rw (q, f.place) (part_less_four c.loop-rest.self.first c.loop-rest.rest (omega arith) i.room.1));
      filled = rw q (filled_more _ _ _ i.filled f.filled (decimal_four c.loop-rest.rest (omega arith)));
    }

pub returns : goal.returns
unfolding decimal
returns c = c.fill_digits.ensures ∙ sym c.loop-rest.invariant.filled
