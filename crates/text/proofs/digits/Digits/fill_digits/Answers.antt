use Rattle.std.proofs.Common.{[], ◌∷◌, sym, arith}
use Rattle.text.specs.Digits.{digit}
use Rattle.text.specs.DigitsLaws.{digits_more, digits_one, more_places, part_less}
use Rattle.text.proofs.Filling.{filled_one, filled_more}
use Rattle.text.proofs.digits.Digits.fill_digits.Goals as goal

pub loop-rest-preserved : goal.loop-rest-preserved
loop-rest-preserved g c =
    let i = c.loop-rest.invariant in
    record {
      room = (omega (arith, more_places g.row.B c.loop-rest.rest c.loop-rest.place (omega arith) c.loop-rest-test.true i.room.2), omega arith, part_less g.row.B c.loop-rest.place c.loop-rest.rest (omega arith) (omega arith) i.room.2);
      filled = filled_more _ (_ ∷ []) _ i.filled (filled_one c.loop-rest.self.text c.loop-rest.place _ _ c.from_digit.ensures (omega arith) (omega arith)) (digits_more g.row.B c.loop-rest.rest (omega arith) (omega arith));
    }

pub returns : goal.returns
returns g c = sym (filled_more [] (digit c.loop-rest.rest ∷ []) _ c.loop-rest.invariant.filled (filled_one c.loop-rest.self.text c.loop-rest.place _ _ c.from_digit-2.ensures (omega arith) (omega arith)) (digits_one g.row.B c.loop-rest.rest (omega arith)))
