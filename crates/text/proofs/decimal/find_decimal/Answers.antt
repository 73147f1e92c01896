use Rattle.std.proofs.Common.{ℕ, [], ◌∷◌, ◌<◌, ◌≤◌, ◌+◌, eqb-true, sym, ◌∙◌, ap, arith, length-drop, length-set}
use Rattle.std.proofs.lemmas.Bool.{eqb-false}
use Rattle.text.specs.DigitsLaws.{decimal_digit, decimal_one, decimal_more, more_places, part_less}
use Rattle.text.specs.Wide.{whole}
use Rattle.text.proofs.Filling.{filled_one, filled_more}
use Rattle.text.proofs.decimal.find_decimal.Goals as goal

pub loop-digits-preserved : goal.loop-digits-preserved
loop-digits-preserved c =
    let i = c.loop-digits.invariant in
    let d = c.divide-rest.ensures in
    let more : 10 ≤ whole c.loop-digits.rest.left = let z = eqb-false (whole c.divide-rest.result.left) 0 (sym c.is_zero.ensures ∙ c.if-is_zero.false) in omega (arith, z, d.left) in
    let last = ap (λ (n : ℕ). 48 + n) d.digit ∙ sym (decimal_digit (whole c.loop-digits.rest.left)) in
    record {
      room = (omega (arith, more_places 10 _ c.loop-digits.first (omega arith) more i.room.1), rw d.left (part_less 10 c.loop-digits.first _ (omega arith) (omega arith) i.room.1));
      size = rw length-set i.size;
      made = omega (arith, i.made, d.count);
      filled = rw d.left (filled_more _ (_ ∷ []) _ i.filled (filled_one c.loop-digits.digits c.loop-digits.first _ _ last (omega arith) (omega (arith, i.size))) (decimal_more _ more));
    }

pub returns-then-is_zero : goal.returns-then-is_zero
returns-then-is_zero c =
    let i = c.loop-digits.invariant in
    let d = c.divide-rest.ensures in
    let one : whole c.loop-digits.rest.left < 10 = let z = eqb-true (whole c.divide-rest.result.left) 0 (sym c.is_zero.ensures ∙ c.if-is_zero.true) in omega (arith, z, d.left) in
    let last = ap (λ (n : ℕ). 48 + n) d.digit ∙ sym (decimal_digit (whole c.loop-digits.rest.left)) in
    record {
      place = omega arith;
      digits = sym (filled_more [] (_ ∷ []) _ i.filled (filled_one c.loop-digits.digits c.loop-digits.first _ _ last (omega arith) (omega (arith, i.size))) (decimal_one _ one));
      count = rw (length-drop, length-set, i.size) (omega (arith, i.made));
      divisions = rw (length-drop, length-set, i.size, d.count) (omega (arith, i.made));
    }
