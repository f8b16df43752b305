use Rattle.std.proofs.Common.{arith, sym, get_or}
use Rattle.reg_dotreg_reader.proofs.DigitLists.{digit_next, digit_below, digits_grow, digits_within, digits_fit}
use Rattle.reg_dotreg_reader.proofs.numbers.number.Goals as goal

pub overflow_add-number : goal.overflow_add-number
overflow_add-number c =
    let fit = digits_fit c.loop-unit.unit-index c.loop-unit.number c.loop-unit.invariant.below
    (omega (arith, c.loop-unit-test.true, c.if-digits-limit.false, c.requires)) in
    let digit = digit_below (get_or c.args.digits.now c.loop-unit.unit-index 0) c.in-Some.value (sym c.in-Some.ensures) in
    omega (arith, fit, digit)

pub loop-unit-preserved : goal.loop-unit-preserved
loop-unit-preserved c = record {
  value =
      digit_next _ c.args.digits.now c.loop-unit.unit-index c.loop-unit.number c.in-Some.value c.loop-unit.invariant.value c.loop-unit-test.true
      (sym c.in-Some.ensures);
  below =
      digits_grow c.loop-unit.unit-index c.loop-unit.number c.in-Some.value c.loop-unit.invariant.below
      (digit_below (get_or c.args.digits.now c.loop-unit.unit-index 0) c.in-Some.value (sym c.in-Some.ensures));
}

pub returns-clause-within : goal.returns-clause-within
returns-clause-within c =
    digits_within c.loop-unit.unit-index c.args.limit c.loop-unit.number c.loop-unit.invariant.below
    (omega (arith, c.loop-unit.auto.unit-index-end, c.if-digits-limit.false))
