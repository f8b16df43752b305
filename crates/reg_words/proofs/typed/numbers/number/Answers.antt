use Rattle.std.proofs.Common.{◌<◌, arith, sym}
use Rattle.reg_words.proofs.Digits.{digit_next, digits_grow, digits_fit, product_fits}
use Rattle.reg_words.proofs.typed.numbers.number.Goals as goal

pub overflow_mul-number : goal.overflow_mul-number
overflow_mul-number c =
    let few : c.loop-byte.byte-index < 20 = omega (arith, c.loop-byte-test.true, c.if-digits-gt-DIGITS_LIMIT.false) in
    let fits = product_fits c.args.base c.loop-byte.byte-index c.loop-byte.number c.requires c.loop-byte.invariant.below few in
    omega (arith, fits)

pub overflow_add-number : goal.overflow_add-number
overflow_add-number c =
    let few : c.loop-byte.byte-index < 20 = omega (arith, c.loop-byte-test.true, c.if-digits-gt-DIGITS_LIMIT.false) in
    let fits =
    digits_fit c.args.base c.loop-byte.byte-index c.loop-byte.number c.in_ok-value.value c.requires c.loop-byte.invariant.below few
    c.in_ok-value.ensures.below in
    omega (arith, fits)

pub loop-byte-preserved : goal.loop-byte-preserved
loop-byte-preserved c = record {
  value =
      digit_next _ c.args.base c.args.digits.now c.loop-byte.byte-index c.loop-byte.number c.in_ok-value.value c.loop-byte.invariant.value
      c.loop-byte-test.true (sym c.in_ok-value.ensures.value);
  below =
      digits_grow c.args.base c.loop-byte.byte-index c.loop-byte.number c.in_ok-value.value c.requires c.loop-byte.invariant.below
      c.in_ok-value.ensures.below;
}
