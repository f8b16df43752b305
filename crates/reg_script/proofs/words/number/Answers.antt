use Rattle.std.proofs.Common.{refl, sym, ◌∙◌, ◌*◌, ◌+◌, arith, rules}
use Rattle.reg_script.proofs.NumberWords.{empty_none, digit_none, above_none, front_none, above_end, digits_end}
use Rattle.reg_script.proofs.words.number.Goals as goal

pub returns-then-is_empty-clause-value : goal.returns-then-is_empty-clause-value
returns-then-is_empty-clause-value c = rw (empty_none c.args.limit c.args.word.now (search rules)) refl

pub returns-then-not-is_ascii_digit-clause-value : goal.returns-then-not-is_ascii_digit-clause-value
returns-then-not-is_ascii_digit-clause-value c =
    rw (digit_none c.args.limit c.args.word.now c.loop-byte.byte-index c.loop-byte-test.true
    (sym c.is_ascii_digit.ensures.value ∙ c.if-not-is_ascii_digit.true) c.loop-byte.invariant.form) refl

pub returns-in_default-clause-value : goal.returns-in_default-clause-value
returns-in_default-clause-value c =
    rw (front_none c.args.limit c.args.word.now c.loop-byte.byte-index c.loop-byte.number (c.loop-byte.number * 10) c.loop-byte-test.true
    (sym c.is_ascii_digit.ensures.value ∙ c.if-not-is_ascii_digit.false) c.loop-byte.invariant.value (omega arith)
    (omega (arith, c.in_default.ensures, c.ranges.limit.fits))) refl

pub returns-in_default-checked_add-clause-value : goal.returns-in_default-checked_add-clause-value
returns-in_default-checked_add-clause-value c =
    rw (front_none c.args.limit c.args.word.now c.loop-byte.byte-index c.loop-byte.number
    (c.in-Some.tens + c.from-digit.result) c.loop-byte-test.true (sym c.is_ascii_digit.ensures.value ∙
    c.if-not-is_ascii_digit.false) c.loop-byte.invariant.value (omega (arith, c.in-Some.ensures, c.from-digit.ensures))
    (omega (arith, c.in_default-checked_add.ensures, c.ranges.limit.fits))) refl

pub returns-then-number-limit-clause-value : goal.returns-then-number-limit-clause-value
returns-then-number-limit-clause-value c =
    rw (above_none c.args.limit c.args.word.now
    (above_end c.args.word.now c.loop-byte.byte-index c.loop-byte.number c.args.limit c.loop-byte-test.false c.if-number-limit.true
    c.loop-byte.invariant.value)) refl

pub returns-clause-value : goal.returns-clause-value
returns-clause-value c =
    rw (digits_end c.args.word.now c.loop-byte.byte-index c.loop-byte.number c.args.limit
    (search rules) c.loop-byte-test.false c.if-number-limit.false c.loop-byte.invariant.form c.loop-byte.invariant.value) refl
