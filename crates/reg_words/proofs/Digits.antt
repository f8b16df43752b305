-- Numbers, digit by digit.
use Rattle.std.proofs.Common.{◌≡◌, ◌∙◌, ℕ, ◌+◌, ◌*◌, ◌<◌, ◌≤◌, ◌^◌, List, length, get_or, drop, Option, Some, None, refl, ap}
use Rattle.std.proofs.Common.{arith, add-one, drop-cons}
use Rattle.std.specs.Prelude.{option_and_then}
use Rattle.std.proofs.Math.Nat.{pow-succ', pow-le-pow_right, mul-le-mul_left}
use Rattle.std.proofs.lemmas.Bool.Decides.{nat_tests}
use Rattle.std.proofs.lemmas.List.{drop_all}
use Rattle.reg_words.specs.ChangeWords.{digit_of, number_after, digits_number}

pub number_empty : (base : ℕ) (digits : List ℕ) → length digits ≡ 0 → digits_number base digits ≡ None
unfolding digits_number
number_empty base digits e = rw e refl

pub number_long : (base : ℕ) (digits : List ℕ) → 20 < length digits → digits_number base digits ≡ None
unfolding digits_number
number_long base digits past = grind (arith, nat_tests)

-- a number of digits that are not too many is that of all of them
number_is : (base : ℕ) (digits : List ℕ) → 0 < length digits → length digits ≤ 20 → digits_number base digits ≡ number_after base 0 digits
unfolding digits_number
number_is base digits some within = grind (arith, nat_tests)

digit_step : (base : ℕ) (digits : List ℕ) (i n : ℕ) → i < length digits →
    number_after base n (drop i digits)
    ≡ option_and_then (λ v. number_after base (n * base + v) (drop (i + 1) digits)) (digit_of base (get_or digits i 0))
unfolding number_after
digit_step base digits i n below = rw (add-one, drop-cons digits i 0) refl

pub digit_next : (found : Option ℕ) (base : ℕ) (digits : List ℕ) (i n v : ℕ) → found ≡ number_after base n (drop i digits) →
    i < length digits → digit_of base (get_or digits i 0) ≡ Some v → found ≡ number_after base (n * base + v) (drop (i + 1) digits)
digit_next found base digits i n v so_far below is =
    so_far ∙ (digit_step base digits i n below ∙
    ap (λ (o : Option ℕ). option_and_then (λ w. number_after base (n * base + w) (drop (i + 1) digits)) o) is)

pub digit_none : (base : ℕ) (digits : List ℕ) (i n : ℕ) → number_after base 0 digits ≡ number_after base n (drop i digits) →
    i < length digits → length digits ≤ 20 → digit_of base (get_or digits i 0) ≡ None → digits_number base digits ≡ None
digit_none base digits i n so_far below within is =
    number_is base digits (omega (arith, below)) within ∙ (so_far ∙ (digit_step base digits i n below ∙
    ap (λ (o : Option ℕ). option_and_then (λ w. number_after base (n * base + w) (drop (i + 1) digits)) o) is))

pub digits_end : (base : ℕ) (digits : List ℕ) (i n : ℕ) → number_after base 0 digits ≡ number_after base n (drop i digits) →
    0 < length digits → length digits ≤ 20 → length digits ≤ i → digits_number base digits ≡ Some n
unfolding number_after
digits_end base digits i n so_far some within past =
    number_is base digits some within ∙ (so_far ∙ ap (number_after base n) (drop_all i digits past))

-- ---- how large they are

-- a digit more
pub digits_grow : (base i n v : ℕ) → base ≤ 16 → n < 16 ^ i → v < base → n * base + v < 16 ^ (i + 1)
digits_grow base i n v small below digit =
    let more = mul-le-mul_left n small in
    rw (add-one, pow-succ') (omega (arith, more, small, below, digit))

-- fewer than 20 digits leave room for one more
pub digits_fit : (base i n v : ℕ) → base ≤ 16 → n < 16 ^ i → i < 20 → v < base → n * base + v < 340282366920938463463374607431768211456
digits_fit base i n v small below few digit =
    let grown = digits_grow base i n v small below digit in
    let within : i + 1 ≤ 20 = omega (arith, few) in
    let most : 16 ^ (i + 1) ≤ 16 ^ 20 = pow-le-pow_right {n = 16} (omega arith) within in
    let all : 16 ^ (i + 1) ≤ 1208925819614629174706176 = most in
    omega (arith, grown, all)

pub product_fits : (base i n : ℕ) → base ≤ 16 → n < 16 ^ i → i < 20 → n * base < 340282366920938463463374607431768211456
product_fits base i n small below few =
    let more = mul-le-mul_left n small in
    let within : i ≤ 20 = omega (arith, few) in
    let most : 16 ^ i ≤ 16 ^ 20 = pow-le-pow_right {n = 16} (omega arith) within in
    let all : 16 ^ i ≤ 1208925819614629174706176 = most in
    omega (arith, more, below, all)

pub ruleset numbers = (number_empty, number_long, digit_none, digit_next, digits_end)
