-- What the digits of a number word say of it.
use Rattle.std.proofs.Common.{◌≡◌, ℕ, suc, ◌+◌, ◌-◌, ◌*◌, ◌<◌, ◌≤◌, true, false, List, [], ◌∷◌, length, get_or, drop, Some, None, refl, sym, ap, ◌∙◌, arith, add-one, drop-cons}
use Rattle.std.proofs.Common.{tests, rules}
use Rattle.std.proofs.lemmas.List.{drop_all}
use Rattle.std.specs.Char.{is_ascii_digit, digit_value}
use Rattle.std.specs.Str.{all_ascii_digits}
use Rattle.std.specs.Str.Parse.{digits_value, digits_value_after}
use Rattle.std.proofs.lemmas.Bool.Decides.{nat_tests}
use Rattle.reg_script.specs.LineWords.{number_of}

-- more digits make no smaller number
digits_grow : (n : ℕ) (word : List ℕ) → n ≤ digits_value_after 10 n word
digits_grow n [] = omega arith
digits_grow n (c ∷ cs) = let more = digits_grow (n * 10 + digit_value c) cs in omega (arith, more)

digit_range : (b : ℕ) → is_ascii_digit b ≡ true → (48 ≤ b) × (b ≤ 57)
digit_range b is = search (rules, tests)

-- a decimal digit's value
digit_is : (b : ℕ) → 48 ≤ b → b ≤ 57 → digit_value b ≡ b - 48
digit_is b low high = grind (arith, nat_tests)

-- the first digit of what is left
pub value_step : (word : List ℕ) (i n : ℕ) → i < length word → 48 ≤ get_or word i 0 → get_or word i 0 ≤ 57
    → digits_value_after 10 n (drop i word) ≡ digits_value_after 10 (n * 10 + (get_or word i 0 - 48)) (drop (i + 1) word)
value_step word i n below low high =
    rw (add-one, drop-cons word i 0)
    (ap (λ d. digits_value_after 10 (n * 10 + d) (drop (suc i) word)) (digit_is (get_or word i 0) low high))

-- ---- where there is no number

pub empty_none : (limit : ℕ) (word : List ℕ) → length word ≡ 0 → number_of limit word ≡ None
unfolding number_of
empty_none limit word empty = rw empty refl

no_digits : (limit : ℕ) (word : List ℕ) → all_ascii_digits word ≡ false → number_of limit word ≡ None
unfolding number_of
no_digits limit word none = grind (arith, nat_tests)

pub digit_none : (limit : ℕ) (word : List ℕ) (i : ℕ) → i < length word → is_ascii_digit (get_or word i 0) ≡ false
    → all_ascii_digits (drop i word) ≡ all_ascii_digits word → number_of limit word ≡ None
digit_none limit word i below is left =
    no_digits limit word (sym left ∙ rw (drop-cons word i 0, is) refl)

pub above_none : (limit : ℕ) (word : List ℕ) → limit < digits_value 10 word → number_of limit word ≡ None
unfolding number_of
above_none limit word above = grind (arith, nat_tests)

-- the digits so far are above the limit already
pub front_none : (limit : ℕ) (word : List ℕ) (i n more : ℕ) → i < length word → is_ascii_digit (get_or word i 0) ≡ true
    → digits_value_after 10 n (drop i word) ≡ digits_value 10 word → more ≤ n * 10 + (get_or word i 0 - 48) → limit < more →
    number_of limit word ≡ None
front_none limit word i n more below is left reach above =
    let range = digit_range (get_or word i 0) is in
    let grown = digits_grow (n * 10 + (get_or word i 0 - 48)) (drop (i + 1) word) in
    let step = value_step word i n below range.0 range.1 in
    above_none limit word (omega (arith, grown, step, left, reach, above))

-- ---- where there is one

pub number_is : (limit : ℕ) (word : List ℕ) → 0 < length word → all_ascii_digits word ≡ true → digits_value 10 word ≤ limit →
    number_of limit word ≡ Some (digits_value 10 word)
unfolding number_of
number_is limit word some digits within = grind (arith, nat_tests)

-- after the last digit
pub digits_end : (word : List ℕ) (i n limit : ℕ) → 0 < length word → length word ≤ i → n ≤ limit →
    all_ascii_digits (drop i word) ≡ all_ascii_digits word
    → digits_value_after 10 n (drop i word) ≡ digits_value 10 word → number_of limit word ≡ Some n
digits_end word i n limit some past within form value =
    let gone = drop_all i word past in
    let digits : all_ascii_digits word ≡ true = sym form ∙ ap (λ w. all_ascii_digits w) gone in
    let is : digits_value 10 word ≡ n = sym value ∙ ap (λ w. digits_value_after 10 n w) gone in
    number_is limit word some digits (omega (arith, is)) ∙ ap Some is

pub above_end : (word : List ℕ) (i n limit : ℕ) → length word ≤ i → limit < n →
    digits_value_after 10 n (drop i word) ≡ digits_value 10 word → limit < digits_value 10 word
above_end word i n limit past above value =
    let is : digits_value 10 word ≡ n = sym value ∙ ap (λ w. digits_value_after 10 n w) (drop_all i word past) in
    omega (arith, is)
