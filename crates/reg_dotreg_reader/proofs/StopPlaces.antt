-- How much of a line is left where it stops.
use Rattle.std.proofs.Common.{◌≡◌, ℕ, suc, ◌+◌, ◌-◌, ◌<◌, ◌≤◌, ◌==◌, ◌||◌, not, Bool, true, false, cond, List, [], ◌∷◌, length, get_or, take, drop}
use Rattle.std.proofs.Common.{zero, Some, None, refl, sym, ap, ◌∙◌, arith, length-take, length-drop}
use Rattle.std.specs.Prelude.{Option, option_map}
use Rattle.std.specs.Option.{unwrap_or}
use Rattle.std.specs.List.{slice_split, onto_first, position, position_or_len, suffix_len, before_first}
use Rattle.std.proofs.lemmas.Bool.Decides.{nat_tests}
use Rattle.std.proofs.lemmas.List.Sums.{prefix_len-le-length, suffix_len_is}
use Rattle.reg_text.proofs.AppendedBytes.{rest_is}
use Rattle.reg_dotreg_reader.specs.EntryWords.{behind_blanks, is_comma}
use Rattle.reg_dotreg_reader.specs.LineStops.{Stop, left_from, behind_after, unclosed, is_no_digit, few_digits, counted_stop, number_stop}
use Rattle.reg_dotreg_reader.specs.LineStops.{pieces_length, is_byte_to, left_from_bad, name_wanted, names_stop, is_no_bracket, behind_bracket}
use Rattle.reg_dotreg_reader.specs.declared.expected.Expected.{Expected}
use Rattle.reg_dotreg_reader.specs.declared.expected.Expected.TheVariants as wanted
use Rattle.reg_names.specs.Names.{is_backslash}
use Rattle.reg_dotreg_reader.proofs.DigitLists.{index_is, no_index, split_first, split_last, split_some}

-- ---- from a place on

pub left_some : (p : ℕ → Bool) (units : List ℕ) (at : ℕ) → position p units ≡ Some at → length units - at ≡ left_from p units
left_some p units at e = ap (λ (k : ℕ). length units - k) (index_is (position_or_len p units) (length units) at e).0

pub left_none : (p : ℕ → Bool) (units : List ℕ) → position p units ≡ None → 0 ≡ left_from p units
left_none p units e = let past = no_index (position_or_len p units) (length units) e in omega (arith, past)

-- ---- digits

pub place_some : (units : List ℕ) (at : ℕ) → position is_no_digit units ≡ Some at →
    (at ≡ position_or_len is_no_digit units) × (at ≤ length units)
place_some units at e =
    let found = index_is (position_or_len is_no_digit units) (length units) at e in
    (found.0, let f = found.0 in let w = found.1 in omega (arith, f, w))

pub place_none : (units : List ℕ) → position is_no_digit units ≡ None → length units ≡ position_or_len is_no_digit units
place_none units e =
    let past = no_index (position_or_len is_no_digit units) (length units) e in
    let within = prefix_len-le-length (λ x. not (is_no_digit x)) units in
    omega (arith, past, within)

take_few : (n : ℕ) (units : List ℕ) → length units ≤ n → take n units ≡ units
take_few n [] few = take_none n
  where
    take_none : (n : ℕ) → take {A = ℕ} n [] ≡ []
    take_none zero = refl
    take_none (suc n) = refl
take_few zero (u ∷ us) few = absurd (omega (arith, few))
take_few (suc n) (u ∷ us) few = ap (λ (w : List ℕ). u ∷ w) (take_few n us (omega (arith, few)))

pub digits_few : (units : List ℕ) (count : ℕ) → length units < 8 → count ≡ position_or_len is_no_digit units → count ≡ few_digits units
unfolding few_digits
digits_few units count few is = is ∙ ap (λ (w : List ℕ). position_or_len is_no_digit w) (sym (take_few 8 units (omega (arith, few))))

pub digits_within : (units : List ℕ) (count : ℕ) → count ≤ length (take 8 units) → count ≤ length units
digits_within units count within = let long = length-take 8 units in omega (arith, within, long)

pub number_counted : (digits : List ℕ) (count : ℕ) → count ≡ few_digits digits →
    counted_stop count (take (length digits - count) (drop count digits)) ≡ number_stop digits
unfolding number_stop
number_counted digits count is =
    ap (λ (w : List ℕ). counted_stop count w) (rest_is count digits) ∙ ap (λ (n : ℕ). counted_stop n (drop n digits)) is

-- ---- lists

pub blanks_within : (units : List ℕ) → length (behind_blanks units) ≤ length units
unfolding behind_blanks
blanks_within units = simp length-drop (omega arith)

length_split : (p : ℕ → Bool) (units : List ℕ) → pieces_length (slice_split p units) ≡ suc (length units)
unfolding pieces_length
length_split p [] = refl
length_split p (u ∷ us) = by (p u) (slice_split p us) (length_split p us)
  where
    onto : (pieces : List (List ℕ)) (n : ℕ) → pieces_length pieces ≡ suc n → pieces_length (onto_first u pieces) ≡ suc (suc n)
    onto [] n e = absurd (omega (arith, e))
    onto (piece ∷ pieces) n e = omega (arith, e)

    by : (b : Bool) (pieces : List (List ℕ)) → pieces_length pieces ≡ suc (length us) →
        pieces_length (cond b ([] ∷ pieces) (onto_first u pieces)) ≡ suc (length (u ∷ us))
    by true pieces e = omega (arith, e)
    by false pieces e = onto pieces (length us) e

pieces_step : (most : ℕ) (piece : List ℕ) (pieces : List (List ℕ)) → (pieces ≡ [] → ⊥) →
    left_from_bad most (piece ∷ pieces) ≡
    cond (is_byte_to most piece) (left_from_bad most pieces) (Some (length (behind_blanks piece) + pieces_length pieces))
unfolding left_from_bad
pieces_step most piece [] some = absurd (some refl)
pieces_step most piece (next ∷ pieces) some = refl

split_stop : (most : ℕ) (rest : List ℕ) (comma : ℕ) → position is_comma rest ≡ Some comma →
    left_from_bad most (slice_split is_comma rest) ≡
    cond (is_byte_to most (take comma rest)) (left_from_bad most (slice_split is_comma (drop (comma + 1) rest)))
    (Some (length (behind_blanks (take comma rest)) + pieces_length (slice_split is_comma (drop (comma + 1) rest))))
split_stop most rest comma at =
    ap (left_from_bad most) (split_first is_comma rest comma at)
    ∙ pieces_step most (take comma rest) (slice_split is_comma (drop (comma + 1) rest)) (split_some is_comma (drop (comma + 1) rest))

pub stop_next : (whole : Option ℕ) (most : ℕ) (rest others : List ℕ) (comma : ℕ) (is_byte : Bool) →
    whole ≡ left_from_bad most (slice_split is_comma rest) → position is_comma rest ≡ Some comma →
    is_byte ≡ is_byte_to most (take comma rest) → is_byte ≡ true → others ≡ take (length rest - (comma + 1)) (drop (comma + 1) rest) →
    whole ≡ left_from_bad most (slice_split is_comma others)
stop_next whole most rest others comma is_byte so_far at test fine left =
    so_far ∙ (split_stop most rest comma at
    ∙ (ap (λ (b : Bool). cond b (left_from_bad most (slice_split is_comma (drop (comma + 1) rest)))
    (Some (length (behind_blanks (take comma rest)) + pieces_length (slice_split is_comma (drop (comma + 1) rest))))) (sym test ∙ fine)
    ∙ ap (λ (w : List ℕ). left_from_bad most (slice_split is_comma w)) (sym (left ∙ rest_is (comma + 1) rest))))

pub stop_here : (whole : Option ℕ) (most : ℕ) (rest : List ℕ) (comma blanks left : ℕ) (is_byte : Bool) →
    whole ≡ left_from_bad most (slice_split is_comma rest) → position is_comma rest ≡ Some comma →
    is_byte ≡ is_byte_to most (take comma rest) → is_byte ≡ false → blanks ≡ length (behind_blanks (take comma rest)) →
    left ≡ blanks + (length rest - comma) → Some left ≡ whole
stop_here whole most rest comma blanks left is_byte so_far at test not_byte counted sum =
    sym (so_far ∙ (split_stop most rest comma at
    ∙ (ap (λ (b : Bool). cond b (left_from_bad most (slice_split is_comma (drop (comma + 1) rest)))
    (Some (length (behind_blanks (take comma rest)) + pieces_length (slice_split is_comma (drop (comma + 1) rest))))) (sym test ∙ not_byte)
    ∙ ap (λ (k : ℕ). Some k) same)))
  where
    same : length (behind_blanks (take comma rest)) + pieces_length (slice_split is_comma (drop (comma + 1) rest)) ≡ left
    same =
        let found = index_is (position_or_len is_comma rest) (length rest) comma at in
        let f = found.0 in let w = found.1 in
        let long = length_split is_comma (drop (comma + 1) rest) in
        let gone = length-drop (comma + 1) rest in
        omega (arith, f, w, long, gone, counted, sum)

last_stop : (whole : Option ℕ) (most : ℕ) (rest : List ℕ) → whole ≡ left_from_bad most (slice_split is_comma rest) → position is_comma rest ≡ None →
    whole ≡ cond (length (behind_blanks rest) == 0 || is_byte_to most rest) None (Some (length (behind_blanks rest)))
unfolding left_from_bad
last_stop whole most rest so_far none = so_far ∙ ap (left_from_bad most) (split_last is_comma rest none)

pub stop_blank : (whole : Option ℕ) (most : ℕ) (rest : List ℕ) (last : ℕ) → whole ≡ left_from_bad most (slice_split is_comma rest) →
    position is_comma rest ≡ None → last ≡ length (behind_blanks rest) → last ≡ 0 → None ≡ whole
stop_blank whole most rest last so_far none is nothing =
    sym (last_stop whole most rest so_far none ∙
    ap (λ (n : ℕ). cond (n == 0 || is_byte_to most rest) None (Some (length (behind_blanks rest)))) (sym is ∙ nothing))

pub stop_byte : (whole : Option ℕ) (most : ℕ) (rest : List ℕ) (is_byte : Bool) → whole ≡ left_from_bad most (slice_split is_comma rest) →
    position is_comma rest ≡ None → is_byte ≡ is_byte_to most rest → is_byte ≡ true → None ≡ whole
stop_byte whole most rest is_byte so_far none test fine =
    sym (last_stop whole most rest so_far none ∙ by (length (behind_blanks rest) == 0) (is_byte_to most rest) (sym test ∙ fine))
  where
    by : (a b : Bool) → b ≡ true → cond (a || b) None (Some (length (behind_blanks rest))) ≡ None
    by true b e = refl
    by false true e = refl
    by false false e = absurd cc

pub stop_last : (whole : Option ℕ) (most : ℕ) (rest : List ℕ) (last : ℕ) (is_byte : Bool) → whole ≡ left_from_bad most (slice_split is_comma rest) →
    position is_comma rest ≡ None → last ≡ length (behind_blanks rest) → (last ≡ 0 → ⊥) → is_byte ≡ is_byte_to most rest → is_byte ≡ false →
    Some last ≡ whole
stop_last whole most rest last is_byte so_far none is some test not_byte =
    sym (last_stop whole most rest so_far none
    ∙ (by (length (behind_blanks rest) == 0) (is_byte_to most rest) not_none (sym test ∙ not_byte) ∙ ap (λ (k : ℕ). Some k) (sym is)))
  where
    not_none : (length (behind_blanks rest) == 0) ≡ false
    not_none = grind (arith, nat_tests, is, some)

    by : (a b : Bool) → a ≡ false → b ≡ false → cond (a || b) None (Some (length (behind_blanks rest))) ≡
        (Some (length (behind_blanks rest)))
    by true b e f = absurd cc
    by false true e f = absurd cc
    by false false e f = refl

-- ---- keys

-- what is told of a name of some length, with so many units left, by what is told of the names behind it
abbrev name_or : (room long left : ℕ) → (behind : Stop) → Stop
name_or room long left behind = unwrap_or (option_map (λ (expected : Expected). (expected, left)) (name_wanted room long)) behind

names_first : (room : ℕ) (rest : List ℕ) (end : ℕ) → position is_backslash rest ≡ Some end →
    names_stop room (slice_split is_backslash rest) ≡
    name_or room end (length rest) (names_stop (room - 1) (slice_split is_backslash (drop (end + 1) rest)))
unfolding names_stop
names_first room rest end at =
    let found = index_is (position_or_len is_backslash rest) (length rest) end at in
    let f = found.0 in let w = found.1 in
    let long = length_split is_backslash (drop (end + 1) rest) in
    let gone = length-drop (end + 1) rest in
    let front = length-take end rest in
    let name : length (take end rest) ≡ end = omega (arith, f, w, front) in
    let left : length (take end rest) + pieces_length (slice_split is_backslash (drop (end + 1) rest)) ≡ length rest = omega (arith, f, w, long, gone, front) in
    let behind = names_stop (room - 1) (slice_split is_backslash (drop (end + 1) rest)) in
    ap (names_stop room) (split_first is_backslash rest end at)
    ∙ (ap (λ (n : ℕ). name_or room (length (take end rest)) n behind) left ∙ ap (λ (n : ℕ). name_or room n (length rest) behind) name)

pub names_next : (whole : Stop) (room less : ℕ) (rest others : List ℕ) (end : ℕ) → whole ≡ names_stop room (slice_split is_backslash rest) →
    position is_backslash rest ≡ Some end → name_wanted room end ≡ None →
    less ≡ room - 1 → others ≡ take (length rest - (end + 1)) (drop (end + 1) rest) → whole ≡ names_stop less (slice_split is_backslash others)
names_next whole room less rest others end so_far at fine fewer left =
    so_far ∙ (names_first room rest end at
    ∙ (ap (λ (o : Option Expected). unwrap_or (option_map (λ (expected : Expected). (expected, length rest)) o)
    (names_stop (room - 1) (slice_split is_backslash (drop (end + 1) rest)))) fine
    ∙ (ap (λ (w : List ℕ). names_stop (room - 1) (slice_split is_backslash w)) (sym (left ∙ rest_is (end + 1) rest))
    ∙ ap (λ (n : ℕ). names_stop n (slice_split is_backslash others)) (sym fewer))))

pub names_here : (whole : Stop) (room : ℕ) (rest : List ℕ) (end : ℕ) (expected : Expected) →
    whole ≡ names_stop room (slice_split is_backslash rest) → position is_backslash rest ≡ Some end → name_wanted room end ≡ Some expected →
    (expected, length rest) ≡ whole
names_here whole room rest end expected so_far at told =
    sym (so_far ∙ (names_first room rest end at
    ∙ ap (λ (o : Option Expected). unwrap_or (option_map (λ (expected : Expected). (expected, length rest)) o)
    (names_stop (room - 1) (slice_split is_backslash (drop (end + 1) rest)))) told))

names_last : (whole : Stop) (room : ℕ) (rest : List ℕ) → whole ≡ names_stop room (slice_split is_backslash rest) →
    position is_backslash rest ≡ None → whole ≡ name_or room (length rest) (length rest) (wanted.Path, 0)
unfolding names_stop pieces_length
names_last whole room rest so_far none =
    let left : length rest + 0 ≡ length rest = omega arith in
    so_far ∙ (ap (names_stop room) (split_last is_backslash rest none) ∙ ap (λ (n : ℕ). name_or room (length rest) n (wanted.Path, 0)) left)

pub names_end : (whole : Stop) (room : ℕ) (rest : List ℕ) (expected : Expected) → whole ≡ names_stop room (slice_split is_backslash rest) →
    position is_backslash rest ≡ None → name_wanted room (length rest) ≡ Some expected → (expected, length rest) ≡ whole
names_end whole room rest expected so_far none told =
    sym (names_last whole room rest so_far none
    ∙ ap (λ (o : Option Expected). unwrap_or (option_map (λ (expected : Expected). (expected, length rest)) o) (wanted.Path, 0)) told)

pub names_fine : (whole : Stop) (room : ℕ) (rest : List ℕ) → whole ≡ names_stop room (slice_split is_backslash rest) →
    position is_backslash rest ≡ None → name_wanted room (length rest) ≡ None → (wanted.Path, 0) ≡ whole
names_fine whole room rest so_far none fine =
    sym (names_last whole room rest so_far none
    ∙ ap (λ (o : Option Expected). unwrap_or (option_map (λ (expected : Expected). (expected, length rest)) o) (wanted.Path, 0)) fine)

-- the last bracket
pub bracket_is : (line : List ℕ) (n : ℕ) → n ≤ length line → ((k : ℕ) → n ≤ k → k < length line → is_no_bracket (get_or line k 0) ≡ true) →
    (0 < n → is_no_bracket (get_or line (n - 1) 0) ≡ false) → take (length line - n) (drop n line) ≡ behind_bracket line
unfolding behind_bracket
bracket_is line n within here stops =
    let count = suffix_len_is is_no_bracket line n 0 within here stops in
    let same : n ≡ length line - suffix_len is_no_bracket line = omega (arith, count) in
    rest_is n line ∙ ap (λ (k : ℕ). drop k line) same

-- ---- quotes

pub unclosed_next : (whole : Stop) (left : ℕ) (rest us : List ℕ) (u : ℕ) (behind after : Bool) → whole ≡ unclosed left behind rest → rest ≡ u ∷ us →
    behind_after behind u ≡ Some after → whole ≡ unclosed left after us
unfolding unclosed
unclosed_next whole left rest us u behind after so_far e is =
    so_far ∙ (ap (unclosed left behind) e
    ∙ ap (λ (o : Option Bool). unwrap_or (option_map (λ t. unclosed left t us) o) (wanted.Escaped, left + suc (length us))) is)

pub unclosed_here : (whole : Stop) (left : ℕ) (rest us : List ℕ) (u : ℕ) (behind : Bool) → whole ≡ unclosed left behind rest → rest ≡ u ∷ us →
    behind_after behind u ≡ None → (wanted.Escaped, left + length rest) ≡ whole
unfolding unclosed
unclosed_here whole left rest us u behind so_far e is =
    sym (so_far ∙ (ap (unclosed left behind) e
    ∙ (ap (λ (o : Option Bool). unwrap_or (option_map (λ t. unclosed left t us) o) (wanted.Escaped, left + suc (length us))) is
    ∙ ap (λ (w : List ℕ). (wanted.Escaped, left + length w)) (sym e))))

pub unclosed_end : (whole : Stop) (left : ℕ) (rest : List ℕ) (behind : Bool) → whole ≡ unclosed left behind rest → length rest ≡ 0 →
    (wanted.Quote, left) ≡ whole
unfolding unclosed
unclosed_end whole left [] behind so_far e = sym so_far
unclosed_end whole left (u ∷ us) behind so_far e = absurd (omega (arith, e))

-- a text's front, with what is left behind it, is no longer than the text
pub feed_within : (p : ℕ → Bool) (text first : List ℕ) (left : ℕ) → left ≡ left_from p text → first ≡ before_first p text →
    left + length first ≤ length text
feed_within p text first left is front =
    let long = ap (λ (w : List ℕ). length w) front ∙ length-take (position_or_len p text) text in
    omega (arith, is, long)

pub ruleset quotes_left = (unclosed_next, unclosed_here, unclosed_end)

pub ruleset places_left = (left_some, left_none)

pub ruleset digit_places = (place_some, place_none)

pub ruleset few_at_start = (digits_few, digits_within)

pub ruleset pieces_left = (stop_next, stop_here, stop_blank, stop_byte, stop_last)

pub ruleset names_left = (names_next, names_here, names_end, names_fine)
