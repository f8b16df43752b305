-- Values' data in JSON, computed of bytes that were written out by hand.
use Rattle.std.proofs.Common.{◌≡◌, List, ℕ, [], ◌∷◌, refl}
use Rattle.std.specs.Prelude.{codes}
use Rattle.std.specs.Char.Utf16.{utf16_chars}
use Rattle.std.specs.Fmt.{digits}
use Rattle.hex.proofs.OnLiterals.{hex_on_literals}
use Rattle.serde_json.specs.Data.{Data, number, unsigned, string, array, object, member, no_members, item, no_items}
use Rattle.reg_tables.specs.ValueForms.{form_data, data_of}

-- bytes in no form
abbrev hex : List ℕ → Data
hex digits = object (member (codes "hex") (string digits) no_members)

-- ---- strings

string-ended : data_of 1 (72 ∷ 0 ∷ 105 ∷ 0 ∷ 0 ∷ 0 ∷ []) ≡ string (codes "Hi")
unfolding form_data utf16_chars lib.Utf8.encode
string-ended = refl

string-empty : data_of 1 (0 ∷ 0 ∷ []) ≡ string []
unfolding form_data utf16_chars lib.Utf8.encode
string-empty = refl

string-expandable : data_of 2 (37 ∷ 0 ∷ 0 ∷ 0 ∷ []) ≡ string (codes "%")
unfolding form_data utf16_chars lib.Utf8.encode
string-expandable = refl

string-link : data_of 6 (92 ∷ 0 ∷ 0 ∷ 0 ∷ []) ≡ string (92 ∷ [])
unfolding form_data utf16_chars lib.Utf8.encode
string-link = refl

-- a tab stays, and U+1F600 is two units and four bytes
string-tab : data_of 1 (9 ∷ 0 ∷ 61 ∷ 216 ∷ 0 ∷ 222 ∷ 0 ∷ 0 ∷ []) ≡ string (9 ∷ 240 ∷ 159 ∷ 152 ∷ 128 ∷ [])
unfolding form_data utf16_chars lib.Utf8.encode
string-tab = refl

-- without a zero, without a unit, with two zeros, with one within, with a byte alone, with half a pair
string-not_ended : data_of 1 (72 ∷ 0 ∷ []) ≡ hex (codes "4800")
unfolding form_data utf16_chars lib.Utf8.encode hex_on_literals
string-not_ended = refl

string-no_unit : data_of 1 [] ≡ hex []
unfolding form_data utf16_chars lib.Utf8.encode hex_on_literals
string-no_unit = refl

string-two_zeros : data_of 1 (72 ∷ 0 ∷ 0 ∷ 0 ∷ 0 ∷ 0 ∷ []) ≡ hex (codes "480000000000")
unfolding form_data utf16_chars lib.Utf8.encode hex_on_literals
string-two_zeros = refl

string-zero_within : data_of 1 (72 ∷ 0 ∷ 0 ∷ 0 ∷ 105 ∷ 0 ∷ 0 ∷ 0 ∷ []) ≡ hex (codes "4800000069000000")
unfolding form_data utf16_chars lib.Utf8.encode hex_on_literals
string-zero_within = refl

string-odd : data_of 1 (72 ∷ 0 ∷ 0 ∷ 0 ∷ 0 ∷ []) ≡ hex (codes "4800000000")
unfolding form_data utf16_chars lib.Utf8.encode hex_on_literals
string-odd = refl

string-half_a_pair : data_of 1 (0 ∷ 216 ∷ 0 ∷ 0 ∷ []) ≡ hex (codes "00d80000")
unfolding form_data utf16_chars lib.Utf8.encode hex_on_literals
string-half_a_pair = refl

-- ---- several strings

strings-two : data_of 7 (97 ∷ 0 ∷ 0 ∷ 0 ∷ 98 ∷ 0 ∷ 99 ∷ 0 ∷ 0 ∷ 0 ∷ 0 ∷ 0 ∷ []) ≡ array (item (string (codes "a")) (item (string (codes "bc")) no_items))
unfolding form_data utf16_chars lib.Utf8.encode
strings-two = refl

strings-none : data_of 7 (0 ∷ 0 ∷ []) ≡ array no_items
unfolding form_data utf16_chars lib.Utf8.encode
strings-none = refl

-- one zero too few, and one too many; an empty string; no unit
strings-few : data_of 7 (97 ∷ 0 ∷ 0 ∷ 0 ∷ []) ≡ hex (codes "61000000")
unfolding form_data utf16_chars lib.Utf8.encode hex_on_literals
strings-few = refl

strings-many : data_of 7 (97 ∷ 0 ∷ 0 ∷ 0 ∷ 0 ∷ 0 ∷ 0 ∷ 0 ∷ []) ≡ hex (codes "6100000000000000")
unfolding form_data utf16_chars lib.Utf8.encode hex_on_literals
strings-many = refl

strings-empty_first : data_of 7 (0 ∷ 0 ∷ 97 ∷ 0 ∷ 0 ∷ 0 ∷ 0 ∷ 0 ∷ []) ≡ hex (codes "0000610000000000")
unfolding form_data utf16_chars lib.Utf8.encode hex_on_literals
strings-empty_first = refl

strings-no_unit : data_of 7 [] ≡ hex []
unfolding form_data utf16_chars lib.Utf8.encode hex_on_literals
strings-no_unit = refl

-- ---- numbers

number-low : data_of 4 (1 ∷ 2 ∷ 0 ∷ 0 ∷ []) ≡ number (unsigned 513)
unfolding form_data
number-low = refl

number-high : data_of 5 (1 ∷ 2 ∷ 0 ∷ 0 ∷ []) ≡ number (unsigned 16_908_288)
unfolding form_data
number-high = refl

number-long : data_of 11 (0 ∷ 1 ∷ 0 ∷ 0 ∷ 0 ∷ 0 ∷ 0 ∷ 128 ∷ []) ≡ string (codes "9223372036854776064")
unfolding form_data digits
number-long = refl

-- 2^53 + 1, which a reader that keeps numbers as floats would change; and none
number-long_odd : data_of 11 (1 ∷ 0 ∷ 0 ∷ 0 ∷ 0 ∷ 0 ∷ 32 ∷ 0 ∷ []) ≡ string (codes "9007199254740993")
unfolding form_data digits
number-long_odd = refl

number-long_zero : data_of 11 (0 ∷ 0 ∷ 0 ∷ 0 ∷ 0 ∷ 0 ∷ 0 ∷ 0 ∷ []) ≡ string (codes "0")
unfolding form_data digits
number-long_zero = refl

-- the greatest number of 4 bytes stays a number
number-greatest : data_of 4 (255 ∷ 255 ∷ 255 ∷ 255 ∷ []) ≡ number (unsigned 4_294_967_295)
unfolding form_data
number-greatest = refl

number-short : data_of 4 (1 ∷ 2 ∷ 3 ∷ []) ≡ hex (codes "010203")
unfolding form_data hex_on_literals
number-short = refl

number-long_short : data_of 11 (1 ∷ 2 ∷ 3 ∷ 4 ∷ []) ≡ hex (codes "01020304")
unfolding form_data hex_on_literals
number-long_short = refl

-- ---- other types

bytes : data_of 3 (1 ∷ 171 ∷ []) ≡ hex (codes "01ab")
unfolding form_data hex_on_literals
bytes = refl

none : data_of 0 [] ≡ hex []
unfolding form_data hex_on_literals
none = refl
