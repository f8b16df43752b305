-- Values' texts, computed of data that was written out by hand.
use Rattle.std.proofs.Common.{◌≡◌, [], ◌∷◌, refl}
use Rattle.std.specs.Prelude.{codes}
use Rattle.std.specs.Fmt.{digits}
use Rattle.std.specs.Char.Utf16.{utf16_chars}
use Rattle.hex.proofs.OnLiterals.{hex_on_literals}
use Rattle.reg_tree_text.specs.ValueTexts.{form_text, value_told}

-- ---- strings

string-ended : value_told 1 (72 ∷ 0 ∷ 105 ∷ 0 ∷ 0 ∷ 0 ∷ []) ≡ codes "Hi"
unfolding form_text utf16_chars lib.Utf8.encode
string-ended = refl

string-not_ended : value_told 1 (72 ∷ 0 ∷ 105 ∷ 0 ∷ []) ≡ codes "Hi"
unfolding form_text utf16_chars lib.Utf8.encode
string-not_ended = refl

string-empty : value_told 1 [] ≡ []
unfolding form_text utf16_chars lib.Utf8.encode
string-empty = refl

string-only_ended : value_told 1 (0 ∷ 0 ∷ []) ≡ []
unfolding form_text utf16_chars lib.Utf8.encode
string-only_ended = refl

-- one zero is left out, and another one is a control character
string-two_zeros : value_told 1 (72 ∷ 0 ∷ 0 ∷ 0 ∷ 0 ∷ 0 ∷ []) ≡ codes "hex:480000000000"
unfolding form_text utf16_chars lib.Utf8.encode hex_on_literals
string-two_zeros = refl

string-zero_within : value_told 1 (72 ∷ 0 ∷ 0 ∷ 0 ∷ 105 ∷ 0 ∷ []) ≡ codes "hex:480000006900"
unfolding form_text utf16_chars lib.Utf8.encode hex_on_literals
string-zero_within = refl

string-odd : value_told 1 (72 ∷ 0 ∷ 105 ∷ []) ≡ codes "hex:480069"
unfolding form_text utf16_chars lib.Utf8.encode hex_on_literals
string-odd = refl

string-expandable : value_told 2 (37 ∷ 0 ∷ 0 ∷ 0 ∷ []) ≡ codes "%"
unfolding form_text utf16_chars lib.Utf8.encode
string-expandable = refl

string-link : value_told 6 (92 ∷ 0 ∷ []) ≡ codes "\\"
unfolding form_text utf16_chars lib.Utf8.encode
string-link = refl

-- the controls U+001F, U+007F, U+0080 and U+009F, and their neighbours U+0020, U+007E and U+00A0
string-low_control : value_told 1 (31 ∷ 0 ∷ []) ≡ codes "hex:1f00"
unfolding form_text utf16_chars lib.Utf8.encode hex_on_literals
string-low_control = refl

string-blank : value_told 1 (32 ∷ 0 ∷ 126 ∷ 0 ∷ []) ≡ codes " ~"
unfolding form_text utf16_chars lib.Utf8.encode
string-blank = refl

string-delete : value_told 1 (127 ∷ 0 ∷ []) ≡ codes "hex:7f00"
unfolding form_text utf16_chars lib.Utf8.encode hex_on_literals
string-delete = refl

string-high_controls : value_told 1 (128 ∷ 0 ∷ 159 ∷ 0 ∷ []) ≡ codes "hex:80009f00"
unfolding form_text utf16_chars lib.Utf8.encode hex_on_literals
string-high_controls = refl

string-behind_controls : value_told 1 (160 ∷ 0 ∷ []) ≡ 194 ∷ 160 ∷ []
unfolding form_text utf16_chars lib.Utf8.encode
string-behind_controls = refl

-- U+00E9, U+20AC, and U+1F600 as a pair of surrogates
string-two_bytes : value_told 1 (233 ∷ 0 ∷ []) ≡ 195 ∷ 169 ∷ []
unfolding form_text utf16_chars lib.Utf8.encode
string-two_bytes = refl

string-three_bytes : value_told 1 (172 ∷ 32 ∷ []) ≡ 226 ∷ 130 ∷ 172 ∷ []
unfolding form_text utf16_chars lib.Utf8.encode
string-three_bytes = refl

string-pair : value_told 1 (61 ∷ 216 ∷ 0 ∷ 222 ∷ []) ≡ 240 ∷ 159 ∷ 152 ∷ 128 ∷ []
unfolding form_text utf16_chars lib.Utf8.encode
string-pair = refl

-- a surrogate alone, and two in the wrong order
string-lone : value_told 1 (61 ∷ 216 ∷ []) ≡ codes "hex:3dd8"
unfolding form_text utf16_chars lib.Utf8.encode hex_on_literals
string-lone = refl

string-turned : value_told 1 (0 ∷ 222 ∷ 61 ∷ 216 ∷ []) ≡ codes "hex:00de3dd8"
unfolding form_text utf16_chars lib.Utf8.encode hex_on_literals
string-turned = refl

-- ---- several strings

strings-two : value_told 7 (97 ∷ 0 ∷ 0 ∷ 0 ∷ 98 ∷ 0 ∷ 0 ∷ 0 ∷ 0 ∷ 0 ∷ []) ≡ codes "a\tb"
unfolding form_text utf16_chars lib.Utf8.encode
strings-two = refl

strings-no_end : value_told 7 (97 ∷ 0 ∷ 0 ∷ 0 ∷ 98 ∷ 0 ∷ 0 ∷ 0 ∷ []) ≡ codes "a\tb"
unfolding form_text utf16_chars lib.Utf8.encode
strings-no_end = refl

strings-none : value_told 7 (0 ∷ 0 ∷ []) ≡ []
unfolding form_text utf16_chars lib.Utf8.encode
strings-none = refl

-- an empty string between two
strings-empty : value_told 7 (97 ∷ 0 ∷ 0 ∷ 0 ∷ 0 ∷ 0 ∷ 98 ∷ 0 ∷ 0 ∷ 0 ∷ 0 ∷ 0 ∷ []) ≡ codes "a\t\tb"
unfolding form_text utf16_chars lib.Utf8.encode
strings-empty = refl

-- a tab of a string's own
strings-tab : value_told 7 (9 ∷ 0 ∷ 0 ∷ 0 ∷ 0 ∷ 0 ∷ []) ≡ codes "hex:090000000000"
unfolding form_text utf16_chars lib.Utf8.encode hex_on_literals
strings-tab = refl

-- ---- numbers

number-low_first : value_told 4 (1 ∷ 2 ∷ 0 ∷ 0 ∷ []) ≡ codes "513"
unfolding form_text digits
number-low_first = refl

number-largest : value_told 4 (255 ∷ 255 ∷ 255 ∷ 255 ∷ []) ≡ codes "4294967295"
unfolding form_text digits
number-largest = refl

number-high_first : value_told 5 (0 ∷ 0 ∷ 2 ∷ 1 ∷ []) ≡ codes "513"
unfolding form_text digits
number-high_first = refl

number-long : value_told 11 (1 ∷ 0 ∷ 0 ∷ 0 ∷ 0 ∷ 0 ∷ 0 ∷ 1 ∷ []) ≡ codes "72057594037927937"
unfolding form_text digits
number-long = refl

number-short : value_told 4 (1 ∷ 2 ∷ 0 ∷ []) ≡ codes "hex:010200"
unfolding form_text hex_on_literals
number-short = refl

number-high_first_short : value_told 5 [] ≡ codes "hex:"
unfolding form_text hex_on_literals
number-high_first_short = refl

number-long_short : value_told 11 (1 ∷ 2 ∷ 3 ∷ 4 ∷ []) ≡ codes "hex:01020304"
unfolding form_text hex_on_literals
number-long_short = refl

-- ---- other types

other-none : value_told 0 [] ≡ codes "hex:"
unfolding form_text hex_on_literals
other-none = refl

other-binary : value_told 3 (72 ∷ 0 ∷ 171 ∷ []) ≡ codes "hex:4800ab"
unfolding form_text hex_on_literals
other-binary = refl

other-list : value_told 8 (1 ∷ []) ≡ codes "hex:01"
unfolding form_text hex_on_literals
other-list = refl
