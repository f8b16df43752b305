-- Entries of values, computed of data that was written out by hand.
use Rattle.std.proofs.Common.{◌≡◌, ℕ, List, [], ◌∷◌, ◌++◌, refl}
use Rattle.std.specs.Prelude.{codes}
use Rattle.std.specs.Fmt.{digits}
use Rattle.std.specs.Char.Utf16.{utf16_chars}
use Rattle.hex.proofs.OnLiterals.{hex_on_literals}
use Rattle.reg_dotreg_writer.specs.EntryTexts.{quoted, hex_from, hex_head, plain_data, value_entry}

-- ---- names

name-plain : value_entry (codes "Version") 4 (1 ∷ 0 ∷ 0 ∷ 0 ∷ []) ≡ codes "\"Version\"=dword:00000001\r\n"
unfolding quoted hex_from hex_head plain_data digits utf16_chars hex_on_literals
name-plain = refl

name-default : value_entry [] 4 (1 ∷ 0 ∷ 0 ∷ 0 ∷ []) ≡ codes "@=dword:00000001\r\n"
unfolding quoted hex_from hex_head plain_data digits utf16_chars hex_on_literals
name-default = refl

-- a name that is itself an @
name-at : value_entry (codes "@") 4 (1 ∷ 0 ∷ 0 ∷ 0 ∷ []) ≡ codes "\"@\"=dword:00000001\r\n"
unfolding quoted hex_from hex_head plain_data digits utf16_chars hex_on_literals
name-at = refl

-- a backslash and a quote
name-escaped : value_entry (codes "a\\b\"c") 4 (1 ∷ 0 ∷ 0 ∷ 0 ∷ []) ≡ codes "\"a\\\\b\\\"c\"=dword:00000001\r\n"
unfolding quoted hex_from hex_head plain_data digits utf16_chars hex_on_literals
name-escaped = refl

-- ---- strings

string-plain : value_entry [] 1 (116 ∷ 0 ∷ 101 ∷ 0 ∷ 120 ∷ 0 ∷ 116 ∷ 0 ∷ 0 ∷ 0 ∷ []) ≡ codes "@=\"text\"\r\n"
unfolding quoted hex_from hex_head plain_data digits utf16_chars hex_on_literals
string-plain = refl

string-empty : value_entry [] 1 (0 ∷ 0 ∷ []) ≡ codes "@=\"\"\r\n"
unfolding quoted hex_from hex_head plain_data digits utf16_chars hex_on_literals
string-empty = refl

string-escaped : value_entry [] 1 (92 ∷ 0 ∷ 34 ∷ 0 ∷ 0 ∷ 0 ∷ []) ≡ codes "@=\"\\\\\\\"\"\r\n"
unfolding quoted hex_from hex_head plain_data digits utf16_chars hex_on_literals
string-escaped = refl

-- data without units, without the zero, with one more, with one within, and of an odd number of bytes
string-none : value_entry [] 1 [] ≡ codes "@=hex(1):\r\n"
unfolding quoted hex_from hex_head plain_data digits utf16_chars hex_on_literals
string-none = refl

string-open : value_entry [] 1 (72 ∷ 0 ∷ []) ≡ codes "@=hex(1):48,00\r\n"
unfolding quoted hex_from hex_head plain_data digits utf16_chars hex_on_literals
string-open = refl

string-two_zeros : value_entry [] 1 (72 ∷ 0 ∷ 0 ∷ 0 ∷ 0 ∷ 0 ∷ []) ≡ codes "@=hex(1):48,00,00,00,00,00\r\n"
unfolding quoted hex_from hex_head plain_data digits utf16_chars hex_on_literals
string-two_zeros = refl

string-zero_within : value_entry [] 1 (72 ∷ 0 ∷ 0 ∷ 0 ∷ 73 ∷ 0 ∷ 0 ∷ 0 ∷ []) ≡ codes "@=hex(1):48,00,00,00,49,00,00,00\r\n"
unfolding quoted hex_from hex_head plain_data digits utf16_chars hex_on_literals
string-zero_within = refl

string-odd : value_entry [] 1 (72 ∷ 0 ∷ 0 ∷ 0 ∷ 0 ∷ []) ≡ codes "@=hex(1):48,00,00,00,00\r\n"
unfolding quoted hex_from hex_head plain_data digits utf16_chars hex_on_literals
string-odd = refl

-- a CR, an LF, and their neighbours
string-return : value_entry [] 1 (13 ∷ 0 ∷ 0 ∷ 0 ∷ []) ≡ codes "@=hex(1):0d,00,00,00\r\n"
unfolding quoted hex_from hex_head plain_data digits utf16_chars hex_on_literals
string-return = refl

string-feed : value_entry [] 1 (10 ∷ 0 ∷ 0 ∷ 0 ∷ []) ≡ codes "@=hex(1):0a,00,00,00\r\n"
unfolding quoted hex_from hex_head plain_data digits utf16_chars hex_on_literals
string-feed = refl

string-neighbours : value_entry [] 1 (9 ∷ 0 ∷ 11 ∷ 0 ∷ 12 ∷ 0 ∷ 14 ∷ 0 ∷ 0 ∷ 0 ∷ []) ≡ codes "@=\"" ++ (9 ∷ 11 ∷ 12 ∷ 14 ∷ codes "\"\r\n")
unfolding quoted hex_from hex_head plain_data digits utf16_chars hex_on_literals
string-neighbours = refl

-- U+1F600 as a pair, its first half alone, its second one, and the two turned
string-pair : value_entry [] 1 (61 ∷ 216 ∷ 0 ∷ 222 ∷ 0 ∷ 0 ∷ []) ≡ codes "@=\"" ++ (55357 ∷ 56832 ∷ codes "\"\r\n")
unfolding quoted hex_from hex_head plain_data digits utf16_chars hex_on_literals
string-pair = refl

string-lone_high : value_entry [] 1 (61 ∷ 216 ∷ 0 ∷ 0 ∷ []) ≡ codes "@=hex(1):3d,d8,00,00\r\n"
unfolding quoted hex_from hex_head plain_data digits utf16_chars hex_on_literals
string-lone_high = refl

string-lone_low : value_entry [] 1 (0 ∷ 222 ∷ 0 ∷ 0 ∷ []) ≡ codes "@=hex(1):00,de,00,00\r\n"
unfolding quoted hex_from hex_head plain_data digits utf16_chars hex_on_literals
string-lone_low = refl

string-turned : value_entry [] 1 (0 ∷ 222 ∷ 61 ∷ 216 ∷ 0 ∷ 0 ∷ []) ≡ codes "@=hex(1):00,de,3d,d8,00,00\r\n"
unfolding quoted hex_from hex_head plain_data digits utf16_chars hex_on_literals
string-turned = refl

-- the neighbours of the surrogates, U+D7FF and U+E000
string-edges : value_entry [] 1 (255 ∷ 215 ∷ 0 ∷ 224 ∷ 0 ∷ 0 ∷ []) ≡ codes "@=\"" ++ (55295 ∷ 57344 ∷ codes "\"\r\n")
unfolding quoted hex_from hex_head plain_data digits utf16_chars hex_on_literals
string-edges = refl

-- ---- numbers

number-high_first : value_entry (codes "n") 4 (120 ∷ 86 ∷ 52 ∷ 18 ∷ []) ≡ codes "\"n\"=dword:12345678\r\n"
unfolding quoted hex_from hex_head plain_data digits utf16_chars hex_on_literals
number-high_first = refl

number-largest : value_entry (codes "n") 4 (255 ∷ 255 ∷ 255 ∷ 255 ∷ []) ≡ codes "\"n\"=dword:ffffffff\r\n"
unfolding quoted hex_from hex_head plain_data digits utf16_chars hex_on_literals
number-largest = refl

-- three bytes, five, and none
number-short : value_entry (codes "n") 4 (1 ∷ 0 ∷ 0 ∷ []) ≡ codes "\"n\"=hex(4):01,00,00\r\n"
unfolding quoted hex_from hex_head plain_data digits utf16_chars hex_on_literals
number-short = refl

number-long : value_entry (codes "n") 4 (1 ∷ 0 ∷ 0 ∷ 0 ∷ 0 ∷ []) ≡ codes "\"n\"=hex(4):01,00,00,00,00\r\n"
unfolding quoted hex_from hex_head plain_data digits utf16_chars hex_on_literals
number-long = refl

number-none : value_entry (codes "n") 4 [] ≡ codes "\"n\"=hex(4):\r\n"
unfolding quoted hex_from hex_head plain_data digits utf16_chars hex_on_literals
number-none = refl

-- ---- bytes

bytes-none : value_entry (codes "b") 3 [] ≡ codes "\"b\"=hex:\r\n"
unfolding quoted hex_from hex_head plain_data digits utf16_chars hex_on_literals
bytes-none = refl

bytes-one : value_entry (codes "b") 3 (171 ∷ []) ≡ codes "\"b\"=hex:ab\r\n"
unfolding quoted hex_from hex_head plain_data digits utf16_chars hex_on_literals
bytes-one = refl

bytes-type_0 : value_entry (codes "b") 0 (1 ∷ 2 ∷ []) ≡ codes "\"b\"=hex(0):01,02\r\n"
unfolding quoted hex_from hex_head plain_data digits utf16_chars hex_on_literals
bytes-type_0 = refl

bytes-expandable : value_entry (codes "b") 2 (37 ∷ 0 ∷ 0 ∷ 0 ∷ []) ≡ codes "\"b\"=hex(2):25,00,00,00\r\n"
unfolding quoted hex_from hex_head plain_data digits utf16_chars hex_on_literals
bytes-expandable = refl

bytes-strings : value_entry (codes "b") 7 (0 ∷ 0 ∷ []) ≡ codes "\"b\"=hex(7):00,00\r\n"
unfolding quoted hex_from hex_head plain_data digits utf16_chars hex_on_literals
bytes-strings = refl

bytes-type_11 : value_entry (codes "b") 11 (1 ∷ 0 ∷ 0 ∷ 0 ∷ 0 ∷ 0 ∷ 0 ∷ 0 ∷ []) ≡ codes "\"b\"=hex(b):01,00,00,00,00,00,00,00\r\n"
unfolding quoted hex_from hex_head plain_data digits utf16_chars hex_on_literals
bytes-type_11 = refl

bytes-type_16 : value_entry (codes "b") 16 (1 ∷ []) ≡ codes "\"b\"=hex(10):01\r\n"
unfolding quoted hex_from hex_head plain_data digits utf16_chars hex_on_literals
bytes-type_16 = refl

bytes-last_type : value_entry (codes "b") 4294967295 (1 ∷ []) ≡ codes "\"b\"=hex(ffffffff):01\r\n"
unfolding quoted hex_from hex_head plain_data digits utf16_chars hex_on_literals
bytes-last_type = refl

-- 25 bytes are one row, 26 are two, and 51 are three
abbrev some_bytes : List ℕ
some_bytes = 0 ∷ 1 ∷ 2 ∷ 3 ∷ 4 ∷ 5 ∷ 6 ∷ 7 ∷ 8 ∷ 9 ∷ 10 ∷ 11 ∷ 12 ∷ 13 ∷ 14 ∷ 15 ∷ 16 ∷ 17 ∷ 18 ∷ 19 ∷ 20 ∷ 21 ∷ 22 ∷ 23 ∷ 24 ∷ []

abbrev their_digits : List ℕ
their_digits = codes "00,01,02,03,04,05,06,07,08,09,0a,0b,0c,0d,0e,0f,10,11,12,13,14,15,16,17,18"

bytes-row : value_entry (codes "b") 3 some_bytes ≡ codes "\"b\"=hex:" ++ (their_digits ++ codes "\r\n")
unfolding quoted hex_from hex_head plain_data digits utf16_chars hex_on_literals
bytes-row = refl

bytes-two_rows : value_entry (codes "b") 3 (some_bytes ++ 25 ∷ []) ≡ codes "\"b\"=hex:" ++ (their_digits ++ codes ",\\\r\n  19\r\n")
unfolding quoted hex_from hex_head plain_data digits utf16_chars hex_on_literals
bytes-two_rows = refl

bytes-three_rows : value_entry (codes "b") 3 (some_bytes ++ (some_bytes ++ 0 ∷ [])) ≡
    codes "\"b\"=hex:" ++ (their_digits ++ (codes ",\\\r\n  " ++ (their_digits ++ codes ",\\\r\n  00\r\n")))
unfolding quoted hex_from hex_head plain_data digits utf16_chars hex_on_literals
bytes-three_rows = refl
