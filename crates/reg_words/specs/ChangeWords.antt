-- What the words of a change stand for: paths, names, types and data (this project's own; the data as regedit writes them).
use Rattle.std.specs.Prelude.{ℕ, zero, suc, ◌+◌, ◌*◌, ◌/◌, ◌%◌, ◌==◌, ◌&&◌, nat_lt, nat_le, Bool, true, false, if◌then◌else◌}
use Rattle.std.specs.Prelude.{List, [], ◌∷◌, ◌++◌, map, length, flat_map, codes, bytes_eq, Option, Some, None, option_map, option_and_then}
use Rattle.std.specs.Result.{result_ok}
use Rattle.std.specs.Int.{to_le_bytes, w32, w64}
use Rattle.std.specs.Str.{chars}
use Rattle.std.specs.Char.Escape.{encode_utf16}
use Rattle.hex.specs.Hex.{hex_digit_value, decode_of}
use Rattle.reg_words.specs.declared.typed.kinds.DataForm.{DataForm}
use Rattle.reg_words.specs.declared.typed.kinds.DataForm.TheVariants.{Text, Texts, Small, Large, Digits}
use Rattle.reg_words.specs.declared.typed.kinds.Kind.{Kind}

-- ---- paths and names

-- the byte of two hexadecimal digits, where both are digits
abbrev pub byte_of : Option ℕ → Option ℕ → Option ℕ
byte_of (Some high) (Some low) = Some (high * 16 + low)
byte_of (Some high) None = None
byte_of None low = None

-- the byte that a text begins with as `%HH`, in either case
abbrev pub escaped_byte : List ℕ → Option ℕ
escaped_byte (mark ∷ high ∷ low ∷ rest) = if mark == 37 then byte_of (hex_digit_value high) (hex_digit_value low) else None
escaped_byte (mark ∷ high ∷ []) = None
escaped_byte (mark ∷ []) = None
escaped_byte [] = None

-- what is left of a text after so many bytes, unescaped: `%HH` stands for that byte, and every other byte for itself
abbrev pub unescaped_after : ℕ → List ℕ → List ℕ
unescaped_after skipped [] = []
unescaped_after (suc skipped) (b ∷ bs) = unescaped_after skipped bs
unescaped_after zero (b ∷ bs) =
    elim (escaped_byte (b ∷ bs)) [ Some byte ↦ byte ∷ unescaped_after 2 bs | None ↦ b ∷ unescaped_after 0 bs ]

-- the bytes that an escaped text stands for
unfoldable pub unescaped : List ℕ → List ℕ
unescaped text = unescaped_after 0 text

-- a backslash in the place of a slash
abbrev pub turned : ℕ → ℕ
turned byte = if byte == 47 then 92 else byte

-- a word whose names are parted by slashes, or by backslashes alone
abbrev pub slashed : (is_slash : Bool) → List ℕ → List ℕ
slashed true word = map turned word
slashed false word = word

-- what stands behind a backslash at the start, and the whole where none is there
abbrev pub behind_backslash : List ℕ → List ℕ
behind_backslash [] = []
behind_backslash (b ∷ bs) = if b == 92 then bs else b ∷ bs

-- the path that a word stands for
abbrev pub path_in : (is_slash : Bool) → List ℕ → List ℕ
path_in is_slash word = unescaped (behind_backslash (slashed is_slash word))

-- the name that a word stands for: `@` is the default value's, which is empty
abbrev pub name_in : List ℕ → List ℕ
name_in word = if bytes_eq word (codes "@") then [] else unescaped word

-- ---- numbers

-- a value that is below a base
abbrev pub if_below : (base : ℕ) → ℕ → Option ℕ
if_below base value = if nat_lt value base then Some value else None

-- the value of a digit of a base, in either case
abbrev pub digit_of : (base : ℕ) → ℕ → Option ℕ
digit_of base byte = option_and_then (if_below base) (hex_digit_value byte)

-- a number with so many more digits
unfoldable pub number_after : (base : ℕ) → ℕ → List ℕ → Option ℕ
number_after base n [] = Some n
number_after base n (d ∷ ds) = option_and_then (λ v. number_after base (n * base + v) ds) (digit_of base d)

-- the number of at least one digit and at most 20, so many as the greatest of 64 bits has
unfoldable pub digits_number : (base : ℕ) → List ℕ → Option ℕ
digits_number base digits = if nat_lt 0 (length digits) && nat_le (length digits) 20 then number_after base 0 digits else None

-- a number's base, and its digits: hexadecimal ones behind `0x`, else decimal ones
abbrev pub based : List ℕ → ℕ × List ℕ
based [] = (10, [])
based (a ∷ []) = (10, a ∷ [])
based (a ∷ b ∷ digits) = if a == 48 && b == 120 then (16, digits) else (10, a ∷ b ∷ digits)

-- a number that isn't above a limit
abbrev pub if_within : (limit : ℕ) → ℕ → Option ℕ
if_within limit number = if nat_le number limit then Some number else None

-- the number that a word stands for, where it isn't above the limit
abbrev pub number_in : (limit : ℕ) → List ℕ → Option ℕ
number_in limit word = option_and_then (if_within limit) (digits_number (based word).0 (based word).1)

-- ---- types

abbrev pub kind_is : ℕ → DataForm → Option Kind
kind_is number form = Some (record { number = number; form = form })

-- a type that is named by its number, which has its data as bytes
abbrev pub numbered : List ℕ → Option Kind
numbered word = option_map (λ number. record { number = number; form = Digits }) (number_in 4294967295 word)

-- the type that a word stands for
abbrev pub kind_in : List ℕ → Option Kind
kind_in word =
    if bytes_eq word (codes "none") then kind_is 0 Digits
    else if bytes_eq word (codes "sz") then kind_is 1 Text
    else if bytes_eq word (codes "expand") then kind_is 2 Text
    else if bytes_eq word (codes "binary") then kind_is 3 Digits
    else if bytes_eq word (codes "dword") then kind_is 4 Small
    else if bytes_eq word (codes "multi") then kind_is 7 Texts
    else if bytes_eq word (codes "qword") then kind_is 11 Large
    else numbered word

-- ---- data

-- a unit of UTF-16, the low byte first
abbrev pub unit_bytes : ℕ → List ℕ
unit_bytes unit = unit % 256 ∷ unit / 256 ∷ []

abbrev pub character_bytes : ℕ → List ℕ
character_bytes character = flat_map unit_bytes (encode_utf16 character)

-- a text in UTF-16, and a zero behind it
abbrev pub ended : List ℕ → List ℕ
ended text = flat_map character_bytes (chars text) ++ unit_bytes 0

-- the word, where it is the only one
abbrev pub only : List (List ℕ) → Option (List ℕ)
only [] = None
only (word ∷ []) = Some word
only (word ∷ next ∷ words) = None

-- the bytes of each word one after another, and some behind the last; none where a word has none
unfoldable pub pieces : (read : List ℕ → Option (List ℕ)) → (last : List ℕ) → List (List ℕ) → Option (List ℕ)
pieces read last [] = Some last
pieces read last (word ∷ words) =
    option_and_then (λ front. option_map (λ rest. front ++ rest) (pieces read last words)) (read word)

-- one text
abbrev pub text_in : List (List ℕ) → Option (List ℕ)
text_in words = option_map ended (only words)

-- one of several texts isn't empty
abbrev pub listed_text : List ℕ → Option (List ℕ)
listed_text [] = None
listed_text (b ∷ bs) = Some (ended (b ∷ bs))

-- several texts, and a zero more behind them
abbrev pub texts_in : List (List ℕ) → Option (List ℕ)
texts_in words = pieces listed_text (unit_bytes 0) words

-- a number of 32 bits, and one of 64, the low byte first
abbrev pub small_in : List (List ℕ) → Option (List ℕ)
small_in words = option_map (to_le_bytes w32) (option_and_then (number_in 4294967295) (only words))

abbrev pub large_in : List (List ℕ) → Option (List ℕ)
large_in words = option_map (to_le_bytes w64) (option_and_then (number_in 18446744073709551615) (only words))

-- bytes of two hexadecimal digits each, any number in a word
abbrev pub digits_of : List ℕ → Option (List ℕ)
digits_of word = result_ok (decode_of word)

abbrev pub digits_in : List (List ℕ) → Option (List ℕ)
digits_in words = pieces digits_of [] words

abbrev pub data_in : DataForm → List (List ℕ) → Option (List ℕ)
data_in Text words = text_in words
data_in Texts words = texts_in words
data_in Small words = small_in words
data_in Large words = large_in words
data_in Digits words = digits_in words

-- the type and the data that words stand for: the type's word or number, and those of the data
abbrev pub value_in : (kind : List ℕ) → List (List ℕ) → Option (ℕ × List ℕ)
value_in kind words =
    option_and_then (λ (k : Kind). option_map (λ bytes. (k.number, bytes)) (data_in k.form words)) (kind_in kind)
