-- The lines of a script and their words: numbers, names and data (this project's own rules of the script).
use Rattle.std.specs.Prelude.{ℕ, zero, suc, ◌+◌, ◌*◌, ◌==◌, ◌&&◌, nat_lt, nat_le, Bool, if◌then◌else◌, List, [], ◌∷◌, length, Option, Some, None}
use Rattle.std.specs.Prelude.{option_map, option_and_then}
use Rattle.std.specs.List.{slice_split, onto_first}
use Rattle.std.specs.Result.{result_ok}
use Rattle.std.specs.Str.{all_ascii_digits}
use Rattle.std.specs.Str.Parse.{digits_value}
use Rattle.hex.specs.Hex.{hex_digit_value, decode_of}

-- the lines of a script: each ends with LF, which the last may lack
abbrev pub lines_of : List ℕ → List (List ℕ)
lines_of [] = []
lines_of (b ∷ bs) = if b == 10 then [] ∷ lines_of bs else onto_first b (lines_of bs)

-- the words of a line, parted by one space each
unfoldable pub words_of : List ℕ → List (List ℕ)
words_of line = slice_split (λ b. b == 32) line

-- one decimal digit or more, and nothing else
abbrev pub is_number : List ℕ → Bool
is_number word = nat_lt 0 (length word) && all_ascii_digits word

-- the number that a word's decimal digits write, where it isn't above the limit
unfoldable pub number_of : ℕ → List ℕ → Option ℕ
number_of limit word = if is_number word && nat_le (digits_value 10 word) limit then Some (digits_value 10 word) else None

-- the byte of two hexadecimal digits, where both are digits
abbrev pub byte_of : Option ℕ → Option ℕ → Option ℕ
byte_of (Some high) (Some low) = Some (high * 16 + low)
byte_of (Some high) None = None
byte_of None low = None

-- the byte that a text begins with as `%HH`, in either case
abbrev pub escaped_byte : List ℕ → Option ℕ
escaped_byte (mark ∷ high ∷ low ∷ rest) = if mark == 37 then byte_of (hex_digit_value high) (hex_digit_value low) else None
escaped_byte (mark ∷ high ∷ []) = None
escaped_byte (mark ∷ []) = None
escaped_byte [] = None

-- what is left of a text after so many bytes, unescaped: `%HH` stands for that byte, and every other byte for itself
abbrev pub unescaped_after : ℕ → List ℕ → List ℕ
unescaped_after skipped [] = []
unescaped_after (suc skipped) (b ∷ bs) = unescaped_after skipped bs
unescaped_after zero (b ∷ bs) =
    elim (escaped_byte (b ∷ bs)) [ Some byte ↦ byte ∷ unescaped_after 2 bs | None ↦ b ∷ unescaped_after 0 bs ]

-- the bytes that an escaped text stands for
unfoldable pub unescaped : List ℕ → List ℕ
unescaped text = unescaped_after 0 text

-- what follows a word's first byte, where that is the mark
unfoldable pub after_mark : ℕ → List ℕ → Option (List ℕ)
after_mark mark [] = None
after_mark mark (b ∷ bs) = if b == mark then Some bs else None

-- a NAME word: `=` and then an escaped text
unfoldable pub name_of : List ℕ → Option (List ℕ)
name_of word = option_map unescaped (after_mark 61 word)

-- a DATA word: `x` and then pairs of hexadecimal digits of either case
unfoldable pub data_of : List ℕ → Option (List ℕ)
data_of word = option_and_then (λ digits. result_ok (decode_of digits)) (after_mark 120 word)
