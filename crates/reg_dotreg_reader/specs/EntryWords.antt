-- The words of a line of a .reg text: marks, numbers, lists of bytes and quoted texts (regedit's format, version 5.00).
use Rattle.std.specs.Prelude.{ℕ, ◌+◌, ◌-◌, ◌*◌, ◌/◌, ◌%◌, ◌==◌, ◌&&◌, ◌||◌, nat_lt, nat_le, Bool, true, false, if◌then◌else◌, List, [], ◌∷◌}
use Rattle.std.specs.Prelude.{length, take, drop, Option, Some, None, option_map, option_and_then}
use Rattle.std.specs.Option.{unwrap_or}
use Rattle.std.specs.List.{list_all, prefix_len, suffix_len, slice_split}
use Rattle.hex.specs.Hex.{hex_digit_value}

-- ---- blanks and marks

-- a space or a tab, or the LF that stands where a value goes on in the next line
abbrev pub is_blank : ℕ → Bool
is_blank unit = unit == 32 || (unit == 9 || unit == 10)

-- what is left without the blanks at the start, without those at the end, and without both
unfoldable pub behind_blanks : List ℕ → List ℕ
behind_blanks units = drop (prefix_len is_blank units) units

unfoldable pub before_blanks : List ℕ → List ℕ
before_blanks units = take (length units - suffix_len is_blank units) units

abbrev pub trimmed : List ℕ → List ℕ
trimmed units = before_blanks (behind_blanks units)

-- what stands before the last unit, where that is the mark
unfoldable pub before_mark : ℕ → List ℕ → Option (List ℕ)
before_mark mark [] = None
before_mark mark (u ∷ []) = if u == mark then Some [] else None
before_mark mark (u ∷ next ∷ us) = option_map (λ front. u ∷ front) (before_mark mark (next ∷ us))

-- what stands behind a word, where some units begin with it
unfoldable pub behind_word : (word units : List ℕ) → Option (List ℕ)
behind_word [] units = Some units
behind_word (c ∷ word) [] = None
behind_word (c ∷ word) (u ∷ units) = if u == c then behind_word word units else None

-- where some units begin with a word, what is read in those behind it; else something other
abbrev pub behind_or : {A : Type 0} → (word : List ℕ) → (List ℕ → A) → A → List ℕ → A
behind_or word read other units = unwrap_or (option_map read (behind_word word units)) other

-- ---- numbers and bytes in hexadecimal digits

-- a number with so many more digits, of either case
unfoldable pub number_after : ℕ → List ℕ → Option ℕ
number_after n [] = Some n
number_after n (d ∷ ds) = option_and_then (λ v. number_after (n * 16 + v) ds) (hex_digit_value d)

-- the number of at least one digit and at most so many
unfoldable pub number_of : (limit : ℕ) → List ℕ → Option ℕ
number_of limit digits = if nat_lt 0 (length digits) && nat_le (length digits) limit then number_after 0 digits else None

-- a byte: one digit or two, blanks around them
abbrev pub byte_of : List ℕ → Option ℕ
byte_of piece = number_of 2 (trimmed piece)

-- the bytes of pieces: each is one, but the last may be blanks alone
unfoldable pub pieces_bytes : List (List ℕ) → Option (List ℕ)
pieces_bytes [] = Some []
pieces_bytes (piece ∷ []) = if length (trimmed piece) == 0 then Some [] else option_map (λ byte. byte ∷ []) (byte_of piece)
pieces_bytes (piece ∷ next ∷ pieces) =
    option_and_then (λ byte. option_map (λ bytes. byte ∷ bytes) (pieces_bytes (next ∷ pieces))) (byte_of piece)

abbrev pub is_comma : ℕ → Bool
is_comma unit = unit == 44

-- the bytes of a list, parted by commas, of which one may stand at the end
unfoldable pub list_bytes : List ℕ → Option (List ℕ)
list_bytes list = pieces_bytes (slice_split is_comma list)

-- ---- quoted texts

-- a unit that may stand behind a backslash in quotes, and then stands for itself: a quote or a backslash
abbrev pub is_escaped : ℕ → Bool
is_escaped unit = unit == 34 || unit == 92

-- one more unit before a text that was read
abbrev pub with_unit : ℕ → Option (List ℕ × List ℕ) → Option (List ℕ × List ℕ)
with_unit unit read = option_map (λ p. (unit ∷ p.0, p.1)) read

-- a backslash says nothing itself, and every other unit stands for itself
abbrev pub with_plain : ℕ → Option (List ℕ × List ℕ) → Option (List ℕ × List ℕ)
with_plain unit read = if unit == 92 then read else with_unit unit read

-- a quoted text from some place in it on, behind a backslash or not: its units, and what stands behind the quote that closes it; `None`
-- where none closes it, or where a backslash stands before another unit than a quote or a backslash
unfoldable pub quoted_from : (is_behind_backslash : Bool) → List ℕ → Option (List ℕ × List ℕ)
quoted_from behind [] = None
quoted_from true (u ∷ us) = if is_escaped u then with_unit u (quoted_from false us) else None
quoted_from false (u ∷ us) = if u == 34 then Some ([], us) else with_plain u (quoted_from (u == 92) us)

-- a quoted text behind the quote that opens it
unfoldable pub quoted : List ℕ → Option (List ℕ × List ℕ)
quoted units = quoted_from false units

-- units as bytes, the low byte first
unfoldable pub unit_bytes : List ℕ → List ℕ
unit_bytes [] = []
unit_bytes (unit ∷ units) = unit % 256 ∷ unit / 256 ∷ unit_bytes units

-- a character of one byte
abbrev pub is_plain : ℕ → Bool
is_plain byte = nat_le byte 127

-- characters of one byte, as the bytes of their units; `None` where one is above 0x7F
unfoldable pub plain_bytes : List ℕ → Option (List ℕ)
plain_bytes bytes = if list_all is_plain bytes then Some (unit_bytes bytes) else None
