-- Where a line of a .reg text that isn't understood stops, and what was expected there (this project's own). A stop has how much of the
-- line is left behind its place.
use Rattle.std.specs.Prelude.{ℕ, suc, ◌+◌, ◌-◌, ◌==◌, ◌&&◌, ◌||◌, not, nat_lt, nat_le, Bool, true, false, if◌then◌else◌, List}
use Rattle.std.specs.Prelude.{[], ◌∷◌, codes, length, take, drop}
use Rattle.std.specs.Prelude.{Option, Some, None, option_map, is_some}
use Rattle.std.specs.Option.{unwrap_or}
use Rattle.std.specs.List.{list_all, list_any, position_or_len, suffix_len, slice_split, before_first, after_first}
use Rattle.hex.specs.Hex.{hex_digit_value}
use Rattle.reg_names.specs.Names.{is_value_name_byte, is_backslash}
use Rattle.reg_names.specs.declared.TheConstants.{KEY_NAME_LIMIT, PATH_LIMIT}
use Rattle.reg_dotreg_reader.specs.declared.expected.Expected.{Expected}
use Rattle.reg_dotreg_reader.specs.declared.expected.Expected.TheVariants as wanted
use Rattle.reg_dotreg_reader.specs.EntryWords.{is_blank, behind_blanks, before_mark, behind_or, number_of, byte_of, is_comma, is_escaped, quoted}
use Rattle.reg_dotreg_reader.specs.EntryLines.{is_feed, lines_of, is_value_line}
use Rattle.reg_dotreg_reader.specs.EntryMeanings.{long_form, behind_name, name_read, is_close}

-- what was expected, and how many units are left there
abbrev pub Stop : Type 0
Stop = Expected × ℕ

-- how many units are left from the first one that passes a test on, or none
abbrev pub left_from : (ℕ → Bool) → List ℕ → ℕ
left_from p units = length units - position_or_len p units

-- behind a value that is whole: a comment was expected, or nothing more
abbrev pub behind_stop : List ℕ → Stop
behind_stop rest = (wanted.Comment, length (behind_blanks rest))

-- ---- names and texts in quotes

abbrev pub has_quote : List ℕ → Bool
has_quote line = list_any (λ u. u == 34) line

-- whether a quote seems to lack before some lines: the next one begins a value's line, or there is none
unfoldable pub lacks_quote : List (List ℕ) → Bool
lacks_quote [] = true
lacks_quote (line ∷ lines) = if has_quote line then is_value_line line else lacks_quote lines

-- whether what stands behind a unit stands behind a backslash, by whether the unit does; `None` where it does and is no quote or backslash
abbrev pub behind_after : (is_behind_backslash : Bool) → ℕ → Option Bool
behind_after true unit = if is_escaped unit then Some false else None
behind_after false unit = Some (unit == 92)

-- from some place in a quoted text on, behind a backslash or not, with so many units left behind the text: a backslash stands before
-- another unit than a quote or a backslash, or else no quote closes it, which was expected at its end
unfoldable pub unclosed : (left : ℕ) (is_behind_backslash : Bool) → List ℕ → Stop
unclosed left behind [] = (wanted.Quote, left)
unclosed left behind (u ∷ us) =
    unwrap_or (option_map (λ after. unclosed left after us) (behind_after behind u)) (wanted.Escaped, left + suc (length us))

-- a text behind the quote that opens it, which its first line was expected to close
unfoldable pub first_stop : List ℕ → Stop
first_stop text = unclosed (left_from is_feed text) false (before_first is_feed text)

-- one that may go over several lines: a quote closes it, or none does
unfoldable pub several_stop : List ℕ → Stop
several_stop text = unwrap_or (option_map (λ read. behind_stop read.1) (quoted text)) (unclosed 0 false text)

-- whether a text isn't closed in its first line, and a quote seems to lack there
unfoldable pub is_open : List ℕ → Bool
is_open text = not (is_some (quoted (before_first is_feed text))) && lacks_quote (lines_of (after_first is_feed text))

-- a value's text behind the quote that opens it
unfoldable pub text_stop : List ℕ → Stop
text_stop text = if is_open text then first_stop text else several_stop text

-- a name that is none, by its units
abbrev pub bad_name : (text units : List ℕ) → Stop
bad_name text units =
    if list_all is_value_name_byte units then (wanted.ShortName, length text)
    else (wanted.NameCharacter, left_from (λ u. not (is_value_name_byte u)) text)

-- a value's name behind the quote that opens it, which stands on one line
unfoldable pub name_stop : List ℕ → Stop
name_stop text = unwrap_or (option_map (λ read. bad_name text read.0) (quoted (before_first is_feed text))) (first_stop text)

-- ---- numbers and bytes

abbrev pub is_no_digit : ℕ → Bool
is_no_digit unit = not (is_some (hex_digit_value unit))

-- how many digits stand at the start of some units, at most eight
unfoldable pub few_digits : List ℕ → ℕ
few_digits units = position_or_len is_no_digit (take 8 units)

-- whether a number of so many digits is whole before some units: it can have no more, or a blank stands there
abbrev pub begins_blank : List ℕ → Bool
begins_blank [] = false
begins_blank (u ∷ us) = is_blank u

abbrev pub is_whole : (count : ℕ) → List ℕ → Bool
is_whole count rest = count == 8 || (nat_lt 0 count && begins_blank rest)

-- a number of 32 bits, by how many digits it has and what stands behind them
abbrev pub counted_stop : (count : ℕ) → (rest : List ℕ) → Stop
counted_stop count rest = if is_whole count rest then behind_stop rest else (wanted.Number, length rest)

unfoldable pub number_stop : List ℕ → Stop
number_stop digits = counted_stop (few_digits digits) (drop (few_digits digits) digits)

-- how long some pieces are, with the unit before each that parts them
unfoldable pub pieces_length : List (List ℕ) → ℕ
pieces_length [] = 0
pieces_length (piece ∷ pieces) = suc (length piece) + pieces_length pieces

-- whether a piece is a byte of at most so much
abbrev pub is_byte_to : (most : ℕ) → List ℕ → Bool
is_byte_to most piece = unwrap_or (option_map (λ byte. nat_le byte most) (byte_of piece)) false

-- how many units are left from the first piece on that is none, without the blanks before it; `None` where each is one, as the last may be
-- blanks alone
unfoldable pub left_from_bad : (most : ℕ) → List (List ℕ) → Option ℕ
left_from_bad most [] = None
left_from_bad most (piece ∷ []) =
    if length (behind_blanks piece) == 0 || is_byte_to most piece then None else Some (length (behind_blanks piece))
left_from_bad most (piece ∷ next ∷ pieces) =
    if is_byte_to most piece then left_from_bad most (next ∷ pieces)
    else Some (length (behind_blanks piece) + pieces_length (next ∷ pieces))

-- pieces of a list of bytes: the first that is no byte, or else the first that is no character of one byte
abbrev pub pieces_stop : List (List ℕ) → Stop
pieces_stop pieces =
    unwrap_or (option_map (λ left. (wanted.Byte, left)) (left_from_bad 255 pieces))
    (wanted.PlainBytes, unwrap_or (left_from_bad 127 pieces) 0)

-- a list of bytes
unfoldable pub list_stop : List ℕ → Stop
list_stop list = pieces_stop (slice_split is_comma list)

-- what was expected behind a type: a colon, and `)` before it where none stands
abbrev pub behind_kind : List ℕ → Expected
behind_kind text = if list_any is_close text then wanted.Colon else wanted.Close

-- a type and bytes, behind `hex(`
unfoldable pub kind_stop : List ℕ → Stop
kind_stop text =
    if is_some (number_of 8 (before_first is_close text)) then
    behind_or (codes ":") list_stop (behind_kind text, length (after_first is_close text)) (after_first is_close text)
    else (wanted.Kind, length text - few_digits text)

-- what stands behind `hex`
unfoldable pub bytes_stop : List ℕ → Stop
bytes_stop rest = behind_or (codes ":") list_stop (behind_or (codes "(") kind_stop (wanted.Bytes, length rest) rest) rest

-- ---- values

-- what stands behind a value's `=`, and blanks
unfoldable pub data_stop : List ℕ → Stop
data_stop text =
    behind_or (codes "-") behind_stop
    (behind_or (codes "\"") text_stop
    (behind_or (codes "dword:") number_stop (behind_or (codes "hex") bytes_stop (wanted.Value, length text) text) text) text) text

-- what stands behind a value's name, and blanks
unfoldable pub behind_name_stop : List ℕ → Stop
behind_name_stop rest = behind_or (codes "=") (λ text. data_stop (behind_blanks text)) (wanted.Equals, length rest) rest

-- a value's line that begins with no name
abbrev pub unnamed_stop : List ℕ → Stop
unnamed_stop line = behind_or (codes "\"") name_stop (wanted.Line, length line) line

-- a value's line
unfoldable pub value_stop : List ℕ → Stop
value_stop line = unwrap_or (option_map (λ read. behind_name_stop (behind_blanks read.1)) (name_read line)) (unnamed_stop line)

-- ---- keys

-- what was expected in the place of a name of some length, where so many names may stand; `None` where it may stand itself
abbrev pub name_wanted : (room long : ℕ) → Option Expected
name_wanted room long =
    if long == 0 then Some wanted.KeyName
    else if nat_lt KEY_NAME_LIMIT long then Some wanted.ShortKeyName else if room == 0 then Some wanted.Path else None

-- names of a path, where so many may stand: the first one that is empty, too long or too many
unfoldable pub names_stop : (room : ℕ) → List (List ℕ) → Stop
names_stop room [] = (wanted.Path, 0)
names_stop room (name ∷ names) =
    unwrap_or (option_map (λ expected. (expected, length name + pieces_length names)) (name_wanted room (length name)))
    (names_stop (room - 1) names)

-- a path: a character that no name may have, or else one of its names
unfoldable pub path_stop : List ℕ → Stop
path_stop path =
    if list_all is_value_name_byte path then names_stop PATH_LIMIT (slice_split is_backslash path)
    else (wanted.KeyCharacter, left_from (λ u. not (is_value_name_byte u)) path)

-- what stands behind the root's name, of a key of so many units: another name than the root's, or else names of a path
abbrev pub way_stop : (whole : ℕ) → List ℕ → Stop
way_stop whole [] = (wanted.Root, whole)
way_stop whole (u ∷ path) = if u == 92 then path_stop path else (wanted.Root, whole)

-- a key of so many units, in its long form
abbrev pub long_stop : (whole : ℕ) (root long : List ℕ) → Stop
long_stop whole root long = unwrap_or (option_map (way_stop whole) (behind_name root long)) (wanted.Root, whole)

-- a key without its brackets
unfoldable pub below_stop : (root units : List ℕ) → Stop
below_stop root units = long_stop (length units) root (long_form units)

-- what stands between brackets; behind a `-` a key that goes
abbrev pub between_stop : (root units : List ℕ) → Stop
between_stop root units = behind_or (codes "-") (below_stop root) (below_stop root units) units

abbrev pub is_no_bracket : ℕ → Bool
is_no_bracket unit = not (unit == 93)

-- what stands behind the last bracket that closes, or all
unfoldable pub behind_bracket : List ℕ → List ℕ
behind_bracket line = drop (length line - suffix_len is_no_bracket line) line

-- a key that no bracket closes at its line's end: something stands behind the last one, or there is none
abbrev pub open_stop : (behind line : List ℕ) → Stop
open_stop behind line = if length behind == length line then (wanted.Bracket, 0) else (wanted.End, length (behind_blanks behind))

-- a stop in a line of so many units, by that in the units before the bracket at its end
abbrev pub before_bracket : (whole : ℕ) → Stop → Stop
before_bracket whole stop = if nat_lt stop.1 whole then (stop.0, suc stop.1) else (stop.0, whole)

-- a key's line behind the bracket that opens it
unfoldable pub key_stop : (root line : List ℕ) → Stop
key_stop root line =
    unwrap_or (option_map (λ units. before_bracket (length line) (between_stop root units)) (before_mark 93 line))
    (open_stop (behind_bracket line) line)

-- ---- lines

-- a line, without blanks at both ends
unfoldable pub line_stop : (root line : List ℕ) → Stop
line_stop root [] = (wanted.Line, 0)
line_stop root (u ∷ us) =
    if u == 91 then key_stop root us
    else if u == 34 || u == 64 then value_stop (u ∷ us)
    else (wanted.Line, suc (length us))

abbrev pub is_root : Expected → Bool
is_root wanted.Root = true
is_root other = false

-- what stands where the root's name was expected, up to the bracket that closes the key
abbrev pub found_at : Expected → List ℕ → List ℕ
found_at expected rest = if is_root expected then unwrap_or (before_mark 93 rest) rest else []
