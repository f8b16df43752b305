-- A value as an entry of a registration file ("Windows Registry Editor Version 5.00"): the units of its text.
use Rattle.std.specs.Prelude.{ℕ, zero, suc, ◌==◌, ◌&&◌, ◌||◌, not, Bool, false, if◌then◌else◌, List, [], ◌∷◌, ◌++◌, length, reverse, codes}
use Rattle.std.specs.Prelude.{flat_map, Option, Some, None}
use Rattle.std.specs.List.{list_all}
use Rattle.std.specs.Option.{option_map, option_and_then, unwrap_or}
use Rattle.std.specs.Fmt.{digits}
use Rattle.std.specs.Char.Utf16.{has_unpaired_surrogate}
use Rattle.reg_text.specs.Texts.{digits_text}
use Rattle.reg_dotreg_writer.specs.declared.value.TheConstants.{STRING, BINARY, NUMBER}
use Rattle.reg_tree_text.specs.ValueTexts.{units_of}

-- a line ends with CR and LF
abbrev pub line_end : List ℕ
line_end = 13 ∷ 10 ∷ []

-- neither CR nor LF
abbrev pub is_line_unit : ℕ → Bool
is_line_unit unit = not (unit == 13) && not (unit == 10)

-- ---- quotes

-- a unit between quotes: a backslash or a quote has a backslash before it
abbrev pub quoted_unit : ℕ → List ℕ
quoted_unit unit = if unit == 92 || unit == 34 then 92 ∷ unit ∷ [] else unit ∷ []

-- a text between quotes
unfoldable pub quoted : List ℕ → List ℕ
quoted text = 34 ∷ (flat_map quoted_unit text ++ 34 ∷ [])

-- the name of a value: `@` for the empty one, which is the default value's
abbrev pub name_told : List ℕ → List ℕ
name_told [] = 64 ∷ []
name_told (b ∷ name) = quoted (b ∷ name)

-- ---- strings

-- units without the zero at their end; `None` where there is none
abbrev pub text_before_zero : List ℕ → Option (List ℕ)
text_before_zero [] = None
text_before_zero (unit ∷ []) = if unit == 0 then Some [] else None
text_before_zero (unit ∷ next ∷ units) = option_map (λ text. unit ∷ text) (text_before_zero (next ∷ units))

-- a unit that may stand between quotes: no zero, and neither CR nor LF
abbrev pub is_text_unit : ℕ → Bool
is_text_unit unit = not (unit == 0) && is_line_unit unit

-- a text that may stand between quotes: of such units, and each surrogate has its partner
abbrev pub is_line_text : List ℕ → Bool
is_line_text text = list_all is_text_unit text && not (has_unpaired_surrogate text)

-- a text, if it may stand between quotes
abbrev pub if_line_text : List ℕ → Option (List ℕ)
if_line_text text = if is_line_text text then Some text else None

-- the text of data that is a string on one line: units of which the last and only the last is 0
abbrev pub string_text : List ℕ → Option (List ℕ)
string_text bytes = option_and_then if_line_text (option_and_then text_before_zero (units_of bytes))

-- ---- bytes

-- bytes as two digits each, parted by commas, where so many more may stand in the present row; each row but the last ends with a
-- comma and a backslash, and each but the first begins with two blanks and has 25 bytes at most
unfoldable pub hex_from : (room : ℕ) → List ℕ → List ℕ
hex_from room [] = []
hex_from room (b ∷ []) = digits_text (b ∷ [])
hex_from zero (b ∷ next ∷ bytes) = digits_text (b ∷ []) ++ (codes ",\\\r\n  " ++ hex_from 24 (next ∷ bytes))
hex_from (suc room) (b ∷ next ∷ bytes) = digits_text (b ∷ []) ++ (codes "," ++ hex_from room (next ∷ bytes))

-- bytes in rows of 25
abbrev pub hex_rows : List ℕ → List ℕ
hex_rows bytes = hex_from 24 bytes

-- what stands before the bytes of data of a type
unfoldable pub hex_head : ℕ → List ℕ
hex_head kind = if kind == BINARY then codes "hex:" else codes "hex(" ++ (digits 16 false kind ++ codes "):")

-- data that isn't told as a string: a number of 4 bytes, the low one first, as its digits, the high ones first; all else as bytes
unfoldable pub plain_data : (kind : ℕ) (bytes : List ℕ) → List ℕ
plain_data kind bytes =
    if kind == NUMBER && length bytes == 4 then codes "dword:" ++ digits_text (reverse bytes) else hex_head kind ++ hex_rows bytes

-- ---- entries

-- the text of data of a type, if it is told as a string
abbrev pub text_of_data : (kind : ℕ) (bytes : List ℕ) → Option (List ℕ)
text_of_data kind bytes = if kind == STRING then string_text bytes else None

-- data of a type, as it stands behind the name
abbrev pub data_told : (kind : ℕ) (bytes : List ℕ) → List ℕ
data_told kind bytes = unwrap_or (option_map quoted (text_of_data kind bytes)) (plain_data kind bytes)

-- the entry of a value, with the end of its last line
abbrev pub value_entry : (name : List ℕ) (kind : ℕ) (bytes : List ℕ) → List ℕ
value_entry name kind bytes = name_told name ++ (61 ∷ (data_told kind bytes ++ line_end))
