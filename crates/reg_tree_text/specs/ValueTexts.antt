-- The data of a value told as a line (this project's own; Win32 registry reference, "Registry Value Types").
use Rattle.std.specs.Prelude.{ℕ, ◌+◌, ◌*◌, ◌==◌, ◌&&◌, ◌||◌, not, nat_lt, nat_le, Bool, if◌then◌else◌, List, [], ◌∷◌, ◌++◌, length, map, codes, Option, Some, None, encode_utf8_all}
use Rattle.std.specs.Fmt.{decimal}
use Rattle.std.specs.List.{list_any}
use Rattle.std.specs.Option.{option_map, option_and_then, unwrap_or}
use Rattle.std.specs.Char.Utf16.{has_unpaired_surrogate, utf16_lossy_chars}
use Rattle.byteorder.specs.Endian.{little_number, big_number}
use Rattle.reg_text.specs.Texts.{digits_text}
use Rattle.reg_tree_text.specs.declared.value.TheConstants.{STRING, EXPANDABLE, NUMBER, BIG_NUMBER, LINK, STRINGS, LONG_NUMBER}

-- bytes as units of UTF-16, the low byte first; `None` where a last byte is alone
abbrev pub units_of : List ℕ → Option (List ℕ)
units_of [] = Some []
units_of (low ∷ []) = None
units_of (low ∷ high ∷ bytes) = option_map (λ units. (low + 256 * high) ∷ units) (units_of bytes)

-- units without the zero at their end, if there is one
abbrev pub unended : List ℕ → List ℕ
unended [] = []
unended (unit ∷ []) = if unit == 0 then [] else unit ∷ []
unended (unit ∷ next ∷ units) = unit ∷ unended (next ∷ units)

-- a control character (Unicode, category Cc): below U+0020, or from U+007F to U+009F
abbrev pub is_control : ℕ → Bool
is_control unit = nat_lt unit 32 || (nat_le 127 unit && nat_le unit 159)

-- the text that units spell in UTF-8, where each surrogate has its partner
abbrev pub spelt : List ℕ → Option (List ℕ)
spelt units = if has_unpaired_surrogate units then None else Some (encode_utf8_all (utf16_lossy_chars units))

-- a string: its text, where it has no control character
abbrev pub string_text : List ℕ → Option (List ℕ)
string_text units = if list_any is_control units then None else spelt units

-- strings of which a zero parts each two: their texts with a tab for each zero, where there is no other control character
abbrev pub strings_text : List ℕ → Option (List ℕ)
strings_text units =
    if list_any (λ unit. not (unit == 0) && is_control unit) units then None
    else spelt (map (λ unit. if unit == 0 then 9 else unit) units)

-- the text of data in the form of its type: a string up to its zero; strings up to the zero of the last one and the one behind it;
-- a number of 4 bytes, the low one first or the high one first, or of 8. `None` of data in another form, and of each other type
unfoldable pub form_text : (kind : ℕ) (bytes : List ℕ) → Option (List ℕ)
form_text kind bytes =
    if kind == STRING || kind == EXPANDABLE || kind == LINK then option_and_then (λ units. string_text (unended units)) (units_of bytes)
    else if kind == STRINGS then option_and_then (λ units. strings_text (unended (unended units))) (units_of bytes)
    else if kind == NUMBER && length bytes == 4 then Some (decimal (little_number 4 bytes))
    else if kind == BIG_NUMBER && length bytes == 4 then Some (decimal (big_number 4 bytes))
    else if kind == LONG_NUMBER && length bytes == 8 then Some (decimal (little_number 8 bytes))
    else None

-- the data of a value of a type: its text, or all of its bytes as two digits each
abbrev pub value_told : (kind : ℕ) (bytes : List ℕ) → List ℕ
value_told kind bytes = unwrap_or (form_text kind bytes) (codes "hex:" ++ digits_text bytes)
