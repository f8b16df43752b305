-- The data of a value in JSON (this project's own; Win32 registry reference, "Registry Value Types").
use Rattle.std.specs.Prelude.{ℕ, ◌==◌, ◌&&◌, ◌||◌, Bool, false, if◌then◌else◌, List, [], ◌∷◌, length, map, codes, Option, Some, None}
use Rattle.std.specs.Fmt.{decimal}
use Rattle.std.specs.List.{slice_split}
use Rattle.std.specs.Option.{option_map, option_and_then, unwrap_or}
use Rattle.byteorder.specs.Endian.{little_number, big_number}
use Rattle.serde_json.specs.Data.{Data, number, unsigned, string, array, object, member, no_members}
use Rattle.serde_json.specs.View.{items_of}
use Rattle.reg_text.specs.Texts.{digits_text}
use Rattle.reg_tree_text.specs.ValueTexts.{units_of, spelt}
use Rattle.reg_tree_text.specs.declared.value.TheConstants.{STRING, EXPANDABLE, NUMBER, BIG_NUMBER, LINK, STRINGS, LONG_NUMBER}

-- the parts of some units between their zeros
abbrev pub parts_of : List ℕ → List (List ℕ)
parts_of units = slice_split (λ unit. unit == 0) units

-- one part that has no unit: nothing is behind the zero before it
abbrev pub is_end : List (List ℕ) → Bool
is_end [] = false
is_end (part ∷ []) = length part == 0
is_end (part ∷ next ∷ parts) = false

-- the text of a string: of one part with a zero behind it, and nothing behind that
abbrev pub string_in : List (List ℕ) → Option (List ℕ)
string_in [] = None
string_in (part ∷ parts) = if is_end parts then spelt part else None

-- a text before others, where all are there
abbrev pub with_text : Option (List ℕ) → Option (List (List ℕ)) → Option (List (List ℕ))
with_text text texts = option_and_then (λ first. option_map (λ others. first ∷ others) texts) text

-- the texts of several strings: of parts that have units, a zero behind each, and one zero more, with nothing behind that
abbrev pub strings_in : List (List ℕ) → Option (List (List ℕ))
strings_in [] = None
strings_in (part ∷ parts) =
    if length part == 0 then (if is_end parts then Some [] else None) else with_text (spelt part) (strings_in parts)

-- texts as an array
abbrev pub texts_data : List (List ℕ) → Data
texts_data texts = array (items_of (map string texts))

-- a string's data, and that of several strings
abbrev pub string_form : List ℕ → Option Data
string_form bytes = option_map string (option_and_then (λ units. string_in (parts_of units)) (units_of bytes))

abbrev pub strings_form : List ℕ → Option Data
strings_form bytes = option_map texts_data (option_and_then (λ units. strings_in (parts_of units)) (units_of bytes))

-- data in the form of its type: a string that ends with its one zero; several such, none of them empty, and a zero behind them; a
-- number of 4 bytes, the low one first or the high one first; one of 8 as a string of its digits, as many readers change numbers above
-- 2^53. `None` of data in another form, and of each other type
unfoldable pub form_data : (kind : ℕ) (bytes : List ℕ) → Option Data
form_data kind bytes =
    if kind == STRING || kind == EXPANDABLE || kind == LINK then string_form bytes
    else if kind == STRINGS then strings_form bytes
    else if kind == NUMBER && length bytes == 4 then Some (number (unsigned (little_number 4 bytes)))
    else if kind == BIG_NUMBER && length bytes == 4 then Some (number (unsigned (big_number 4 bytes)))
    else if kind == LONG_NUMBER && length bytes == 8 then Some (string (decimal (little_number 8 bytes)))
    else None

-- bytes in no form: an object with two digits for each
abbrev pub bytes_data : List ℕ → Data
bytes_data bytes = object (member (codes "hex") (string (digits_text bytes)) no_members)

-- the data of a value: in its form, or as bytes
abbrev pub data_of : (kind : ℕ) (bytes : List ℕ) → Data
data_of kind bytes = unwrap_or (form_data kind bytes) (bytes_data bytes)
