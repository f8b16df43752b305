-- What is told of a line of a .reg text that isn't understood: its column, and what was expected there (this project's own).
use Rattle.std.specs.Prelude.{ℕ, ◌+◌, ◌==◌, ◌&&◌, ◌||◌, nat_lt, nat_le, not, Bool, false, if◌then◌else◌, List, [], ◌∷◌, ◌++◌, codes, length, get_or, take, drop, map}
use Rattle.std.specs.List.{list_all, position_or_len}
use Rattle.std.specs.Str.{bytes_eq, encode_utf8_all}
use Rattle.std.specs.Char.Utf16.{utf16_lossy_chars, has_unpaired_surrogate}
use Rattle.std.specs.Fmt.{decimal}
use Rattle.reg_names.specs.Names.{folded, is_backslash}
use Rattle.reg_dotreg_reader.specs.declared.expected.BadLine.{BadLine}
use Rattle.reg_dotreg_reader.specs.declared.expected.Expected.{Expected}
use Rattle.reg_dotreg_reader.specs.declared.expected.Expected.TheVariants as wanted
use Rattle.reg_dotreg_reader.specs.LineStops.{is_root}

-- the words of what was expected
abbrev pub words_of : Expected → List ℕ
words_of wanted.Title = codes "'Windows Registry Editor Version 5.00' or 'REGEDIT4'"
words_of wanted.Line = codes "a key in brackets, a value's name in quotes or @, or a comment behind ;"
words_of wanted.Key = codes "a key that is made, in brackets, above its values"
words_of wanted.Root = codes "the name of the hive's root"
words_of wanted.KeyCharacter = codes "a character of ASCII other than NUL"
words_of wanted.KeyName = codes "a key's name"
words_of wanted.ShortKeyName = codes "a key's name of at most 255 characters"
words_of wanted.Path = codes "at most 512 names in a path"
words_of wanted.Bracket = codes "] at the line's end"
words_of wanted.Quote = codes "a closing quote"
words_of wanted.Escaped = codes "a quote or a backslash behind a backslash"
words_of wanted.NameCharacter = codes "a character of ASCII other than NUL"
words_of wanted.ShortName = codes "a name of at most 16383 characters"
words_of wanted.Equals = codes "= behind the value's name"
words_of wanted.Value = codes "a text in quotes, dword:, hex:, hex(TYPE): or -"
words_of wanted.Number = codes "one to eight hexadecimal digits"
words_of wanted.Bytes = codes ": or (TYPE): behind hex"
words_of wanted.Kind = codes "a type of one to eight hexadecimal digits and )"
words_of wanted.Close = codes "): behind the type"
words_of wanted.Colon = codes ": behind the type"
words_of wanted.Byte = codes "a byte of one or two hexadecimal digits"
words_of wanted.PlainBytes = codes "bytes up to 7f, as the text is one of REGEDIT4"
words_of wanted.Comment = codes "a comment behind ; or the line's end"
words_of wanted.End = codes "nothing more in this line"

-- ---- units as text

-- `?` stands for a control character
abbrev pub is_control : ℕ → Bool
is_control unit = nat_lt unit 32 || (nat_le 127 unit && nat_lt unit 160)

abbrev pub plain_unit : ℕ → ℕ
plain_unit unit = if is_control unit then 63 else unit

unfoldable pub shown : List ℕ → List ℕ
shown units = encode_utf8_all (utf16_lossy_chars (map plain_unit units))

-- ---- the front that would stand for a hive's root

-- a root key that has a hive in each of its keys
abbrev pub has_hives : List ℕ → Bool
has_hives name =
    bytes_eq (folded name) (codes "HKEY_LOCAL_MACHINE") || (bytes_eq (folded name) (codes "HKLM")
    || (bytes_eq (folded name) (codes "HKEY_USERS") || bytes_eq (folded name) (codes "HKU")))

-- where the first name of a key ends, and where the second does
abbrev pub first_end : List ℕ → ℕ
first_end key = position_or_len is_backslash key

abbrev pub second_end : List ℕ → ℕ
second_end key = first_end key + 1 + first_end (drop (first_end key + 1) key)

-- a key's first name, or its first two below a root key that has hives
unfoldable pub hive_front : List ℕ → List ℕ
hive_front key =
    if nat_lt (first_end key) (length key) && has_hives (take (first_end key) key) then take (second_end key) key else take (first_end key) key

-- a unit that stands between single quotes on a command line as it is: no control character, and no such quote
abbrev pub is_typed : ℕ → Bool
is_typed unit = not (is_control unit) && not (unit == 39)

-- some text that doesn't begin as an option does
abbrev pub begins_name : List ℕ → Bool
begins_name [] = false
begins_name (unit ∷ front) = not (unit == 45)

-- some text with no backslash at its end
abbrev pub ends_name : List ℕ → Bool
ends_name [] = false
ends_name (unit ∷ front) = not (get_or (unit ∷ front) (length front) 0 == 92)

-- a front of units that may be typed
abbrev pub may_be_typed : List ℕ → Bool
may_be_typed front = begins_name front && (ends_name front && (nat_le (length front) 200 && list_all is_typed front))

-- one whose units are all of characters, so that it is read as it was typed: no surrogate has no partner
abbrev pub is_hinted : List ℕ → Bool
is_hinted front = may_be_typed front && not (has_unpaired_surrogate front)

-- the option by which a front would stand for the root
unfoldable pub hint : List ℕ → List ℕ
hint front = if is_hinted front then codes "; --prefix '" ++ (shown front ++ codes "' has that stand for it") else []

-- ---- what is told

-- what was found in the place of the root's name: at once the bracket that closes a key, or the first 200 units
unfoldable pub found_told : List ℕ → List ℕ
found_told found = if length found == 0 then codes "]" else shown (take 200 found) ++ hint (hive_front found)

-- whose name was expected
abbrev pub whose : (is_front : Bool) → List ℕ
whose is_front = if is_front then codes ", which --prefix gives," else codes ", the name of the hive's root,"

-- a root's name that was expected, and what was found
unfoldable pub root_told : (root : List ℕ) (is_front : Bool) (found : List ℕ) → List ℕ
root_told root is_front found = shown root ++ (whose is_front ++ (codes " but found " ++ found_told found))

unfoldable pub expected_told : (root : List ℕ) (is_front : Bool) → BadLine → List ℕ
expected_told root is_front bad = if is_root bad.expected then root_told root is_front bad.found else words_of bad.expected

unfoldable pub told_line : (root : List ℕ) (is_front : Bool) → BadLine → List ℕ
told_line root is_front bad = codes "column " ++ (decimal bad.column ++ (codes ": expected " ++ expected_told root is_front bad))
