-- What the lines of a .reg text say (regedit's formats, version 5.00 and REGEDIT4), of keys below a root of a name.
use Rattle.std.specs.Prelude.{◌≡◌, ℕ, ◌==◌, ◌&&◌, ◌||◌, nat_lt, not, Bool, true, false, if◌then◌else◌, List, [], ◌∷◌, ◌++◌, codes, length, drop}
use Rattle.std.specs.Prelude.{Option, Some, None, option_map, option_and_then, Result, Ok, Err}
use Rattle.std.specs.Option.{option_or, unwrap_or}
use Rattle.std.specs.List.{list_all, position_or_len, before_first, after_first}
use Rattle.std.specs.Str.{bytes_eq}
use Rattle.std.specs.Int.{to_le_bytes, w32}
use Rattle.reg_names.specs.Names.{fold, folded, is_backslash, is_value_name, is_value_name_byte, is_path}
use Rattle.reg_dotreg_reader.specs.declared.entry.Entry.{Entry}
use Rattle.reg_dotreg_reader.specs.declared.entry.Entry.TheVariants.{Key, GoneKey, Value, GoneValue}
use Rattle.reg_dotreg_reader.specs.declared.entry.Numbered.{Numbered}
use Rattle.reg_dotreg_reader.specs.declared.fault.ReadFault.{ReadFault}
use Rattle.reg_dotreg_reader.specs.declared.fault.ReadFault.TheVariants.{Line as LineFault, Encoding, Memory}
use Rattle.reg_dotreg_reader.specs.EntryWords.{behind_blanks, before_blanks, trimmed, before_mark, behind_word, behind_or, number_of}
use Rattle.reg_dotreg_reader.specs.EntryWords.{list_bytes, quoted, unit_bytes, plain_bytes}
use Rattle.reg_dotreg_reader.specs.EntryLines.{is_feed, Line, lines_of, without_return, whole_lines}

-- ---- names of roots

-- the long form of a root key's short name, in capital letters
abbrev pub long_of : List ℕ → Option (List ℕ)
long_of name =
    if bytes_eq name (codes "HKLM") then Some (codes "HKEY_LOCAL_MACHINE")
    else if bytes_eq name (codes "HKCU") then Some (codes "HKEY_CURRENT_USER")
    else if bytes_eq name (codes "HKCR") then Some (codes "HKEY_CLASSES_ROOT")
    else if bytes_eq name (codes "HKU") then Some (codes "HKEY_USERS")
    else if bytes_eq name (codes "HKCC") then Some (codes "HKEY_CURRENT_CONFIG")
    else None

-- that of one in letters of either case
abbrev pub long_name : List ℕ → Option (List ℕ)
long_name name = long_of (folded name)

-- a text with its first name, which ends before a backslash or with the text, in the long form; `None` where that has none
unfoldable pub lengthened : List ℕ → Option (List ℕ)
lengthened text =
    option_map (λ long. long ++ drop (position_or_len is_backslash text) text) (long_name (before_first is_backslash text))

-- a text in its long form
abbrev pub long_form : List ℕ → List ℕ
long_form text = unwrap_or (lengthened text) text

-- ---- lines of keys

-- what stands behind a name, where some units begin with it, letters of either case
unfoldable pub behind_name : (name units : List ℕ) → Option (List ℕ)
behind_name [] units = Some units
behind_name (c ∷ name) [] = None
behind_name (c ∷ name) (u ∷ units) = if fold u == fold c then behind_name name units else None

-- names of characters of the profile that make a path of one name or more
abbrev pub is_way : List ℕ → Bool
is_way path = nat_lt 0 (length path) && (list_all is_value_name_byte path && is_path path)

-- what stands behind the root's name, of no names where nothing stands there, else a backslash and a path
abbrev pub way_behind : List ℕ → Option (List ℕ)
way_behind [] = Some []
way_behind (u ∷ path) = if u == 92 && is_way path then Some path else None

-- one backslash at the end is passed over
abbrev pub without_backslash : List ℕ → List ℕ
without_backslash units = unwrap_or (before_mark 92 units) units

-- the path behind the root's name
abbrev pub path_behind : List ℕ → Option (List ℕ)
path_behind units = way_behind (without_backslash units)

-- the path of a key below the root of that name, both in their long forms
unfoldable pub way_below : (root units : List ℕ) → Option (List ℕ)
way_below root units = option_and_then path_behind (behind_name root units)

-- the path of a key below the root of that name, which is in its long form
abbrev pub path_below : (root units : List ℕ) → Option (List ℕ)
path_below root units = way_below root (long_form units)

-- a key that goes: `-` before the root's name
abbrev pub gone_below : (root units : List ℕ) → Option (List ℕ)
gone_below root units = option_and_then (path_below root) (behind_word (codes "-") units)

-- what stands between brackets: a key that is made, or else one that goes
unfoldable pub bracketed : (root units : List ℕ) → Option Entry
bracketed root units = option_or (option_map Key (path_below root units)) (option_map GoneKey (gone_below root units))

-- a key's line behind the bracket that opens it
abbrev pub key_said : (root line : List ℕ) → Option Entry
key_said root line = option_and_then (bracketed root) (before_mark 93 line)

-- ---- lines of values

-- a value's name, on one line
abbrev pub is_line_name : List ℕ → Bool
is_line_name units = is_value_name units && list_all (λ u. not (is_feed u)) units

-- a value's name that is one, with what stands behind it
abbrev pub if_name : (List ℕ × List ℕ) → Option (List ℕ × List ℕ)
if_name read = if is_line_name read.0 then Some read else None

-- the name that a value's line begins with, and what stands behind it: `@` is the empty name, each other one stands in quotes
unfoldable pub name_read : List ℕ → Option (List ℕ × List ℕ)
name_read line =
    behind_or (codes "@") (λ rest. Some ([], rest))
    (behind_or (codes "\"") (λ rest. option_and_then if_name (quoted rest)) None line) line

-- a text, behind the quote that opens it: type 1, its units and a zero; nothing stands behind the quote that closes it
unfoldable pub text_data : List ℕ → Option (ℕ × List ℕ)
text_data rest =
    option_and_then (λ read. if length read.1 == 0 then Some (1, unit_bytes (read.0 ++ 0 ∷ [])) else None) (quoted rest)

-- a number of 32 bits: type 4, four bytes, the low one first
unfoldable pub number_data : List ℕ → Option (ℕ × List ℕ)
number_data digits = option_map (λ number. (4, to_le_bytes w32 number)) (number_of 8 digits)

-- the types of texts
abbrev pub is_text_kind : ℕ → Bool
is_text_kind kind = kind == 1 || (kind == 2 || kind == 7)

-- what some bytes of a type stand for: in a narrow text (one of REGEDIT4) those of a text are characters of one byte
abbrev pub stored : (is_narrow : Bool) (kind : ℕ) → List ℕ → Option (List ℕ)
stored is_narrow kind bytes = if is_narrow && is_text_kind kind then plain_bytes bytes else Some bytes

-- bytes of a type
abbrev pub typed_bytes : (is_narrow : Bool) (kind : ℕ) → List ℕ → Option (ℕ × List ℕ)
typed_bytes is_narrow kind list = option_map (λ bytes. (kind, bytes)) (option_and_then (stored is_narrow kind) (list_bytes list))

abbrev pub is_close : ℕ → Bool
is_close unit = unit == 41

-- a type in digits, closed by `)`, then a colon and the bytes
unfoldable pub kind_data : (is_narrow : Bool) → List ℕ → Option (ℕ × List ℕ)
kind_data is_narrow text =
    option_and_then (λ kind. behind_or (codes ":") (typed_bytes is_narrow kind) None (after_first is_close text))
    (number_of 8 (before_first is_close text))

-- what stands behind `hex`: a colon and the bytes, of type 3; or a type in parentheses
unfoldable pub bytes_data : (is_narrow : Bool) → List ℕ → Option (ℕ × List ℕ)
bytes_data is_narrow rest = behind_or (codes ":") (typed_bytes is_narrow 3) (behind_or (codes "(") (kind_data is_narrow) None rest) rest

-- a value's type and bytes: a text in quotes, a number, or bytes
unfoldable pub data_of : (is_narrow : Bool) → List ℕ → Option (ℕ × List ℕ)
data_of is_narrow text =
    behind_or (codes "\"") text_data
    (behind_or (codes "dword:") number_data (behind_or (codes "hex") (bytes_data is_narrow) None text) text) text

-- what stands behind a value's `=`: `-` takes the value away, else it gets type and bytes
unfoldable pub valued : (is_narrow : Bool) (name text : List ℕ) → Option Entry
valued is_narrow name text =
    if bytes_eq text (codes "-") then Some (GoneValue name)
    else option_map (λ (d : ℕ × List ℕ). Value name d.0 d.1) (data_of is_narrow text)

-- a value's line: a name, `=` with blanks around it or without, and the rest
unfoldable pub value_said : (is_narrow : Bool) → List ℕ → Option Entry
value_said is_narrow line =
    option_and_then (λ (read : List ℕ × List ℕ).
    option_and_then (λ rest. valued is_narrow read.0 (behind_blanks rest)) (behind_word (codes "=") (behind_blanks read.1))) (name_read line)

-- ---- lines

-- what a line says, without blanks at both ends: nothing (an empty line or a comment), or an entry; `None` where it isn't understood
abbrev pub said_by : (root : List ℕ) (is_narrow : Bool) (line : List ℕ) → Option (Option Entry)
said_by root is_narrow [] = Some None
said_by root is_narrow (u ∷ us) =
    if u == 59 then Some None
    else if u == 91 then option_map Some (key_said root us)
    else if u == 34 || u == 64 then option_map Some (value_said is_narrow (u ∷ us))
    else None

unfoldable pub said : (root : List ℕ) (is_narrow : Bool) (line : List ℕ) → Option (Option Entry)
said root is_narrow line = said_by root is_narrow (trimmed line)

-- ---- texts

-- whether an entry is of a key
abbrev pub is_key : Entry → Bool
is_key (Key path) = true
is_key (GoneKey path) = true
is_key (Value name kind bytes) = false
is_key (GoneValue name) = false

-- whether values may stand behind an entry: behind a key that is made they may, behind one that goes they may not
abbrev pub takes_values : (before : Bool) → Entry → Bool
takes_values before (Key path) = true
takes_values before (GoneKey path) = false
takes_values before (Value name kind bytes) = before
takes_values before (GoneValue name) = before

-- the entries of a text, or the number of its first line that isn't understood
abbrev pub Reading : Type 0
Reading = Result (List Numbered) ℕ

-- the first entries before the others
abbrev pub with_entries : List Numbered → Reading → Reading
with_entries first (Ok others) = Ok (first ++ others)
with_entries first (Err number) = Err number

-- what is read of a line, and then of those behind it: values may stand there or not
abbrev pub one_read : (number : ℕ) (is_open : Bool) → Option (Option Entry) → (Bool → Reading) → Reading
one_read number is_open None others = Err number
one_read number is_open (Some None) others = others is_open
one_read number is_open (Some (Some entry)) others =
    if is_key entry || is_open then with_entries (record { line = number; entry = entry } ∷ []) (others (takes_values is_open entry))
    else Err number

-- what is read of lines in turn
unfoldable pub entries_from : (root : List ℕ) (is_narrow is_open : Bool) → List Line → Reading
entries_from root is_narrow is_open [] = Ok []
entries_from root is_narrow is_open (line ∷ lines) =
    one_read line.number is_open (said root is_narrow line.units) (λ open_then. entries_from root is_narrow open_then lines)

-- the first line of a text, and that of a narrow one
abbrev pub title : List ℕ
title = codes "Windows Registry Editor Version 5.00"

abbrev pub narrow_title : List ℕ
narrow_title = codes "REGEDIT4"

-- whether a text of that first line is narrow; `None` where the line is no title
abbrev pub is_narrow_by : List ℕ → Option Bool
is_narrow_by line = if bytes_eq line title then Some false else if bytes_eq line narrow_title then Some true else None

-- the lines behind the title, where it is the first of them, and whether they are narrow
abbrev pub untitled : List (List ℕ) → Option (Bool × List (List ℕ))
untitled [] = None
untitled (line ∷ lines) = option_map (λ is_narrow. (is_narrow, lines)) (is_narrow_by (before_blanks (without_return line)))

-- what is read of the lines behind the title: values may stand once a key's line was there
abbrev pub entries_behind : (root : List ℕ) (is_narrow : Bool) → List (List ℕ) → Reading
entries_behind root is_narrow lines = entries_from root is_narrow false (whole_lines 0 2 lines)

-- without the title line 1 isn't understood
abbrev pub titled : (root : List ℕ) → Option (Bool × List (List ℕ)) → Reading
titled root None = Err 1
titled root (Some behind) = entries_behind root behind.0 behind.1

-- the entries of a text below a root of that name, in its order
unfoldable pub entries_in : (root text : List ℕ) → Reading
entries_in root text = titled (long_form root) (untitled (lines_of text))

-- why a text wasn't read: its first line that isn't understood has that number; or memory was refused
abbrev pub IsRefused : Reading → ReadFault → Type 0
IsRefused reading (LineFault number) = reading ≡ Err number
IsRefused reading Encoding = ⊥
IsRefused reading Memory = Unit {0}
