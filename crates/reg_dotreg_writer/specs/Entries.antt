-- A tree of keys, from one of them on, as a registration file ("Windows Registry Editor Version 5.00"): its units, and its bytes.
use Rattle.std.specs.Prelude.{◌≡◌, ℕ, ◌+◌, ◌/◌, ◌%◌, ◌==◌, ◌&&◌, not, Bool, true, false, List, [], ◌∷◌, ◌++◌, length, get_or, codes, flat_map, find}
use Rattle.std.specs.Prelude.{Option, Some, None, encode_utf8_all}
use Rattle.std.specs.List.{list_all}
use Rattle.std.specs.FinMap.{get}
use Rattle.std.specs.Char.Utf16.{utf16_lossy_chars}
use Rattle.reg_names.specs.declared.TheConstants.{PATH_LIMIT}
use Rattle.reg_names.specs.Names.{text_of, is_value_name_byte}
use Rattle.reg_heap.specs.Paths.{Path, Tree, Member}
use Rattle.reg_tree_text.specs.DumpTexts.{Told, name_of, told_from}
use Rattle.reg_dotreg_writer.specs.EntryTexts.{line_end, is_line_unit, value_entry}

-- ---- the keys

-- the names of the keys on a path from one on, as given
abbrev pub names_behind : Tree → Path → Path → List (List ℕ)
names_behind tree path [] = []
names_behind tree path (name ∷ rest) = name_of (get tree (path ++ name ∷ [])) ∷ names_behind tree (path ++ name ∷ []) rest

-- what stands for the root's name in a text: a front that is given, or the name itself
abbrev pub root_shown : (front : Option (List ℕ)) → Tree → List ℕ
root_shown (Some front) tree = front
root_shown None tree = name_of (get tree [])

-- what stands for the root's name, and the names of the keys that lead from the root to the key at a path, as given
abbrev pub names_to : (root : List ℕ) → Tree → Path → List (List ℕ)
names_to root tree path = root ∷ names_behind tree [] path

-- the key at a path and those below it in the order of a dump, each with the names that lead to it, the root's first
unfoldable pub keys_from : (root : List ℕ) → Tree → Path → List Told
keys_from root tree path = told_from (PATH_LIMIT + 1) tree (names_to root tree path) path

-- ---- the text

-- the first line, and an empty one
unfoldable pub heading : List ℕ
heading = codes "Windows Registry Editor Version 5.00\r\n\r\n"

-- the line of a key: the names that lead to it, joined by backslashes, between brackets
unfoldable pub key_line : List ℕ → List ℕ
key_line path = 91 ∷ (path ++ 93 ∷ line_end)

-- the entries of some values, in their order
abbrev pub value_entries : List Member → List ℕ
value_entries values = flat_map (λ (value : Member). value_entry value.name value.kind value.bytes) values

-- the block of a key: its line, the entries of its values, and an empty line
abbrev pub key_block : Told → List ℕ
key_block told = key_line (text_of told.names) ++ (value_entries told.key.values ++ line_end)

-- the units of the text of the keys from the one at a path on
unfoldable pub entries_text : (root : List ℕ) → Tree → Path → List ℕ
entries_text root tree path = heading ++ flat_map key_block (keys_from root tree path)

-- ---- what can be written

-- a name on one line
abbrev pub is_line_name : List ℕ → Bool
is_line_name name = list_all is_line_unit name

-- some text before which no bracket says that its key is gone, and behind which a backslash and a name may stand
abbrev pub begins_path : List ℕ → Bool
begins_path [] = false
begins_path (character ∷ front) = not (character == 45) && not (get_or (character ∷ front) (length front) 0 == 92)

-- what can stand for the root's name: such a text of characters of the profile, on one line
abbrev pub is_front : List ℕ → Bool
is_front front = begins_path front && (list_all is_value_name_byte front && is_line_name front)

-- where a front is given, it can
abbrev pub can_stand : (front : Option (List ℕ)) → Bool
can_stand (Some front) = is_front front
can_stand None = true

-- a key whose names, those that lead to it and those of its values, stand on one line
abbrev pub is_writable : Told → Bool
is_writable told = list_all is_line_name told.names && list_all (λ (value : Member). is_line_name value.name) told.key.values

-- no name has a CR or an LF: of the key at a path, of those on the way to it, of those below it, and of their values
abbrev pub CanWrite : (root : List ℕ) → Tree → Path → Type 0
CanWrite root tree path = list_all is_writable (keys_from root tree path) ≡ true

-- the first key with a name that can't be written
abbrev pub unwritable : (root : List ℕ) → Tree → Path → Option Told
unwritable root tree path = find (λ told. not (is_writable told)) (keys_from root tree path)

-- ---- the bytes

-- a unit of UTF-16, the low byte first
abbrev pub unit_bytes : ℕ → List ℕ
unit_bytes unit = unit % 256 ∷ unit / 256 ∷ []

-- units in UTF-8 or in UTF-16
unfoldable pub encoded : (is_utf8 : Bool) → List ℕ → List ℕ
encoded true units = encode_utf8_all (utf16_lossy_chars units)
encoded false units = flat_map unit_bytes units

-- what stands before the text: the mark of UTF-16, the low byte first; nothing before UTF-8
abbrev pub mark : (is_utf8 : Bool) → List ℕ
mark true = []
mark false = 255 ∷ 254 ∷ []

-- the bytes of a file with a text
unfoldable pub file_bytes : (is_utf8 : Bool) → List ℕ → List ℕ
file_bytes is_utf8 units = mark is_utf8 ++ encoded is_utf8 units
