-- A key listed with what is asked for (this project's own): the times and the descriptors of keys, and the data of values. The lines are those of
-- reg_tree_text's `Listings`, with more in them, or with a zero byte at their ends.
use Rattle.std.specs.Prelude.{ℕ, Bool, true, false, if◌then◌else◌, List, [], ◌∷◌, ◌++◌, codes, flat_map, length, Option, Some, None}
use Rattle.std.specs.Fmt.{decimal}
use Rattle.std.specs.FinMap.{get}
use Rattle.std.specs.Option.{unwrap_or}
use Rattle.reg_names.specs.Names.{text_of}
use Rattle.reg_heap.specs.Paths.{Path, Tree, Rec, Member, children_of}
use Rattle.reg_heap.specs.Edits.{values_at}
use Rattle.reg_text.specs.Texts.{line_feed, escaped, digits_text}
use Rattle.reg_tree_text.specs.DumpTexts.{Told, name_of}
use Rattle.reg_tree_text.specs.Listings.{keys_below}
use Rattle.reg_tables.specs.declared.columns.Columns.{Columns}
use Rattle.reg_tables.specs.SecurityTexts.{sddl_of}
use Rattle.reg_tables.specs.Times.{time_text}
use Rattle.reg_tables.specs.TypedValues.{typed_told}

-- the end of a line
abbrev pub line_end : (ends_by_zero : Bool) → List ℕ
line_end ends_by_zero = if ends_by_zero then 0 ∷ [] else line_feed

-- a line: what it is of, a name or names joined by backslashes, what is told of it, and the end
unfoldable pub line_told : (head name about : List ℕ) (ends_by_zero : Bool) → List ℕ
line_told head name about ends_by_zero = head ++ (escaped name ++ (about ++ line_end ends_by_zero))

-- ---- keys

-- a descriptor: its text, or the bytes of what is none, as `hex:` and two digits each
unfoldable pub descriptor_told : List ℕ → List ℕ
descriptor_told bytes = unwrap_or (sddl_of bytes) (codes "hex:" ++ digits_text bytes)

-- a time, where it is asked for, and a descriptor
abbrev pub time_part : (has_times : Bool) (time : ℕ) → List ℕ
time_part has_times time = if has_times then codes " time " ++ time_text time else []

abbrev pub security_part : (has_securities : Bool) (descriptor : List ℕ) → List ℕ
security_part has_securities descriptor = if has_securities then codes " security " ++ descriptor_told descriptor else []

-- what is told of a key
unfoldable pub key_about : Columns → Rec → List ℕ
key_about columns key = time_part columns.has_times key.time ++ security_part columns.has_securities key.descriptor

-- the line of a key by its name, or by the names that lead to it
abbrev pub key_line : Columns → (name : List ℕ) → Rec → List ℕ
key_line columns name key = line_told (codes "key =") name (key_about columns key) columns.ends_by_zero

-- what is told of a key that was found
abbrev pub found_about : Columns → Option Rec → List ℕ
found_about columns None = []
found_about columns (Some key) = key_about columns key

-- the line of a key that was found, by its name
abbrev pub child_line : Columns → Option Rec → List ℕ
child_line columns found = line_told (codes "key =") (name_of found) (found_about columns found) columns.ends_by_zero

-- ---- values

-- what is told of a value: its type, the form of its data and these, or its type's number and how many bytes it has
unfoldable pub value_about : (is_long : Bool) → Member → List ℕ
value_about is_long value =
    if is_long then codes " " ++ typed_told value.kind value.bytes
    else codes " type " ++ (decimal value.kind ++ (codes " size " ++ decimal (length value.bytes)))

-- the line of a value
abbrev pub value_line : Columns → Member → List ℕ
value_line columns value = line_told (codes "value =") value.name (value_about columns.is_long value) columns.ends_by_zero

-- the lines of some values, in their order
abbrev pub value_lines : Columns → List Member → List ℕ
value_lines columns values = flat_map (value_line columns) values

-- ---- listings

-- the lines of a key below: its own, with the names that lead to it from the listed key, and those of its values
abbrev pub told_lines : Columns → Told → List ℕ
told_lines columns told = key_line columns (text_of told.names) told.key ++ value_lines columns told.key.values

-- the lines of the keys below: of all of them with their values, in the order of a dump; or of those right below, in the order of their
-- folded names
abbrev pub lines_below : Columns → (is_tree : Bool) → Tree → Path → List ℕ
lines_below columns true tree path = flat_map (told_lines columns) (keys_below tree path)
lines_below columns false tree path = flat_map (λ child. child_line columns (get tree child)) (children_of tree path)

-- what is listed of the key at a path: its values in their order, and the keys below
unfoldable pub long_text : Columns → (is_tree : Bool) → Tree → Path → List ℕ
long_text columns is_tree tree path = value_lines columns (values_at tree path) ++ lines_below columns is_tree tree path
