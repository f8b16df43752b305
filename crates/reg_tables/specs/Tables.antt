-- The keys and values of a tree as JSON, as lines of JSON and as CSV (this project's own; RFC 8259 and RFC 4180 as serde_json and csv write
-- them).
use Rattle.std.specs.Prelude.{◌≡◌, ℕ, ◌+◌, List, [], ◌∷◌, ◌++◌, codes, map, flat_map, Option, Some, None}
use Rattle.std.specs.Fmt.{decimal}
use Rattle.std.specs.FinMap.{get}
use Rattle.serde_json.specs.Data.{Data, number, unsigned, string, array, object, member, no_members}
use Rattle.serde_json.specs.View.{items_of}
use Rattle.serde_json.specs.Written.{compact_text}
use Rattle.csv.specs.Writing.{default_writer, row_text}
use Rattle.reg_names.specs.declared.TheConstants.{PATH_LIMIT}
use Rattle.reg_names.specs.Names.{text_of}
use Rattle.reg_heap.specs.Paths.{Path, Tree, Member}
use Rattle.reg_text.specs.Texts.{digits_text}
use Rattle.reg_tree_text.specs.DumpTexts.{Told, name_of, told_from}
use Rattle.reg_tree_text.specs.DumpFronts.{IsStopped}
use Rattle.reg_tree_text.specs.ValueTexts.{value_told}
use Rattle.reg_tree_text.specs.PathQueries.{key_at}
use Rattle.reg_tree_text.specs.declared.path_fault.PathFault.{PathFault}
use Rattle.reg_tree_text.specs.declared.path_fault.PathFault.TheVariants.{NoKey, NoValue, Stopped}
use Rattle.reg_tables.specs.SecurityTexts.{security_told}
use Rattle.reg_tables.specs.Times.{time_text}
use Rattle.reg_tables.specs.ValueForms.{data_of}
use Rattle.reg_tables.specs.FormsTold.{form_told}

-- the names of the keys from one on that are on the way along a path below it, as given
unfoldable pub names_along : Tree → (above path : List (List ℕ)) → List (List ℕ)
names_along tree above [] = []
names_along tree above (name ∷ path) = name_of (get tree (above ++ name ∷ [])) ∷ names_along tree (above ++ name ∷ []) path

-- the names that lead to a key from the root, as given
abbrev pub names_to : Tree → Path → List (List ℕ)
names_to tree path = names_along tree [] path

-- the key at a path and those below it, in the order of a dump, each with the names that lead to it from the root
unfoldable pub keys_from : Tree → Path → List Told
keys_from tree path = told_from (PATH_LIMIT + 1) tree (names_to tree path) path

-- ---- JSON

-- a value: its name, its type and its data
abbrev pub value_data : Member → Data
value_data value =
    object (member (codes "name") (string value.name) (member (codes "type") (number (unsigned value.kind))
    (member (codes "data") (data_of value.kind value.bytes) no_members)))

-- a key: its path, its time, its marks, the bytes of its class, its descriptor, and its values in their order
abbrev pub key_data : Told → Data
key_data told =
    object (member (codes "path") (string (text_of told.names)) (member (codes "time") (string (time_text told.key.time))
    (member (codes "marks") (number (unsigned told.key.marks)) (member (codes "class") (string (digits_text told.key.class))
    (member (codes "security") (string (security_told told.key.descriptor))
    (member (codes "values") (array (items_of (map value_data told.key.values))) no_members))))))

-- the text of a key, in one line
unfoldable pub key_text : Told → List ℕ
key_text told = compact_text (key_data told)

-- keys behind another one, each on a line of its own
unfoldable pub more_text : Told → List ℕ
more_text told = codes ",\n" ++ key_text told

-- some keys, parted by commas
abbrev pub keys_text : List Told → List ℕ
keys_text [] = []
keys_text (told ∷ rest) = key_text told ++ flat_map more_text rest

-- the key at a path and all below it as an array, each on a line of its own
unfoldable pub json_text : Tree → Path → List ℕ
json_text tree path = codes "[\n" ++ (keys_text (keys_from tree path) ++ codes "\n]\n")

-- ---- JSON lines

-- the text of a key in a line of its own
unfoldable pub key_line : Told → List ℕ
key_line told = key_text told ++ codes "\n"

-- the key at a path and all below it, each in a line of its own
unfoldable pub jsonl_text : Tree → Path → List ℕ
jsonl_text tree path = flat_map key_line (keys_from tree path)

-- ---- CSV

-- the first row, which names the columns
abbrev pub column_names : List (List ℕ)
column_names = codes "kind" ∷ codes "path" ∷ codes "time" ∷ codes "name" ∷ codes "type" ∷ codes "form" ∷ codes "data" ∷ []

-- the row of a key: its path and its time
abbrev pub key_row : (path : List ℕ) (time : ℕ) → List (List ℕ)
key_row path time = codes "key" ∷ path ∷ time_text time ∷ [] ∷ [] ∷ [] ∷ [] ∷ []

-- the row of a value of a key: the key's path, and its own name, type, form and data
abbrev pub value_row : (path : List ℕ) → Member → List (List ℕ)
value_row path value =
    codes "value" ∷ path ∷ [] ∷ value.name ∷ decimal value.kind ∷ form_told value.kind value.bytes
    ∷ value_told value.kind value.bytes ∷ []

-- a row's text
unfoldable pub line_text : List (List ℕ) → List ℕ
line_text row = row_text default_writer row

-- the rows of a key's values, in their order
abbrev pub value_rows : (path : List ℕ) → List Member → List ℕ
value_rows path values = flat_map (λ value. line_text (value_row path value)) values

-- the rows of a key: its own, and those of its values
abbrev pub key_rows : Told → List ℕ
key_rows told = line_text (key_row (text_of told.names) told.key.time) ++ value_rows (text_of told.names) told.key.values

-- the key at a path and all below it, a row for each key and each value
unfoldable pub csv_text : Tree → Path → List ℕ
csv_text tree path = line_text column_names ++ flat_map key_rows (keys_from tree path)

-- ---- what ended early

-- why a table wasn't written: no key is there, and nothing was written; or a front of the text was
abbrev pub TableStops : PathFault → Tree → (text : List ℕ) → (table : Path → List ℕ) → (before after : Option (List ℕ)) → Type 0
TableStops NoKey tree text table before after = (key_at tree text ≡ None) × (after ≡ before)
TableStops NoValue tree text table before after = ⊥
TableStops (Stopped fault) tree text table before after =
    (path : Path) × (key_at tree text ≡ Some path) × IsStopped before after (table path) fault
