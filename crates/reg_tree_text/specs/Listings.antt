-- The keys and values of a tree listed as text (this project's own): a line for each.
use Rattle.std.specs.Prelude.{ℕ, ◌+◌, List, [], ◌++◌, codes, drop, flat_map, length}
use Rattle.std.specs.Fmt.{decimal}
use Rattle.std.specs.FinMap.{get}
use Rattle.reg_names.specs.declared.TheConstants.{PATH_LIMIT}
use Rattle.reg_names.specs.Names.{text_of}
use Rattle.reg_heap.specs.Paths.{Path, Tree, Member, children_of}
use Rattle.reg_heap.specs.Edits.{values_at}
use Rattle.reg_text.specs.Texts.{line_feed, escaped}
use Rattle.reg_tree_text.specs.DumpTexts.{Told, name_of, told_from}

-- what stands behind a value's name: its type, and how many bytes it has
unfoldable pub after_name : (kind size : ℕ) → List ℕ
after_name kind size = codes " type " ++ (decimal kind ++ (codes " size " ++ (decimal size ++ line_feed)))

-- the line of a value of that name and type and of so many bytes
unfoldable pub value_line : (name : List ℕ) (kind size : ℕ) → List ℕ
value_line name kind size = codes "value =" ++ (escaped name ++ after_name kind size)

-- the lines of some values, in their order
abbrev pub value_lines : List Member → List ℕ
value_lines values = flat_map (λ (value : Member). value_line value.name value.kind (length value.bytes)) values

-- the line of a key of that name, or at the end of names joined by backslashes
unfoldable pub key_line : List ℕ → List ℕ
key_line name = codes "key =" ++ (escaped name ++ line_feed)

-- what is listed of the key at a path: its values in their order, and the keys right below it in the order of their folded names
unfoldable pub list_text : Tree → Path → List ℕ
list_text tree path =
    value_lines (values_at tree path) ++ flat_map (λ child. key_line (name_of (get tree child))) (children_of tree path)

-- the keys below the one at a path in the order of a dump, each with the names that lead to it from there
unfoldable pub keys_below : Tree → Path → List Told
keys_below tree path = drop 1 (told_from (PATH_LIMIT + 1) tree [] path)

-- the lines of a key below: its own, with the names that lead to it, and those of its values
abbrev pub told_lines : Told → List ℕ
told_lines told = key_line (text_of told.names) ++ value_lines told.key.values

-- what is listed of the key at a path and of all below it: its values, and each key below with that one's values
unfoldable pub tree_text : Tree → Path → List ℕ
tree_text tree path = value_lines (values_at tree path) ++ flat_map told_lines (keys_below tree path)
