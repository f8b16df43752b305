-- The entries that the keys of a tree stand for (this project's own).
use Rattle.std.specs.Prelude.{List, [], ◌∷◌, map, drop, flat_map}
use Rattle.std.specs.FinMap.{get}
use Rattle.reg_names.specs.Names.{text_of}
use Rattle.reg_heap.specs.Paths.{Path, Tree, Member}
use Rattle.reg_tree_text.specs.DumpTexts.{Told, name_of}
use Rattle.reg_dotreg_writer.specs.Entries.{keys_from}
use Rattle.reg_dotreg_reader.specs.declared.entry.Entry.{Entry}
use Rattle.reg_dotreg_reader.specs.declared.entry.Entry.TheVariants.{Key, Value}

-- the entry that sets a value
abbrev pub entry_of_value : Member → Entry
entry_of_value value = Value value.name value.kind value.bytes

-- the entries that a key's block stands for: the key, by the names that lead to it from the root, and its values
abbrev pub entries_of_key : Told → List Entry
entries_of_key told = Key (text_of (drop 1 told.names)) ∷ map entry_of_value told.key.values

-- those of a tree's keys from the one at a path on, in the order of a dump
abbrev pub entries_below : Tree → Path → List Entry
entries_below tree path = flat_map entries_of_key (keys_from (name_of (get tree [])) tree path)

-- those of all its keys
abbrev pub entries_due : Tree → List Entry
entries_due tree = entries_below tree []
