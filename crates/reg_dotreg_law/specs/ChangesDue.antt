-- The entries that the changes from one tree to another stand for, and that their text is read as these (this project's own).
use Rattle.std.specs.Prelude.{◌≡◌, ◌&&◌, not, ℕ, if◌then◌else◌, List, ◌∷◌, map, flat_map, Ok}
use Rattle.reg_heap.specs.Paths.{Tree, Member}
use Rattle.reg_dotreg_writer.specs.Changes.{Change, is_new, changes, changes_text}
use Rattle.reg_dotreg_writer.specs.declared.side.Side.{Side}
use Rattle.reg_dotreg_writer.specs.declared.side.Side.TheVariants.{Old, New}
use Rattle.reg_dotreg_reader.specs.declared.entry.Entry.{Entry}
use Rattle.reg_dotreg_reader.specs.declared.entry.Entry.TheVariants.{Key, GoneKey, Value, GoneValue}
use Rattle.reg_dotreg_reader.specs.declared.entry.Numbered.{Numbered}
use Rattle.reg_dotreg_reader.specs.EntryMeanings.{entries_in}
use Rattle.reg_dotreg_import.specs.Imports.{entries_of}

-- the entry of a value: that it goes, or is set
abbrev pub value_entry_of : Side → Member → Entry
value_entry_of Old value = GoneValue value.name
value_entry_of New value = Value value.name value.kind value.bytes

-- the entry of a key: that it goes, or is made where it is missing
abbrev pub key_entry_of : Change → Entry
key_entry_of change = if change.is_alone && not (is_new change.side) then GoneKey change.path else Key change.path

-- the entries that a block stands for
abbrev pub entries_of_change : Change → List Entry
entries_of_change change = key_entry_of change ∷ map (value_entry_of change.side) change.values

-- those of all changes
abbrev pub changes_due : (old new : Tree) → List Entry
changes_due old new = flat_map entries_of_change (changes old new)

-- the text of the changes is read, of keys below a root of that name, as the entries that they stand for
abbrev pub AreReadBack : (name : List ℕ) → (old new : Tree) → Type 0
AreReadBack name old new =
    (entries : List Numbered) × (entries_in name (changes_text old new) ≡ Ok entries) × (entries_of entries ≡ changes_due old new)
