-- What is written of a tree, read: the same units, and the same keys and values (this project's own).
use Rattle.std.specs.Prelude.{◌≡◌, ℕ, ◌<◌, List, ◌++◌, Bool, true, false, Ok}
use Rattle.std.specs.List.{AllByRecursion}
use Rattle.reg_names.specs.Names.{is_value_name}
use Rattle.reg_heap.specs.Paths.{Path, Tree, Member}
use Rattle.reg_dotreg_writer.specs.Entries.{is_line_name, entries_text}
use Rattle.reg_dotreg_reader.specs.declared.entry.Entry.{Entry}
use Rattle.reg_dotreg_reader.specs.declared.entry.Numbered.{Numbered}
use Rattle.reg_dotreg_reader.specs.EntryLines.{lines_of, whole_lines}
use Rattle.reg_dotreg_reader.specs.EntryMeanings.{Reading, with_entries, entries_from, entries_in}
use Rattle.reg_dotreg_import.specs.Imports.{entries_of}
use Rattle.reg_dotreg_law.specs.EntriesDue.{entries_below}

-- ---- pieces of a text

-- what is read of a text that isn't narrow and whose first line has this number, of keys below a root in its long form, where values may
-- stand or not
abbrev pub reading : (root : List ℕ) (is_open : Bool) (number : ℕ) (text : List ℕ) → Reading
reading root is_open number text = entries_from root false is_open (whole_lines 0 number (lines_of text))

-- some entries are read of it, and then what is read of a rest
pub record Goes (root : List ℕ) (is_open : Bool) (number : ℕ) (text : List ℕ) (entries : List Entry) (then : Bool) (rest : List ℕ) : Type 0 where
  pub later : ℕ
  pub read : List Numbered
  pub same : entries_of read ≡ entries
  pub is : reading root is_open number text ≡ with_entries read (reading root then later rest)

-- a text says some entries, whatever stands behind it
abbrev pub Says : (root : List ℕ) (is_open : Bool) (text : List ℕ) (entries : List Entry) (then : Bool) → Type 0
Says root is_open text entries then = (number : ℕ) (rest : List ℕ) → Goes root is_open number (text ++ rest) entries then rest

-- ---- values

-- a value whose name is one and stands on one line, whose type has 32 bits, and whose data are bytes
pub record IsKept (value : Member) : Type 0 where
  pub name : is_value_name value.name ≡ true
  pub line : is_line_name value.name ≡ true
  pub kind : value.kind < 4294967296
  pub bytes : AllByRecursion (λ (b : ℕ). b < 256) value.bytes

-- ---- texts

-- the text of a tree's keys from the one at a path on, in which something stands for the root's name, is read, of keys below a root of
-- that name, as the entries that they stand for
abbrev pub IsReadBack : (name shown : List ℕ) → Tree → Path → Type 0
IsReadBack name shown tree path =
    (entries : List Numbered) × (entries_in name (entries_text shown tree path) ≡ Ok entries) × (entries_of entries ≡ entries_below tree path)
