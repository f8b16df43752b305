-- What the entries of a .reg text make of a tree (this project's own).
use Rattle.std.specs.Prelude.{ℕ, ◌==◌, if◌then◌else◌, List, [], ◌∷◌, map, length, is_some, None}
use Rattle.std.specs.FinMap.{get}
use Rattle.reg_names.specs.Names.{path_of}
use Rattle.reg_heap.specs.Paths.{Path, Tree}
use Rattle.reg_heap.specs.Members.{value_named}
use Rattle.reg_heap.specs.Edits.{values_at, edited, with_value, without_value, folded_path, with_keys, without_tree, emptied}
use Rattle.reg_model.specs.Worlds.{Handle}
use Rattle.reg_dotreg_reader.specs.declared.entry.Entry.{Entry}
use Rattle.reg_dotreg_reader.specs.declared.entry.Entry.TheVariants.{Key, GoneKey, Value, GoneValue}
use Rattle.reg_dotreg_reader.specs.declared.entry.Numbered.{Numbered}

-- a tree, and the path of the key that values go to
pub record Stand : Type 0 where
  pub tree : Tree
  pub here : Path

-- a key gone with all keys below it, where it is there; of the root, by the empty path, all keys below it and its values
abbrev pub without_any_key : Tree → List ℕ → ℕ → Tree
without_any_key tree path moment =
    if length path == 0 then emptied tree [] moment else
    (if is_some (get tree (folded_path path)) then without_tree tree (folded_path path) moment else tree)

-- a value gone, where the key at a path has one of that name
abbrev pub without_any_value : Tree → Path → List ℕ → ℕ → Tree
without_any_value tree here name moment =
    if is_some (value_named name (values_at tree here)) then edited tree here (without_value name moment) else tree

-- one entry, at a moment: all keys of a path made that are missing, and values go to the last from here on; a key gone; a value set;
-- a value gone
abbrev pub after_entry : ℕ → Stand → Entry → Stand
after_entry moment s (Key path) = record { tree = with_keys s.tree [] (path_of path) None moment; here = folded_path path }
after_entry moment s (GoneKey path) = record s { tree = without_any_key s.tree path moment }
after_entry moment s (Value name kind bytes) = record s { tree = edited s.tree s.here (with_value name kind bytes moment) }
after_entry moment s (GoneValue name) = record s { tree = without_any_value s.tree s.here name moment }

-- some entries, one after another
abbrev pub after_entries : ℕ → Stand → List Entry → Stand
after_entries moment s [] = s
after_entries moment s (e ∷ es) = after_entries moment (after_entry moment s e) es

-- where it begins: values before the first key are the root's
abbrev pub begun : Tree → Stand
begun tree = record { tree = tree; here = [] }

-- the tree that they make
abbrev pub imported : ℕ → Tree → List Entry → Tree
imported moment tree entries = (after_entries moment (begun tree) entries).tree

-- the entries without the numbers of their lines
abbrev pub entries_of : List Numbered → List Entry
entries_of = map (λ (n : Numbered). n.entry)

-- the numbers of handles
abbrev pub numbers_of : List Handle → List ℕ
numbers_of = map (λ (h : Handle). h.number)
