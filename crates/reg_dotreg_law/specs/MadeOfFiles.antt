-- What a file that was written of a tree makes, when it is read and applied to another tree (this project's own).
use Rattle.std.specs.Prelude.{◌≡◌, ℕ, List, [], Bool, Option, Some, Ok}
use Rattle.std.specs.FinMap.{get}
use Rattle.reg_heap.specs.Paths.{Path, Tree}
use Rattle.reg_tree_text.specs.DumpTexts.{name_of}
use Rattle.reg_dotreg_writer.specs.Entries.{root_shown, entries_text, file_bytes}
use Rattle.reg_dotreg_writer.specs.Changes.{changes_text}
use Rattle.reg_dotreg_reader.specs.declared.entry.Numbered.{Numbered}
use Rattle.reg_dotreg_reader.specs.EntryMeanings.{entries_in}
use Rattle.reg_dotreg_reader.specs.FileUnits.{units_of}
use Rattle.reg_dotreg_import.specs.Imports.{imported, entries_of}
use Rattle.reg_dotreg_law.specs.MadeAgain.{HasSame, HasSameBelow, HasAlike}

-- the bytes of a file have units, which are understood where that name stands for the root's; and applied to a tree at a moment they make
-- a tree
abbrev pub Makes : (bytes name : List ℕ) (other : Tree) (moment : ℕ) (new : Tree) → Type 0
Makes bytes name other moment new =
    (units : List ℕ) × (entries : List Numbered) × (units_of bytes ≡ Some units) × (entries_in name units ≡ Ok entries)
    × (new ≡ imported moment other (entries_of entries))

-- the file of a tree's keys from the one at a path on makes, of another tree, one with just these keys and those on the way to the first.
-- A front that is given stands in it for the root's name, and this name where it is read
abbrev pub IsBranchOfFile : (is_utf8 : Bool) (tree : Tree) (path : Path) (front : Option (List ℕ)) (name : List ℕ) (other : Tree) (moment : ℕ) → Type 0
IsBranchOfFile is_utf8 tree path front name other moment =
    (new : Tree) × Makes (file_bytes is_utf8 (entries_text (root_shown front tree) tree path)) name other moment new × HasSameBelow new tree path

-- the file of a tree makes, of another tree, one with the same keys and values
abbrev pub IsMadeOfFile : (is_utf8 : Bool) (tree : Tree) (front : Option (List ℕ)) (name : List ℕ) (other : Tree) (moment : ℕ) → Type 0
IsMadeOfFile is_utf8 tree front name other moment =
    (new : Tree) × Makes (file_bytes is_utf8 (entries_text (root_shown front tree) tree [])) name other moment new × HasSame new tree

-- the file of the changes from one tree to another makes, of the old one, one with the keys and values of the new one
abbrev pub IsChangedByFile : (is_utf8 : Bool) (old new : Tree) (moment : ℕ) → Type 0
IsChangedByFile is_utf8 old new moment =
    (made : Tree) × Makes (file_bytes is_utf8 (changes_text old new)) (name_of (get old [])) old moment made × HasAlike made new
