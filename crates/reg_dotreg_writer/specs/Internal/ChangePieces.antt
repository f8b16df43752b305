-- The bytes of a file of changes in the pieces in which they are gathered (this project's own).
use Rattle.std.specs.Prelude.{ℕ, ◌||◌, not, Bool, if◌then◌else◌, List, [], ◌∷◌, ◌++◌, flat_map, Option}
use Rattle.std.specs.FinMap.{get}
use Rattle.reg_heap.specs.Paths.{Tree, Rec, Member}
use Rattle.reg_tree_text.specs.DumpTexts.{name_of}
use Rattle.reg_dotreg_writer.specs.EntryTexts.{line_end, name_told}
use Rattle.reg_dotreg_writer.specs.Entries.{is_line_name}
use Rattle.reg_dotreg_writer.specs.Changes.{Change, changes, is_told, change_line}
use Rattle.reg_dotreg_writer.specs.Internal.Pieces.{plain, entry_pieces, head_pieces}
use Rattle.reg_dotreg_writer.specs.declared.side.Side.{Side}
use Rattle.reg_dotreg_writer.specs.declared.side.Side.TheVariants.{Old, New}

-- the entry of a value
abbrev pub value_pieces : (is_utf8 : Bool) → Side → Member → List ℕ
value_pieces is_utf8 Old value = plain is_utf8 (name_told value.name) ++ plain is_utf8 (61 ∷ 45 ∷ line_end)
value_pieces is_utf8 New value = entry_pieces is_utf8 value.name value.kind value.bytes

-- that of a value if it is told, where the other tree has this key
abbrev pub told_pieces : (is_utf8 : Bool) → Option Rec → Side → Member → List ℕ
told_pieces is_utf8 other side value = if is_told other side value then value_pieces is_utf8 side value else []

-- those of some values
abbrev pub all_told_pieces : (is_utf8 : Bool) → Option Rec → Side → List Member → List ℕ
all_told_pieces is_utf8 other side values = flat_map (told_pieces is_utf8 other side) values

-- a value that isn't told, or whose name stands on one line
abbrev pub is_fine : Option Rec → Side → Member → Bool
is_fine other side value = not (is_told other side value) || is_line_name value.name

-- the block of a key
abbrev pub change_pieces : (is_utf8 : Bool) → (root : List ℕ) → Change → List ℕ
change_pieces is_utf8 root change =
    plain is_utf8 (change_line root change) ++ (flat_map (value_pieces is_utf8 change.side) change.values ++ plain is_utf8 line_end)

-- those of all keys
abbrev pub body_pieces : (is_utf8 : Bool) → (old new : Tree) → List ℕ
body_pieces is_utf8 old new = flat_map (change_pieces is_utf8 (name_of (get old []))) (changes old new)

-- the file
unfoldable pub changes_pieces : (is_utf8 : Bool) → (old new : Tree) → List ℕ
changes_pieces is_utf8 old new = head_pieces is_utf8 ++ body_pieces is_utf8 old new
