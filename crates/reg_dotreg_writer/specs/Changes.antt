-- What changes from one tree of keys to another, as a registration file ("Windows Registry Editor Version 5.00") that is to be imported
-- into the old tree (this project's own): first which keys and values are gone, then which have come or changed. Keys and values alone
-- are told: no times, classes, marks or descriptors, no order of values, and not how the name of a key is spelt that both trees have.
use Rattle.std.specs.Prelude.{◌≡◌, ℕ, ◌&&◌, ◌||◌, not, Bool, true, false, if◌then◌else◌, bytes_eq, List, [], ◌∷◌, ◌++◌, map}
use Rattle.std.specs.Prelude.{flat_map, filter, find, Option, Some, None, is_some}
use Rattle.std.specs.List.{list_all, list_any}
use Rattle.std.specs.FinMap.{get}
use Rattle.reg_names.specs.Names.{folded, text_of}
use Rattle.reg_heap.specs.Paths.{Tree, Rec, Member}
use Rattle.reg_heap.specs.Members.{value_named}
use Rattle.reg_tree_text.specs.DumpTexts.{Told, name_of, keys_told}
use Rattle.reg_diff.specs.Differences.{same_member}
use Rattle.reg_dotreg_writer.specs.EntryTexts.{line_end, name_told, value_entry}
use Rattle.reg_dotreg_writer.specs.Entries.{heading, key_line, is_line_name}
use Rattle.reg_dotreg_writer.specs.declared.side.Side.{Side}
use Rattle.reg_dotreg_writer.specs.declared.side.Side.TheVariants.{Old, New}

abbrev pub is_new : Side → Bool
is_new Old = false
is_new New = true

-- ---- what is told

-- whether a value of one tree stands in the other too, where this one has its name there: one of the old tree where its name is spelt
-- alike, one of the new tree where name, type and bytes are the same
abbrev pub is_kept : Option Member → Side → Member → Bool
is_kept None side value = false
is_kept (Some other) Old value = bytes_eq value.name other.name
is_kept (Some other) New value = same_member value other

-- whether a value of a key is told, where the other tree has this key at its path: of a key that is gone none is, of one that has come
-- each
abbrev pub is_told : Option Rec → Side → Member → Bool
is_told None side value = is_new side
is_told (Some other) side value = not (is_kept (value_named value.name other.values) side value)

-- what is told of a key: of which tree it is, and whether this one alone has it; the names that lead to it from the root, joined by
-- backslashes; and values: of the old tree those that are gone, of the new one those that are set
pub record Change : Type 0 where
  pub side : Side
  pub is_alone : Bool
  pub path : List ℕ
  pub values : List Member

-- of a key, where the other tree has this at its path: nothing, where that has the key and no value is told
abbrev pub change_here : Side → (path : List ℕ) → Rec → Option Rec → List Change
change_here side path key other =
    if not (is_some other) || list_any (is_told other side) key.values
    then record { side = side; is_alone = not (is_some other); path = path; values = filter (is_told other side) key.values } ∷ []
    else []

-- of the keys of a tree, in the order of a dump, against the other one
abbrev pub changes_of : Side → (tree other : Tree) → List Change
changes_of side tree other = flat_map (λ (told : Told). change_here side (text_of told.names) told.key (get other (map folded told.names))) (keys_told tree)

-- of the old tree's keys, and then of the new one's
unfoldable pub changes : (old new : Tree) → List Change
changes old new = changes_of Old old new ++ changes_of New new old

-- ---- the text

-- the names that lead to a key, the root's first
abbrev pub rooted : (root path : List ℕ) → List ℕ
rooted root [] = root
rooted root (b ∷ path) = root ++ 92 ∷ b ∷ path

-- the line of a key that is gone, with all below it
unfoldable pub gone_line : List ℕ → List ℕ
gone_line path = 91 ∷ 45 ∷ (path ++ 93 ∷ line_end)

-- the entry of a value: that it is gone, or what it is
abbrev pub value_change : Side → Member → List ℕ
value_change Old value = name_told value.name ++ (61 ∷ 45 ∷ line_end)
value_change New value = value_entry value.name value.kind value.bytes

-- the line of a key
abbrev pub change_line : (root : List ℕ) → Change → List ℕ
change_line root change =
    if change.is_alone && not (is_new change.side) then gone_line (rooted root change.path) else key_line (rooted root change.path)

-- a block: the line of a key, the entries of its values, and an empty line
abbrev pub change_block : (root : List ℕ) → Change → List ℕ
change_block root change = change_line root change ++ (flat_map (value_change change.side) change.values ++ line_end)

-- the units of the text, in which the root has the name that it has in the old tree
unfoldable pub changes_text : (old new : Tree) → List ℕ
changes_text old new = heading ++ flat_map (change_block (name_of (get old []))) (changes old new)

-- ---- what can be written

-- what is told of a key with names, those that lead to it and those of its values, on one line each
abbrev pub is_writable_change : (root : List ℕ) → Change → Bool
is_writable_change root change =
    is_line_name (rooted root change.path) && list_all (λ (value : Member). is_line_name value.name) change.values

-- no name that is told has a CR or an LF
abbrev pub CanWriteChanges : (old new : Tree) → Type 0
CanWriteChanges old new = list_all (is_writable_change (name_of (get old []))) (changes old new) ≡ true

-- what is told of the first key with a name that can't be written
abbrev pub unwritable_change : (old new : Tree) → Option Change
unwritable_change old new = find (λ change. not (is_writable_change (name_of (get old [])) change)) (changes old new)
