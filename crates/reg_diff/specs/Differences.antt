-- How two trees of keys differ at a path and below it, told as text (this project's own): a line for each key and each value that is gone,
-- has come or changed. Of a key that both have a field may be ignored, or the order of the values: then no line tells that it differs.
use Rattle.std.specs.Prelude.{ℕ, ◌==◌, ◌&&◌, ◌||◌, Bool, if◌then◌else◌, bytes_eq, List, [], ◌∷◌, ◌++◌, codes, flat_map, map, Option, Some, None}
use Rattle.std.specs.Cmp.Lexicographic.{pointwise}
use Rattle.std.specs.Fmt.{decimal}
use Rattle.std.specs.FinMap.{get}
use Rattle.reg_names.specs.Names.{folded, text_of}
use Rattle.reg_heap.specs.Paths.{Path, Tree, Rec, Member}
use Rattle.reg_heap.specs.Members.{value_named}
use Rattle.reg_text.specs.Texts.{line_feed, escaped, digits_text}
use Rattle.reg_tree_text.specs.DumpTexts.{Told}
use Rattle.reg_diff.specs.Branches.{keys_from}
use Rattle.reg_diff.specs.declared.ignored.Ignored.{Ignored}
use Rattle.reg_diff.specs.declared.side.Side.{Side}
use Rattle.reg_diff.specs.declared.side.Side.TheVariants.{Old, New}

-- what is told of a key or a value that one tree alone has: that of the old tree is gone, and that of the new one has come
abbrev pub word : Side → List ℕ
word Old = codes "gone"
word New = codes "come"

-- a value's name, type and bytes, and what is told behind them
abbrev pub value_then : Member → (behind : List ℕ) → List ℕ
value_then value behind =
    escaped value.name ++ (codes " type " ++ (decimal value.kind ++ (codes " x" ++ (digits_text value.bytes ++ behind))))

-- ---- what one tree alone has

-- the line of a key that one tree alone has
unfoldable pub key_line : Side → (path : List ℕ) → List ℕ
key_line side path = word side ++ (codes " key =" ++ (escaped path ++ line_feed))

-- the line of a value that one tree alone has
unfoldable pub value_line : Side → (path : List ℕ) → Member → List ℕ
value_line side path value = word side ++ (codes " value =" ++ (escaped path ++ (codes " =" ++ value_then value line_feed)))

-- a key that one tree alone has: its line, and those of its values in their order
abbrev pub whole_key : Side → (path : List ℕ) → Rec → List ℕ
whole_key side path key = key_line side path ++ flat_map (value_line side path) key.values

-- ---- what a key holds beside its values, told where it differs

-- the key's own name, as it is spelt
unfoldable pub name_change : (path was is : List ℕ) → List ℕ
name_change path was is =
    if bytes_eq was is then []
    else codes "changed name =" ++ (escaped path ++ (codes " from =" ++ (escaped was ++ (codes " to =" ++ (escaped is ++ line_feed)))))

-- a number of a key, where it isn't ignored
unfoldable pub number_change : (is_ignored : Bool) (what path : List ℕ) (was is : ℕ) → List ℕ
number_change is_ignored what path was is =
    if is_ignored || (was == is) then []
    else codes "changed "
    ++ (what ++ (codes " =" ++ (escaped path ++ (codes " from " ++ (decimal was ++ (codes " to " ++ (decimal is ++ line_feed)))))))

-- bytes of a key, where they aren't ignored
unfoldable pub bytes_change : (is_ignored : Bool) (what path was is : List ℕ) → List ℕ
bytes_change is_ignored what path was is =
    if is_ignored || bytes_eq was is then []
    else codes "changed "
    ++ (what ++ (codes " =" ++ (escaped path ++ (codes " from x" ++ (digits_text was ++ (codes " to x" ++ (digits_text is ++ line_feed)))))))

-- all of these, in this order
unfoldable pub field_changes : Ignored → (path : List ℕ) (was is : Rec) → List ℕ
field_changes ignored path was is =
    name_change path was.name is.name
    ++ (number_change ignored.marks (codes "marks") path was.marks is.marks
    ++ (bytes_change ignored.class (codes "class") path was.class is.class
    ++ (bytes_change ignored.security (codes "security") path was.descriptor is.descriptor
    ++ number_change ignored.time (codes "time") path was.time is.time)))

-- ---- the values of a key that both trees have

-- whether two values are the same: in spelling, type and bytes
abbrev pub same_member : Member → Member → Bool
same_member was is = bytes_eq was.name is.name && (was.kind == is.kind && bytes_eq was.bytes is.bytes)

-- whether two lists of values are the same, in their order
abbrev pub same_members : List Member → List Member → Bool
same_members was is = pointwise same_member was is

-- the line of a value in whose place another one is found
unfoldable pub value_change : (path : List ℕ) (was is : Member) → List ℕ
value_change path was is =
    codes "changed value =" ++ (escaped path ++ (codes " from =" ++ value_then was (codes " to =" ++ value_then is line_feed)))

-- what is told of an old value, where this one has its name in the new key: that it is gone, where none has, or what it became
abbrev pub lost_here : (path : List ℕ) (was : Member) → Option Member → List ℕ
lost_here path was None = value_line Old path was
lost_here path was (Some is) = if same_member was is then [] else value_change path was is

-- what is told of a new value, where this one has its name in the old key: that it has come, where none has
abbrev pub come_here : (path : List ℕ) (is : Member) → Option Member → List ℕ
come_here path is None = value_line New path is
come_here path is (Some was) = []

-- what is told of an old value against the new key's, and of a new one against the old key's
abbrev pub lost_line : (path : List ℕ) (is : List Member) (was : Member) → List ℕ
lost_line path is was = lost_here path was (value_named was.name is)

abbrev pub come_line : (path : List ℕ) (was : List Member) (is : Member) → List ℕ
come_line path was is = come_here path is (value_named is.name was)

-- the lines of the old values that are gone or changed, in their order, and those of the new ones that have come, in theirs
abbrev pub lost_values : (path : List ℕ) (was is : List Member) → List ℕ
lost_values path was is = flat_map (lost_line path is) was

abbrev pub come_values : (path : List ℕ) (was is : List Member) → List ℕ
come_values path was is = flat_map (come_line path was) is

-- the line that tells that the values stand in another order
unfoldable pub order_line : (path : List ℕ) → List ℕ
order_line path = codes "changed order =" ++ (escaped path ++ line_feed)

-- it's told where the lists differ, and no other line of the values was told, and where the order isn't ignored
abbrev pub order_change : (is_ignored : Bool) (path told : List ℕ) (was is : List Member) → List ℕ
order_change is_ignored path [] was is = if is_ignored || same_members was is then [] else order_line path
order_change is_ignored path (letter ∷ told) was is = []

unfoldable pub value_changes : (is_order_ignored : Bool) (path : List ℕ) (was is : List Member) → List ℕ
value_changes is_order_ignored path was is =
    (lost_values path was is ++ come_values path was is)
    ++ order_change is_order_ignored path (lost_values path was is ++ come_values path was is) was is

-- ---- the key at a path with all below it, in both trees

-- what is told of a key of one tree, where the other one has this at its path
abbrev pub key_changes : Ignored → Side → (path : List ℕ) → Rec → Option Rec → List ℕ
key_changes ignored side path key None = whole_key side path key
key_changes ignored Old path key (Some other) =
    field_changes ignored path key other ++ value_changes ignored.order path key.values other.values
key_changes ignored New path key (Some other) = []

-- what is told of a key at the end of some names, which the other tree may have
abbrev pub told_changes : Ignored → Side → (other : Tree) → Told → List ℕ
told_changes ignored side other told = key_changes ignored side (text_of told.names) told.key (get other (map folded told.names))

-- what is told of one tree's keys from the one at a path on, in the order of a dump, against the other tree
abbrev pub side_text : Ignored → Side → (tree other : Tree) → Path → List ℕ
side_text ignored side tree other path = flat_map (told_changes ignored side other) (keys_from tree path)

-- how the new tree differs from the old one at a path and below it: what is told of the old one's keys, and then which have come. At the
-- empty path these are whole trees
unfoldable pub diff_text : Ignored → (old new : Tree) → Path → List ℕ
diff_text ignored old new path = side_text ignored Old old new path ++ side_text ignored New new old path
