-- What a key has below it, many items by one call, by the key's path from the root and without a handle (Win32 registry reference,
-- `RegEnumKeyEx`, `RegEnumValue`).
use Rattle.std.specs.Prelude.{◌≡◌, ◌≢◌, ℕ, ◌+◌, ◌<◌, ◌≤◌, ◌⊎◌, List, [], ◌++◌, length, take, drop, map, flat_map, true, false, Option, Some, None, IsSome}
use Rattle.std.specs.FinMap.{get}
use Rattle.reg_names.specs.Names.{is_path}
use Rattle.reg_heap.specs.Edits.{folded_path, values_at}
use Rattle.reg_heap.specs.Paths.{Path, Tree, Rec, Member, children_of}
use Rattle.reg_model.specs.declared.statuses.TheConstants.{FILE_NOT_FOUND, INVALID_HANDLE, INVALID_PARAMETER, MORE_DATA, NO_MORE_ITEMS}
use Rattle.reg_tree.specs.declared.node.Node.{Node}
use Rattle.reg_tree.specs.TreeKeys.{Keys, IsAt}
use Rattle.zugmeled.specs.Held.{HeldHive}
use Rattle.zugmeled.specs.Calls.{seen}
use Rattle.zugmeled.specs.declared.lists.ZugSubkey.{ZugSubkey}
use Rattle.zugmeled.specs.declared.lists.ZugValue.{ZugValue}

-- a key's name as it was given, empty where there is none
abbrev pub name_of : Option Rec → List ℕ
name_of None = []
name_of (Some r) = r.name

-- what is told of a key: when it was last written, how long its name is, how many subkeys and values it has, and its marks
abbrev pub row_of : Option Rec → (subkeys : ℕ) → ZugSubkey
row_of None subkeys = record { time = 0; name_size = 0; subkeys = subkeys; values = 0; marks = 0 }
row_of (Some r) subkeys = record {
  time = r.time;
  name_size = length r.name;
  subkeys = subkeys;
  values = length r.values;
  marks = r.marks;
}

abbrev pub key_name : Tree → Path → List ℕ
key_name t p = name_of (get t p)

abbrev pub key_row : Tree → Path → ZugSubkey
key_row t p = row_of (get t p) (length (children_of t p))

-- what is told of a value: its name, and behind it its data; how long both are, and its type
abbrev pub value_bytes : Tree → Member → List ℕ
value_bytes t m = m.name ++ m.bytes

abbrev pub value_row : Tree → Member → ZugValue
value_row t m = record { name_size = length m.name; kind = m.kind; size = length m.bytes }

-- of some items the first are told, so many: a row of each over the front of the rows, and the bytes of each, one's behind the other's,
-- over the front of the room; the rest of both is as it was
pub record AreTold {A B : Type 0} (row : A → B) (bytes : A → List ℕ) (items : List A) (count : ℕ) (rows rows_after : List B) (room room_after : List ℕ) : Type 0 where
  pub there : count ≤ length items
  pub placed : count ≤ length rows
  pub fits : length (flat_map bytes (take count items)) ≤ length room
  pub rows_are : rows_after ≡ map row (take count items) ++ drop count rows
  pub room_is : room_after ≡ flat_map bytes (take count items) ++ drop (length (flat_map bytes (take count items))) room

-- and one more has no place: there is none, or no row for it, or no room
abbrev pub AreMost : {A B : Type 0} → (A → List ℕ) → List A → ℕ → List B → List ℕ → Type 0
AreMost bytes items count rows room =
    count < length items → count < length rows → length room < length (flat_map bytes (take (count + 1) items))

-- nothing is told
abbrev pub IsNothing : {B : Type 0} → (count : ℕ) → (rows rows_after : List B) → (room room_after : List ℕ) → Type 0
IsNothing count rows rows_after room room_after = (count ≡ 0) × (rows_after ≡ rows) × (room_after ≡ room)

-- items are told, as many as have place; 259 where there are none; 234 where the first has no place in the room, and then its row is told
-- all the same, over the front of the rows
abbrev pub AreListed : {A B : Type 0} → (A → B) → (A → List ℕ) → List A → (status count : ℕ) → (rows rows_after : List B) → (room room_after : List ℕ) → Type 0
AreListed row bytes items status count rows rows_after room room_after =
    ((items ≡ []) × (status ≡ NO_MORE_ITEMS) × IsNothing count rows rows_after room room_after)
    ⊎ ((items ≢ []) × (0 < count) × (status ≡ 0) × AreTold row bytes items count rows rows_after room room_after × AreMost bytes items count rows room)
    ⊎ ((items ≢ []) × (count ≡ 0) × (status ≡ MORE_DATA) × AreMost bytes items 0 rows room
    × (rows_after ≡ take (length rows) (map row (take 1 items)) ++ drop 1 rows) × (room_after ≡ room))

-- the key at the end of a path from the root; 2 where there is no such key, 87 of what is no path
abbrev pub IsFoundAt : Keys → (path : List ℕ) → Node → Type 0
IsFoundAt keys path node = (is_path path ≡ true) × IsAt keys (folded_path path) node × IsSome (get keys.tree (folded_path path))

abbrev pub IsNotFound : Tree → (path : List ℕ) → (status : ℕ) → Type 0
IsNotFound tree path status =
    ((is_path path ≡ false) × (status ≡ INVALID_PARAMETER))
    ⊎ ((is_path path ≡ true) × (get tree (folded_path path) ≡ None) × (status ≡ FILE_NOT_FOUND))

-- so the items of that key are told
abbrev pub AreListedIn : {A B : Type 0} → (Tree → A → B) → (Tree → A → List ℕ) → (Tree → Path → List A) → Tree → (path : List ℕ) → (status count : ℕ) →
    (rows rows_after : List B) → (room room_after : List ℕ) → Type 0
AreListedIn row bytes items tree path status count rows rows_after room room_after =
    (IsNotFound tree path status × IsNothing count rows rows_after room room_after)
    ⊎ ((is_path path ≡ true) × IsSome (get tree (folded_path path))
    × AreListed (row tree) (bytes tree) (items tree (folded_path path)) status count rows rows_after room room_after)

-- the key itself is told, with its name over the front of the room; 234 where the room is too short for the name
abbrev pub no_row : ZugSubkey
no_row = row_of None 0

abbrev pub IsKeyTold : Tree → (path : List ℕ) → (status : ℕ) → ZugSubkey → (room room_after : List ℕ) → Type 0
IsKeyTold tree path status row room room_after =
    (IsNotFound tree path status × (row ≡ no_row) × (room_after ≡ room))
    ⊎ ((is_path path ≡ true) × IsSome (get tree (folded_path path)) × (row ≡ key_row tree (folded_path path))
    × (((length room < length (key_name tree (folded_path path))) × (status ≡ MORE_DATA) × (room_after ≡ room))
    ⊎ ((length (key_name tree (folded_path path)) ≤ length room) × (status ≡ 0) × (room_after ≡ key_name tree (folded_path path) ++ drop (length (key_name tree (folded_path path))) room))))

-- so the hive that C holds is asked; with no hive 6
abbrev pub TellsItems : {A B : Type 0} → (Tree → A → B) → (Tree → A → List ℕ) → (Tree → Path → List A) → Option HeldHive → (path : List ℕ) →
    (status count : ℕ) → (rows rows_after : List B) → (room room_after : List ℕ) → Type 0
TellsItems row bytes items None path status count rows rows_after room room_after =
    (status ≡ INVALID_HANDLE) × IsNothing count rows rows_after room room_after
TellsItems row bytes items (Some held) path status count rows rows_after room room_after =
    AreListedIn row bytes items (seen held).keys.tree path status count rows rows_after room room_after

abbrev pub TellsKeyAt : Option HeldHive → (path : List ℕ) → (status : ℕ) → ZugSubkey → (room room_after : List ℕ) → Type 0
TellsKeyAt None path status row room room_after = (status ≡ INVALID_HANDLE) × (row ≡ no_row) × (room_after ≡ room)
TellsKeyAt (Some held) path status row room room_after = IsKeyTold (seen held).keys.tree path status row room room_after

-- a key's subkeys from an index on, in the order of their folded names
abbrev pub subkeys_from : ℕ → Tree → Path → List Path
subkeys_from index t p = drop index (children_of t p)

-- a key's values from an index on, in the order in which their names were added
abbrev pub values_from : ℕ → Tree → Path → List Member
values_from index t p = drop index (values_at t p)
