-- A key's subkeys, each with all its values, many by one call, by the key's path from the root and without a handle (Win32 registry
-- reference, `RegEnumKeyEx`, `RegEnumValue`).
use Rattle.std.specs.Prelude.{◌≡◌, ◌≢◌, ℕ, ◌+◌, ◌<◌, ◌≤◌, ◌⊎◌, List, [], ◌++◌, length, take, drop, map, flat_map, true, Option, Some, None, IsSome}
use Rattle.std.specs.FinMap.{get}
use Rattle.reg_names.specs.Names.{is_path}
use Rattle.reg_heap.specs.Edits.{folded_path, values_at}
use Rattle.reg_heap.specs.Paths.{Path, Tree, Member}
use Rattle.reg_model.specs.declared.statuses.TheConstants.{INVALID_HANDLE, MORE_DATA, NO_MORE_ITEMS}
use Rattle.zugmeled.specs.Held.{HeldHive}
use Rattle.zugmeled.specs.Calls.{seen}
use Rattle.zugmeled.specs.Lists.{AreTold, IsNothing, IsNotFound, key_name, key_row, subkeys_from, value_bytes, value_row}
use Rattle.zugmeled.specs.declared.lists.ZugSubkey.{ZugSubkey}
use Rattle.zugmeled.specs.declared.lists.ZugValue.{ZugValue}

-- the values of some keys: all of one, then all of the next
abbrev pub values_of : Tree → List Path → List Member
values_of t keys = flat_map (values_at t) keys

-- what is told of a key with its values: its name, and behind it the name and the data of each value
abbrev pub bytes_with_values : Tree → Path → List ℕ
bytes_with_values t p = key_name t p ++ flat_map (value_bytes t) (values_at t p)

-- the first of some keys are told, so many, and all their values: a row of each key, a row of each value, and the bytes in the room, each
-- over the front. One more has no place for all of this: there is none, or no row for it, or too few for its values, or too little room
pub record AreToldWithValues (t : Tree) (keys : List Path) (count : ℕ) (rows rows_after : List ZugSubkey) (values values_after : List ZugValue)
    (room room_after : List ℕ) : Type 0 where
  pub told : AreTold (key_row t) (bytes_with_values t) keys count rows rows_after room room_after
  pub values_fit : length (values_of t (take count keys)) ≤ length values
  pub values_are : values_after ≡ map (value_row t) (values_of t (take count keys)) ++ drop (length (values_of t (take count keys))) values
  pub most : count < length keys → count < length rows →
      (length values < length (values_of t (take (count + 1) keys))) ⊎ (length room < length (flat_map (bytes_with_values t) (take (count + 1) keys)))

-- so subkeys are told; 259 where there are none, 234 where the first has no place
abbrev pub AreListedWithValues : Tree → List Path → (status count : ℕ) → (rows rows_after : List ZugSubkey) → (values values_after : List ZugValue) →
    (room room_after : List ℕ) → Type 0
AreListedWithValues t keys status count rows rows_after values values_after room room_after =
    ((keys ≡ []) × (status ≡ NO_MORE_ITEMS) × IsNothing count rows rows_after room room_after × (values_after ≡ values))
    ⊎ ((keys ≢ []) × AreToldWithValues t keys count rows rows_after values values_after room room_after
    × (((0 < count) × (status ≡ 0)) ⊎ ((count ≡ 0) × (status ≡ MORE_DATA))))

-- and those of the key at the end of a path from the root; 2 where there is no such key, 87 of what is no path
abbrev pub AreListedWithValuesAt : Tree → (path : List ℕ) → (index status count : ℕ) → (rows rows_after : List ZugSubkey) → (values values_after : List ZugValue) →
    (room room_after : List ℕ) → Type 0
AreListedWithValuesAt t path index status count rows rows_after values values_after room room_after =
    (IsNotFound t path status × IsNothing count rows rows_after room room_after × (values_after ≡ values))
    ⊎ ((is_path path ≡ true) × IsSome (get t (folded_path path))
    × AreListedWithValues t (subkeys_from index t (folded_path path)) status count rows rows_after values values_after room room_after)

-- so the hive that C holds is asked; with no hive 6
abbrev pub TellsWithValues : Option HeldHive → (path : List ℕ) → (index status count : ℕ) → (rows rows_after : List ZugSubkey) →
    (values values_after : List ZugValue) → (room room_after : List ℕ) → Type 0
TellsWithValues None path index status count rows rows_after values values_after room room_after =
    (status ≡ INVALID_HANDLE) × IsNothing count rows rows_after room room_after × (values_after ≡ values)
TellsWithValues (Some held) path index status count rows rows_after values values_after room room_after =
    AreListedWithValuesAt (seen held).keys.tree path index status count rows rows_after values values_after room room_after
