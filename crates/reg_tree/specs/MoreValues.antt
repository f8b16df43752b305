-- Values put behind those that a key has, where its list has room for them (Suhanov, Windows registry file format specification, "Cell",
-- "Key node", "Key values list").
use Rattle.std.specs.Prelude.{◌≡◌, ◌<◌, ◌≤◌, ◌+◌, ◌*◌, ℕ, Some, List, ◌++◌, length}
use Rattle.reg_heap.specs.declared.limits.TheConstants.{VALUES_LIMIT}
use Rattle.reg_heap.specs.Paths.{Rec, Member}
use Rattle.reg_heap.specs.Heaps.{Heap}
use Rattle.reg_records.specs.KeyNodes.{KeyRecord, key_at}
use Rattle.reg_records.specs.RecordCells.{HasRoom}
use Rattle.reg_values.specs.NewValues.{MayFollow}

-- a key with these values behind those that it has, at a moment
abbrev pub with_more_values : List Member → ℕ → Rec → Rec
with_more_values members moment r = record r { time = moment; values = r.values ++ members }

-- the key whose key node stands at an offset names a list of values whose cell has room for so many
pub record HasListRoom (heap : Heap) (offset room : ℕ) : Type 0 where
  pub key : KeyRecord
  pub reads : key_at heap offset ≡ Some key
  pub holds : HasRoom heap key.fields.values_list (4 * room)

-- behind the values that the key whose key node stands at an offset has, one at least, these may come: its list has room for all, at most
-- 16,384, each is within the limits, and no two names are the same after folding
pub record MayExtend (heap : Heap) (offset : ℕ) (there members : List Member) : Type 0 where
  pub some : 0 < length there
  pub room : HasListRoom heap offset (length there + length members)
  pub few : length there + length members ≤ VALUES_LIMIT
  pub new : MayFollow there members
