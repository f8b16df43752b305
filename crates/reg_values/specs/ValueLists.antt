-- Lists of values, before and after a change (Suhanov, Windows registry file format specification, "Key values list",
-- "Key value").
use Rattle.std.specs.Prelude.{◌≡◌, ℕ, ◌+◌, ◌<◌, ◌≤◌, ◌++◌, nat_lt, if◌then◌else◌, IsSome, Some, None, List, map, length, drop}
use Rattle.reg_heap.specs.Paths.{Member}
use Rattle.reg_heap.specs.Members.{value_named}
use Rattle.reg_heap.specs.Heaps.{Heap, CellFrame, allocated}
use Rattle.reg_heap.specs.Kinds.{Found, times, owned}
use Rattle.reg_records.specs.RecordCells.{held}
use Rattle.reg_records.specs.OffsetRows.{offset_in}
use Rattle.reg_shape.specs.Readings.{Reading}
use Rattle.reg_shape.specs.Nodes.{members_at}
use Rattle.reg_shape.specs.Written.{AreWritten}

-- what holds of all that is read, and of the cells that it meets
abbrev pub OfRead : {A : Type 0} → Reading A → Heap → (A → List Found → Type 0) → Type 0
OfRead {A = A} r heap holds = (x : A) → (met : List Found) → r heap ≡ Some (x, met) → holds x met

-- a list of so many values stands at an offset: it reads as these, its cells are allocated and each is met once, and it is as it is
-- written
pub record AreValues (heap : Heap) (count list_offset : ℕ) : Type 0 where
  pub members : List Member
  pub met : List Found
  pub reads : members_at count list_offset heap ≡ Some (members, met)
  pub once : (offset : ℕ) → owned offset met ≤ allocated heap offset
  pub written : AreWritten heap count list_offset members

-- one of the values has that name, after folding
pub record IsNamed (heap : Heap) (count offset : ℕ) (name : List ℕ) : Type 0 where
  pub members : List Member
  pub met : List Found
  pub reads : members_at count offset heap ≡ Some (members, met)
  pub there : IsSome (value_named name members)

-- the list reads as these values now, and is as it is written; it gave up the cells that it had for those that it has, and no
-- other cell changed
pub record Became (old new : Heap) (met : List Found) (count list_offset : ℕ) (members : List Member) : Type 0 where
  pub cells : List Found
  pub reads : members_at count list_offset new ≡ Some (members, cells)
  pub frame : CellFrame old new (λ offset. owned offset met) (λ offset. owned offset cells)
  pub written : AreWritten new count list_offset members

-- the cells that came, each counted once, have these sizes, in order
pub record Makes (old new : Heap) (sizes : List ℕ) : Type 0 where
  pub offsets : List ℕ
  pub sizes_are : map (λ offset. length (held new offset) + 4) offsets ≡ sizes
  pub once : (offset : ℕ) → times offset offsets ≤ 1
  pub fresh : (offset : ℕ) → 0 < times offset offsets → old offset ≡ None
  pub only : (offset : ℕ) → old offset ≡ None → IsSome (new offset) → 0 < times offset offsets

-- a value as it is told without its bytes
pub record Tells (member : Member) (name : List ℕ) (kind size : ℕ) : Type 0 where
  pub name_is : name ≡ member.name
  pub kind_is : kind ≡ member.kind
  pub size_is : size ≡ length member.bytes

-- a room with all of these bytes over its front, and the rest as it was; a room that has no place for them all as it was
abbrev pub fitted : List ℕ → List ℕ → List ℕ
fitted bytes room = if nat_lt (length room) (length bytes) then room else bytes ++ drop (length bytes) room

-- each cell that was there, and still is, holds as many bytes as before
abbrev pub KeepsSizes : Heap → Heap → Type 0
KeepsSizes old new = (offset : ℕ) → IsSome (old offset) → IsSome (new offset) → length (held new offset) ≡ length (held old offset)

-- the offsets of a list's cell behind so many are 0
abbrev pub UnusedAreZero : Heap → ℕ → ℕ → Type 0
UnusedAreZero heap count offset = (index : ℕ) → count ≤ index → offset_in (held heap offset) index ≡ 0
