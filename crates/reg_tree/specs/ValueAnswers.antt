-- What is told of a key's values (Win32 registry reference, `RegQueryValueEx`).
use Rattle.std.specs.Prelude.{◌≡◌, ℕ, ◌+◌, ◌++◌, List, length, take, drop, Option, Some, None, slice_get}
use Rattle.reg_heap.specs.Paths.{Member, Rec}
use Rattle.reg_values.specs.ValueLists.{fitted}
use Rattle.reg_tree.specs.declared.value.ValueFound.{ValueFound}

-- a value that was found: its index among the values, its type and the size of its data; or there is none
abbrev pub IsFound : List Member → Option Member → Option ValueFound → Type 0
IsFound members None None = Unit {0}
IsFound members None (Some found) = ⊥
IsFound members (Some member) None = ⊥
IsFound members (Some member) (Some found) = (slice_get members found.index ≡ Some member) × (found.kind ≡ member.kind) × (found.size ≡ length member.bytes)

-- a room that a value's data was copied to, where there is one and the room has place for it
abbrev pub fitted_by : Option Member → List ℕ → List ℕ
fitted_by None room = room
fitted_by (Some member) room = fitted member.bytes room

-- a key without the value at an index, at a moment
abbrev pub without_value_at : ℕ → ℕ → Rec → Rec
without_value_at index moment r = record r { time = moment; values = take index r.values ++ drop (index + 1) r.values }
