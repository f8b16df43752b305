-- A table of what is known of each cell.
use Rattle.std.specs.Prelude.{◌≡◌, ℕ, ◌<◌, ◌≤◌, ◌/◌, ◌%◌, ◌==◌, Bool, true, false, is_some, Option, Some, None, List, get_or, sum_by, if◌then◌else◌}
use Rattle.reg_heap.specs.Heaps.{Heap}
use Rattle.reg_heap.specs.Kinds.{Found, times, owned, shared}
use Rattle.reg_tree_image.specs.declared.LoadFault.{LoadFault}
use Rattle.reg_tree_image.specs.declared.LoadFault.TheVariants.{Record, Loop, Twice}
use Rattle.reg_tree_image.specs.declared.table.CellState.{CellState}
use Rattle.reg_tree_image.specs.declared.table.CellState.TheVariants.{Unallocated, Unnamed, Named, NamedSecurity, OnPath}

-- what stands at an offset of a table
abbrev pub state_in : List CellState → ℕ → CellState
state_in states offset = if offset % 8 == 0 then get_or states (offset / 8) Unallocated else Unallocated

-- another state at one offset, the others as they were
abbrev pub Puts : List CellState → List CellState → ℕ → CellState → Type 0
Puts old new at state = (offset : ℕ) → state_in new offset ≡ (if offset == at then state else state_in old offset)

-- 1 for a cell that was not named yet
abbrev pub not_yet : CellState → ℕ
not_yet Unallocated = 0
not_yet Unnamed = 1
not_yet Named = 0
not_yet NamedSecurity = 0
not_yet OnPath = 0

-- how many cells were not named yet
abbrev pub unnamed : List CellState → ℕ
unnamed states = sum_by not_yet states

-- the fault of naming a cell, as a security or as another record
abbrev pub naming_fault : CellState → Bool → Option LoadFault
naming_fault Unallocated security = Some Record
naming_fault OnPath security = Some Loop
naming_fault Named security = Some Twice
naming_fault NamedSecurity true = None
naming_fault NamedSecurity false = Some Twice
naming_fault Unnamed security = None

abbrev pub named_as : Bool → CellState
named_as true = NamedSecurity
named_as false = Named

-- what is known of the cell at an offset, by what it holds, the records named so far and the keys on the present path
abbrev pub state_by : (allocated absent unowned unshared : Bool) → CellState
state_by false absent unowned unshared = Unallocated
state_by true false unowned unshared = OnPath
state_by true true false unshared = Named
state_by true true true false = NamedSecurity
state_by true true true true = Unnamed

abbrev pub state_of : Heap → List Found → List ℕ → ℕ → CellState
state_of heap found path offset = state_by (is_some (heap offset)) (times offset path == 0) (owned offset found == 0) (shared offset found == 0)

-- the table says of each cell what is known of it; no cell but a security's was named twice, and each key of the path was named
pub record IsTable (heap : Heap) (found : List Found) (path : List ℕ) (states : List CellState) : Type 0 where
  pub each : (offset : ℕ) → state_in states offset ≡ state_of heap found path offset
  pub once : (offset : ℕ) → owned offset found ≤ 1
  pub keys : (offset : ℕ) → times offset path ≤ owned offset found
  pub real : (offset : ℕ) → 0 < owned offset found → is_some (heap offset) ≡ true
