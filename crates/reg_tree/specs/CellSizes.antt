-- The cells that making keys, setting values and describing keys takes (Suhanov, Windows registry file format specification, "Cell",
-- "Key node", "Subkeys list", "Key values list", "Key security").
use Rattle.std.specs.Prelude.{◌≡◌, ℕ, ◌+◌, ◌<◌, Bool, cond, Option, Some, None, List, [], ◌∷◌, ◌++◌, map, length, bytes_eq}
use Rattle.std.specs.Option.{option_and_then}
use Rattle.std.specs.List.{list_any}
use Rattle.std.specs.FinMap.{get, keys}
use Rattle.reg_heap.specs.Heaps.{Heap}
use Rattle.reg_heap.specs.Paths.{Path, Tree}
use Rattle.reg_heap.specs.Edits.{missing, last_there, descriptor_of}
use Rattle.reg_arena.specs.Arena.{Bins, heap_of}
use Rattle.reg_arena.specs.Carves.{NoFit}
use Rattle.reg_arena.specs.NewBin.{PassesLimit}
use Rattle.reg_arena.specs.NewCells.{cell_size, total_of}
use Rattle.reg_records.specs.KeyNodes.{KeyRecord, key_at}
use Rattle.reg_shape.specs.PathLookup.{key_offset_at}
use Rattle.reg_index.specs.declared.plan.TheConstants.{FIRST_LIST_SIZE}
use Rattle.reg_index.specs.declared.Place.{Place}
use Rattle.reg_index.specs.declared.IndexCells.{IndexCells}
use Rattle.reg_index.specs.Subkeys.{each_of, insert_sizes}
use Rattle.reg_values.specs.ValueSizes.{set_sizes}
use Rattle.reg_tree.specs.TreeKeys.{Keys}
use Rattle.reg_tree.specs.SubkeyPlaces.{BelongsFirst}

-- no cells
abbrev pub no_cells : IndexCells
no_cells = record { list = None; second = None; root = None }

-- the sizes of the cells that a key's first subkey takes: its list's
abbrev pub first_cells : IndexCells
first_cells = record { list = Some FIRST_LIST_SIZE; second = None; root = None }

-- where a key's first subkey belongs
abbrev pub first_place : Place
first_place = record { list = 0; index = 0 }

-- the sizes of the cells that one subkey more at a place takes of a key
abbrev pub planned_by : Heap → Place → Option KeyRecord → IndexCells
planned_by heap place None = no_cells
planned_by heap place (Some k) = insert_sizes heap k.fields.subkeys k.fields.subkeys_list place

abbrev pub planned : Heap → ℕ → Place → IndexCells
planned heap key place = planned_by heap place (key_at heap key)

-- the size of one cell more, where one is planned
abbrev pub planned_sizes : Option ℕ → List ℕ
planned_sizes None = []
planned_sizes (Some size) = size ∷ []

-- the size of the cell of a key node: 76 bytes and the name
abbrev pub key_size : List ℕ → ℕ
key_size name = cell_size (76 + length name)

-- the sizes of a made key's own cells: its key node's
abbrev pub own_sizes : List ℕ → List ℕ
own_sizes name = key_size name ∷ []

-- keys with cells of these sizes of their own, one below the other: each takes the cells that are planned for its parent's subkeys, and
-- its own; each but the first begins a list
abbrev pub sizes_of : IndexCells → List (List ℕ) → List ℕ
sizes_of plan [] = []
sizes_of plan (sizes ∷ more) = each_of plan ++ (sizes ++ sizes_of first_cells more)

-- of the key at an offset, where there is one
abbrev pub planned_at : Heap → Place → Option ℕ → IndexCells
planned_at heap place None = no_cells
planned_at heap place (Some key) = planned heap key place

-- where the key stands that is the last one there, of these names from the key at a path on
abbrev pub parent_of : Keys → Path → List (List ℕ) → Option ℕ
parent_of keys path names = key_offset_at (heap_of keys.bins) keys.root (last_there keys.tree path names)

-- the first of these names that is missing belongs at a place among the subkeys of the last key that is there
abbrev pub BelongsThere : Keys → Path → List (List ℕ) → Place → Type 0
BelongsThere keys path names place = (key : ℕ) → parent_of keys path names ≡ Some key →
    BelongsFirst (heap_of keys.bins) key (missing keys.tree path names) place

-- the sizes of the cells of the keys themselves that are missing of these names from the key at a path on, the first of which comes to
-- a place: none where none is missing
unfoldable pub made_sizes : Keys → Path → List (List ℕ) → Place → List ℕ
made_sizes keys path names place =
    sizes_of (planned_at (heap_of keys.bins) place (parent_of keys path names)) (map own_sizes (missing keys.tree path names))

-- some key of the tree has this descriptor
abbrev pub is_described : Tree → List ℕ → Bool
is_described tree descriptor = list_any (λ (path : Path). bytes_eq descriptor (descriptor_of (get tree path))) (keys tree)

-- the size of the cell that a descriptor takes: 20 bytes and its own; none where a key has it, whose security is shared
unfoldable pub security_sizes : Tree → List ℕ → List ℕ
security_sizes tree descriptor = cond (is_described tree descriptor) [] (cell_size (20 + length descriptor) ∷ [])

-- the same of a descriptor that may be given to the last of some keys to be made
abbrev pub given_sizes : Tree → List (List ℕ) → Option (List ℕ) → List ℕ
given_sizes tree [] given = []
given_sizes tree (name ∷ names) None = []
given_sizes tree (name ∷ names) (Some descriptor) = security_sizes tree descriptor

-- the sizes of the cells that making the keys of these names takes from the key at a path on, of which the first that is missing comes
-- to a place, with a descriptor for the last or none
abbrev pub create_sizes : Keys → Path → List (List ℕ) → Place → Option (List ℕ) → List ℕ
create_sizes keys path names place given = made_sizes keys path names place ++ given_sizes keys.tree (missing keys.tree path names) given

-- the sizes of the cells that a set of a value, of that name and with so many bytes, takes of a key
abbrev pub set_sizes_by : Heap → List ℕ → ℕ → Option KeyRecord → List ℕ
set_sizes_by heap name size None = []
set_sizes_by heap name size (Some key) = set_sizes heap key.fields.values key.fields.values_list name size

-- and of the key whose key node stands at an offset
unfoldable pub value_sizes : Heap → ℕ → List ℕ → ℕ → List ℕ
value_sizes heap key name size = set_sizes_by heap name size (key_at heap key)

-- the same of the key at a path
abbrev pub value_sizes_at : Keys → Path → List ℕ → ℕ → List ℕ
value_sizes_at keys path name size =
    set_sizes_by (heap_of keys.bins) name size (option_and_then (key_at (heap_of keys.bins)) (key_offset_at (heap_of keys.bins) keys.root path))

-- the bins have no room for cells of these sizes side by side: there are some, no free cell has them all, and one bin more for them
-- would pass the limit
abbrev pub LacksRoom : Bins → List ℕ → Type 0
LacksRoom bins sizes = (0 < length sizes) × NoFit bins.bytes (total_of sizes) × PassesLimit bins.bytes (total_of sizes)
