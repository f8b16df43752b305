-- A key's values, told behind those of others.
use Rattle.std.specs.Prelude.{◌≡◌, ℕ, ◌+◌, ◌<◌, ◌≤◌, ◌⊎◌, List, ◌++◌, length, take, drop, map, flat_map}
use Rattle.reg_heap.specs.Paths.{Path, Tree, Member}
use Rattle.reg_heap.specs.Edits.{values_at}
use Rattle.zugmeled.specs.Lists.{value_bytes, value_row}
use Rattle.zugmeled.specs.WithValues.{bytes_with_values}
use Rattle.zugmeled.specs.declared.with_values.Told.{Told}
use Rattle.zugmeled.specs.declared.lists.ZugValue.{ZugValue}

-- values have place in so many rows and so many bytes, or not
abbrev pub FitIn : Tree → List Member → (rows room : ℕ) → Type 0
FitIn t values rows room = (length values ≤ rows) × (length (flat_map (value_bytes t) values) ≤ room)

abbrev pub FitNotIn : Tree → List Member → (rows room : ℕ) → Type 0
FitNotIn t values rows room = (rows < length values) ⊎ (room < length (flat_map (value_bytes t) values))

-- a piece is written over a list from a place on
abbrev pub IsPutAt : {A : Type 0} → (at : ℕ) → (piece old new : List A) → Type 0
IsPutAt at piece old new = new ≡ take at old ++ piece ++ drop (at + length piece) old

-- bytes are told behind those that were, with a row for each value
abbrev pub IsToldBehind : Tree → List Member → (bytes : List ℕ) → (told after : Told) → (rows rows_after : List ZugValue) → (room room_after : List ℕ) → Type 0
IsToldBehind t values bytes told after rows rows_after room room_after =
    IsPutAt told.count (map (value_row t) values) rows rows_after × IsPutAt told.used bytes room room_after
    × (after.count ≡ told.count + length values) × (after.used ≡ told.used + length bytes)
    × (after.count ≤ length rows) × (after.used ≤ length room)

-- a key is told with its values, behind others
abbrev pub IsToldWithValues : Tree → Path → (told after : Told) → (rows rows_after : List ZugValue) → (room room_after : List ℕ) → Type 0
IsToldWithValues t p told after rows rows_after room room_after =
    IsToldBehind t (values_at t p) (bytes_with_values t p) told after rows rows_after room room_after

-- it has no place behind them
abbrev pub HasNoPlace : Tree → Path → Told → (rows : List ZugValue) → (room : List ℕ) → Type 0
HasNoPlace t p told rows room =
    (length rows < told.count + length (values_at t p)) ⊎ (length room < told.used + length (bytes_with_values t p))
