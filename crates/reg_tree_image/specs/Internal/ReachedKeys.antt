-- A key that the walk along a path came to, and a value that it found.
use Rattle.std.specs.Prelude.{ℕ, Option, Some, None, Result, List}
use Rattle.std.specs.Option.{option_map}
use Rattle.std.specs.Cow.{cow_slice_items}
use Rattle.reg_heap.specs.Heaps.{Heap}
use Rattle.reg_heap.specs.Paths.{Member}
use Rattle.reg_records.specs.BigData.{is_inline}
use Rattle.reg_tree_image.specs.declared.LoadFault.{LoadFault}
use Rattle.reg_tree_image.specs.declared.table.CellState.{CellState}
use Rattle.reg_tree_image.specs.declared.path_walk.ReachedKey.{ReachedKey}
use Rattle.reg_tree_image.specs.declared.path_walk.FoundOnPath.{FoundOnPath}
use Rattle.reg_tree_image.specs.declared.path_walk.FoundOnPath.TheVariants.{NoKey, NoValue, Value}
use Rattle.reg_tree_image.specs.declared.values.NamedValue.{NamedValue}
use Rattle.reg_tree_image.specs.declared.values.ReadValue.{ReadValue}
use Rattle.reg_tree_image.specs.WalkSteps.{Step, ◌>>=◌, give}
use Rattle.reg_tree_image.specs.LoadingWalk.{data_by}
use Rattle.reg_tree_image.specs.PathWalk.{Reached, key_of_path}
use Rattle.reg_tree_image.specs.Images.{nothing}
use Rattle.reg_tree_image.specs.Internal.NamedRecords.{key_of, member_in}
use Rattle.reg_tree_image.specs.Internal.ReaderOutcomes.{Outcome}

-- a key below those
abbrev pub reached_of : List ℕ → ReachedKey → Reached
reached_of above k = record { offset = k.offset; key = (key_of k.named).0; name = (key_of k.named).1; above = above }

abbrev pub reached_in : List ℕ → Option ReachedKey → Option Reached
reached_in above found = option_map (reached_of above) found

abbrev pub value_found : Option ReadValue → Option Member
value_found found = option_map member_in found

-- what stands at a path
abbrev pub found_in : FoundOnPath → Option (Option Member)
found_in NoKey = None
found_in NoValue = Some None
found_in (Value value) = Some (Some (member_in value))

-- a value with its name as it was read, whose data is read
abbrev pub with_data : Heap → ℕ → List ℕ → NamedValue → Step (Option Member)
with_data heap minor path v = do
  bytes ← data_by heap minor path (is_inline v.value.fields.size) v.value.fields.size v.value.fields.offset
  give (Some (record { name = cow_slice_items v.name; kind = v.value.fields.kind; bytes = bytes }))

-- the walk along a path comes to this key, or to none, or it meets that fault; the keys above are on the present path
abbrev pub Arrives : Heap → List (List ℕ) → ℕ → List CellState → Result (Option ReachedKey) LoadFault → Type 0
Arrives heap names root new result = (above : List ℕ) × Outcome heap above (reached_in above) (key_of_path heap names root) new nothing result
