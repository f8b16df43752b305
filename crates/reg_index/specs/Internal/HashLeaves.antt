-- A hash leaf in a cell, and one on its way to an entry more (Suhanov, Windows registry file format specification, "Subkeys
-- list").
use Rattle.std.specs.Prelude.{◌≡◌, ℕ, ◌+◌, ◌-◌, ◌*◌, ◌≤◌, Some, List, length, take, drop, IsSome}
use Rattle.reg_heap.specs.Heaps.{Heap}
use Rattle.reg_records.specs.declared.lists.ListForm.TheVariants.{HashLeaf}
use Rattle.reg_records.specs.RecordCells.{held}
use Rattle.reg_records.specs.SubkeyLists.{Entry, hinted_entries}
use Rattle.reg_shape.specs.Nodes.{list_at}

-- a hash leaf of these entries stands in the cell
abbrev pub IsLeaf : Heap → ℕ → List Entry → Type 0
IsLeaf heap offset entries = list_at heap offset ≡ Some (record { form = HashLeaf; entries = entries })

-- these entries stand in the cell, with a gap of one entry at an index; the head may be another's
pub record HasGap (heap : Heap) (offset index : ℕ) (entries : List Entry) : Type 0 where
  pub exists : IsSome (heap offset)
  pub room : 4 + 8 * (length entries + 1) ≤ length (held heap offset)
  pub before : hinted_entries index 4 (held heap offset) ≡ take index entries
  pub behind : hinted_entries (length entries - index) (12 + 8 * index) (held heap offset) ≡ drop index entries
