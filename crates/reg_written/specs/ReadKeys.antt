-- What the walk of an image tells of each key that it met, where it met no fault: its records read, and the tests of its values went
-- well.
use Rattle.std.specs.Prelude.{◌≡◌, ◌≢◌, ◌≤◌, ℕ, true, Some, [], length, unwrap_or}
use Rattle.std.specs.List.{AllByRecursion}
use Rattle.std.specs.Option.{option_map}
use Rattle.reg_names.specs.Names.{folded, is_value_name}
use Rattle.reg_heap.specs.declared.limits.TheConstants.{DATA_LIMIT, VALUES_LIMIT}
use Rattle.reg_heap.specs.Paths.{Member}
use Rattle.reg_heap.specs.Heaps.{Heap}
use Rattle.reg_records.specs.KeyNodes.{KeyRecord, key_at}
use Rattle.reg_records.specs.SubkeyLists.{Entry}
use Rattle.reg_shape.specs.Nodes.{Node, entries_of, look}
use Rattle.reg_shape.specs.Written.{Pairwise}

-- a key node reads, with all that is its own, and its name isn't empty
pub record IsNamed (heap : Heap) (offset : ℕ) : Type 0 where
  pub node : Node
  pub seen : look heap offset ≡ Some node
  pub name : node.key.name ≢ []

-- so does each of its subkeys' nodes; the names of its values are of the profile and differ after folding, no value has more than
-- 1,048,576 bytes, and there are at most 16,384
pub record IsRead (heap : Heap) (offset : ℕ) : Type 0 where
  pub node : Node
  pub seen : look heap offset ≡ Some node
  pub few : node.key.fields.values ≤ VALUES_LIMIT
  pub names : AllByRecursion (λ (m : Member). is_value_name m.name ≡ true) node.values
  pub apart : Pairwise (λ (a b : Member). folded a.name ≢ folded b.name) node.values
  pub sizes : AllByRecursion (λ (m : Member). length m.bytes ≤ DATA_LIMIT) node.values
  pub below : AllByRecursion (λ (e : Entry). IsNamed heap e.offset) (entries_of node.index)

-- the offset of a key's security
abbrev pub security_in : Heap → ℕ → ℕ
security_in heap offset = unwrap_or (option_map (λ (key : KeyRecord). key.fields.security) (key_at heap offset)) 0
