-- A key's subkeys, gone over from one to the next (Win32 registry reference, `RegEnumKeyEx`, `RegQueryInfoKey`).
use Rattle.std.specs.Prelude.{ℕ, ◌<◌, Option, Some, None, [], length, get_or}
use Rattle.reg_heap.specs.Paths.{Path, Rec, children_of}
use Rattle.reg_arena.specs.Arena.{heap_of}
use Rattle.reg_tree.specs.declared.node.Node.{Node}
use Rattle.reg_tree.specs.declared.node.Subkey.{Subkey}
use Rattle.reg_tree.specs.TreeKeys.{Keys, IsAt}
use Rattle.reg_tree.specs.Internal.ReachedPlaces.{IsPlaceAt}

-- of the keys right below the one at a path, whose node this is, in the order of their folded names, a subkey is the one at an index,
-- counted from 0, with its node and with the place at which it stands
pub record IsSubkeyAt (keys : Keys) (path : Path) (node : Node) (index : ℕ) (subkey : Subkey) : Type 0 where
  pub within : index < length (children_of keys.tree path)
  pub at : IsAt keys (get_or (children_of keys.tree path) index []) subkey.node
  pub place : IsPlaceAt (heap_of keys.bins) node.offset index subkey.place

-- how long the name of a key is; 0 where there is none
abbrev pub name_length : Option Rec → ℕ
name_length None = 0
name_length (Some r) = length r.name
