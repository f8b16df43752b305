-- How far a path from a key leads (Win32 registry reference, `RegOpenKeyEx`, `RegCreateKeyEx`).
use Rattle.std.specs.Prelude.{◌≡◌, ℕ, true, List}
use Rattle.reg_names.specs.Names.{is_path}
use Rattle.reg_arena.specs.Arena.{heap_of}
use Rattle.reg_tree.specs.declared.node.Node.{Node}
use Rattle.reg_tree.specs.declared.node.Reached.{Reached}
use Rattle.reg_tree.specs.TreeKeys.{Keys}
use Rattle.reg_tree.specs.Internal.PathWalks.{Reaches}
use Rattle.reg_tree.specs.Internal.ReachedPlaces.{IsPlace}

-- a path from a node leads to a key, behind which its names are missing, and the first of these belongs at a place among that key's subkeys; or
-- to the key at its end, which stands at a place among its parent's
pub record IsWalkedTo (keys : Keys) (from : Node) (path : List ℕ) (reached : Reached) : Type 0 where
  pub valid : is_path path ≡ true
  pub reaches : Reaches (heap_of keys.bins) from path reached.node reached.missing.now
  pub place : IsPlace (heap_of keys.bins) path reached.node.offset reached.missing.now reached.place
