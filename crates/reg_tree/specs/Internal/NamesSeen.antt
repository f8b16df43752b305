-- Which names the values of one key may have.
use Rattle.std.specs.Prelude.{◌≡◌, ℕ, Bool, true, nat_eq, List, Some}
use Rattle.std.specs.List.{AllByRecursion}
use Rattle.std.specs.HashSet.{contains}
use Rattle.reg_names.specs.Names.{hash}
use Rattle.reg_heap.specs.Paths.{Member, Path}
use Rattle.reg_heap.specs.Edits.{values_at}
use Rattle.reg_arena.specs.Cells.{cell_at}
use Rattle.reg_shape.specs.PathLookup.{key_offset_at}
use Rattle.reg_tree.specs.declared.names_seen.NamesSeen.{NamesSeen}
use Rattle.reg_tree.specs.TreeKeys.{tree_in}

-- a value of the key that is noted may have a name only if the name's hash is noted
abbrev pub may_have : NamesSeen → List ℕ → Bool
may_have seen name = contains nat_eq seen.hashes (hash name)

-- where a key is noted, so are the names of all these values
abbrev pub HasNoted : NamesSeen → ℕ → List Member → Type 0
HasNoted seen key members = seen.noted ≡ Some key → AllByRecursion (λ (m : Member). may_have seen m.name ≡ true) members

-- where a key of a tree is noted, so are the names of all its values, at whatever path it stands
pub record AreNoted (seen : NamesSeen) (bytes : List ℕ) (root : ℕ) : Type 0 where
  pub noted : (key : ℕ) (path : Path) → key_offset_at (cell_at bytes) root path ≡ Some key → HasNoted seen key (values_at (tree_in bytes root) path)
