-- A path walked from key to key.
use Rattle.std.specs.Prelude.{◌≡◌, ℕ, ◌+◌, ◌≤◌, ◌<◌, get_or, true, Option, Some, None, List, [], ◌∷◌, ◌++◌, length, map}
use Rattle.reg_names.specs.Names.{folded, path_of, is_path}
use Rattle.reg_heap.specs.Paths.{Path}
use Rattle.reg_heap.specs.Heaps.{Heap}
use Rattle.reg_shape.specs.PathLookup.{key_offset_at, subkey_named}
use Rattle.reg_tree.specs.declared.node.Node.{Node}

-- the key at the end of a path from a node, or none
abbrev pub IsWalked : Heap → Node → Path → Option Node → Type 0
IsWalked heap from path None = key_offset_at heap from.offset path ≡ None
IsWalked heap from path (Some node) = (key_offset_at heap from.offset path ≡ Some node.offset) × (node.depth ≡ from.depth + length path)

-- no key of the first of some names is right below a key
abbrev pub Stops : Heap → ℕ → List (List ℕ) → Type 0
Stops heap key [] = Unit {0}
Stops heap key (name ∷ names) = subkey_named heap (folded name) key ≡ None

-- some keys on a path from a node are there: the names that lead to the last of them, and the path behind it
pub record Passes (heap : Heap) (from : Node) (path : List ℕ) (node : Node) (rest : List ℕ) : Type 0 where
  pub names : List (List ℕ)
  pub parts : path_of path ≡ names ++ path_of rest
  pub offset : key_offset_at heap from.offset (map folded names) ≡ Some node.offset
  pub depth : node.depth ≡ from.depth + length names
  pub valid : is_path rest ≡ true

-- the last key that is there on a path from a node, and the path behind it
pub record Reaches (heap : Heap) (from : Node) (path : List ℕ) (node : Node) (rest : List ℕ) : Type 0 where
  pub passes : Passes heap from path node rest
  pub stops : Stops heap node.offset (path_of rest)

-- the key at an index among those below the one at a path, whose paths these are, or none where there are not so many
abbrev pub IsSubkey : Heap → ℕ → Path → List Path → Node → ℕ → Option Node → Type 0
IsSubkey heap root path paths node index None = length paths ≤ index
IsSubkey heap root path paths node index (Some child) =
    (index < length paths) × (key_offset_at heap root (get_or paths index []) ≡ Some child.offset) × (child.depth ≡ node.depth + 1) ×
    (length (get_or paths index []) ≡ length path + 1)
