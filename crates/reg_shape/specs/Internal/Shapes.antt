-- Shapes: a tree of keys as it stands in the cells, each key with all that is its own. Proofs speak of shapes; the walk, what is
-- met and how often, and the tree spelt are theirs.
use Rattle.std.specs.Prelude.{◌≡◌, ◌↔◌, ℕ, suc, ◌+◌, ◌<◌, ◌≤◌, max, List, [], ◌∷◌, ◌++◌, map, length, take, drop, Some, unwrap_or}
use Rattle.std.specs.List.{AllByRecursion}
use Rattle.std.specs.FinMap.{from_entries}
use Rattle.reg_names.specs.declared.TheConstants.{PATH_LIMIT}
use Rattle.reg_heap.specs.Paths.{Path, Rec, Tree}
use Rattle.reg_heap.specs.Heaps.{Heap, allocated}
use Rattle.reg_heap.specs.Kinds.{Found, times, owned, shared}
use Rattle.reg_heap.specs.Kinds.Kind.{SubList, Leaf}
use Rattle.reg_shape.specs.Internal.Forests.{Forest, Branch, Stands, total_of}
use Rattle.reg_shape.specs.Internal.Forests.Forest.{End, Rooted as Hangs}
use Rattle.reg_shape.specs.Nodes.{Node, KeyList, Index, look}
use Rattle.reg_shape.specs.Nodes.Index.{Unlisted, Listed, Rooted}
use Rattle.reg_shape.specs.Written.{Fits, IsWrittenKey}
use Rattle.reg_shape.specs.Spelt.{rec_of, behind, below_root}
use Rattle.reg_shape.specs.Whole.{IsRing, count_at, descriptor_at}

-- one list behind the other
abbrev pub joined : List (List Found) → List Found
joined [] = []
joined (xs ∷ xss) = xs ++ joined xss

-- the records met in lists of keys, each list before what is met below its keys
abbrev pub lists_met : List KeyList → List (List Found) → List Found
lists_met [] below = []
lists_met (list ∷ lists) below =
    record { kind = Leaf; offset = list.offset } ∷ joined (take (length list.list.entries) below) ++ lists_met lists (drop (length list.list.entries) below)

-- the records met in an index, with what is met below each key
abbrev pub index_met : Index → List (List Found) → List Found
index_met Unlisted below = []
index_met (Listed list) below = record { kind = Leaf; offset = list.offset } ∷ joined below
index_met (Rooted offset lists) below = record { kind = SubList; offset = offset } ∷ lists_met lists below

-- the records met from each key on, those side by side apart
abbrev pub traces : Forest Node → List (List Found)
traces End = []
traces (Hangs offset node below beside) = (node.cells ++ index_met node.index (traces below)) ∷ traces beside

-- the records met from a key on
abbrev pub trace : Branch Node → List Found
trace branch = branch.node.cells ++ index_met branch.node.index (traces branch.below)

-- the records of the lists of an index
abbrev pub index_cells : Index → List Found
index_cells index = index_met index []

-- the records of a key itself
abbrev pub cells_of : Node → List Found
cells_of node = node.cells ++ index_cells node.index

-- how often a key has an offset as its own cell
abbrev pub owns : ℕ → ℕ → Node → ℕ
owns offset node_offset node = owned offset (cells_of node)

-- how often a key has an offset as its security
abbrev pub shares : ℕ → ℕ → Node → ℕ
shares offset node_offset node = shared offset (cells_of node)

-- a key reads as this node, and is as it is written
pub record IsSeen (heap : Heap) (root offset : ℕ) (node : Node) : Type 0 where
  pub reads : look heap offset ≡ Some node
  pub written : IsWrittenKey heap root offset node

-- the keys of a branch stand in the cells: each reads as its node and fits those right below it
abbrev pub StandsIn : Heap → ℕ → Branch Node → Type 0
StandsIn heap root branch = Stands (IsSeen heap root) Fits branch

-- how many keys lead down at most
abbrev pub depth : Forest Node → ℕ
depth End = 0
depth (Hangs offset node below beside) = max (suc (depth below)) (depth beside)

-- what a security cell describes
abbrev pub descriptor_in : Heap → ℕ → List ℕ
descriptor_in heap offset = unwrap_or (descriptor_at heap offset) []

-- the keys of a forest, each behind the folded names that lead to it
abbrev pub spelled : Heap → Forest Node → List (Path × Rec)
spelled heap End = []
spelled heap (Hangs offset node below beside) = behind (rec_of node (descriptor_in heap node.key.fields.security)) (spelled heap below) ++ spelled heap beside

-- the tree that a shape spells
abbrev pub tree_of : Heap → Branch Node → Tree
tree_of heap keys =
    from_entries (map below_root (behind (rec_of keys.node (descriptor_in heap keys.node.key.fields.security)) (spelled heap keys.below)))

-- the keys stand in the cells, and these are all that the cells hold: each allocated cell is one key's, or in the ring, once; each
-- security is named as often as it counts, and at least once; no key is deeper than 512 names
pub record IsWholeShape (heap : Heap) (root : ℕ) (keys : Branch Node) (ring : List ℕ) : Type 0 where
  pub offset : keys.offset ≡ root
  pub stands : StandsIn heap root keys
  pub exact : (offset : ℕ) → total_of (owns offset) keys + times offset ring ≡ allocated heap offset
  pub closed : IsRing heap ring
  pub ringed : (offset : ℕ) → 0 < total_of (shares offset) keys ↔ 0 < times offset ring
  pub counts : AllByRecursion (λ offset. count_at heap offset ≡ Some (total_of (shares offset) keys)) ring
  pub shallow : depth keys.below ≤ PATH_LIMIT
