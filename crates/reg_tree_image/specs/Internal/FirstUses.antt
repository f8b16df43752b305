-- The keys of the new tree that were built first with the securities of an image.
use Rattle.std.specs.Prelude.{◌≡◌, ℕ, ◌==◌, if◌then◌else◌, Option, Some}
use Rattle.std.specs.FinMap.{get}
use Rattle.std.specs.Ordering.{nat_cmp}
use Rattle.std.specs.BTreeMap.{get as found_in}
use Rattle.reg_heap.specs.Heaps.{Heap}
use Rattle.reg_heap.specs.Paths.{Path, Rec}
use Rattle.reg_shape.specs.Whole.{descriptor_at}
use Rattle.reg_tree.specs.declared.node.Node.{Node}
use Rattle.reg_tree.specs.TreeKeys.{Keys, IsAt}
use Rattle.reg_tree_image.specs.declared.first_keys.FirstKeys.{FirstKeys}

-- the first key with the security at an offset
abbrev pub first_with : FirstKeys → ℕ → Option Node
first_with firsts security = found_in nat_cmp firsts.nodes security

-- a key is the first with the security at an offset, and each other security's is as it was
abbrev pub Notes : FirstKeys → ℕ → Node → FirstKeys → Type 0
Notes old security node new = (other : ℕ) → first_with new other ≡ (if security == other then Some node else first_with old other)

-- a node is that of a key which has the descriptor of the image's security at an offset
pub record Uses (heap : Heap) (keys : Keys) (security : ℕ) (node : Node) : Type 0 where
  pub path : Path
  pub key : Rec
  pub at : IsAt keys path node
  pub there : get keys.tree path ≡ Some key
  pub same : descriptor_at heap security ≡ Some key.descriptor

-- each of them does
abbrev pub AreFirst : Heap → Keys → FirstKeys → Type 0
AreFirst heap keys firsts = (security : ℕ) (node : Node) → first_with firsts security ≡ Some node → Uses heap keys security node
