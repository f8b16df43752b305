-- One key's own cells exchanged for others, and the keys elsewhere the same: what a change of values, marks, times, lists or a
-- security does to a shape.
use Rattle.std.specs.Prelude.{◌≡◌, ℕ, Bool, cond, Option, Some, None, List, [], ◌∷◌}
use Rattle.std.specs.Ordering.{nat_cmp, eq_by_cmp}
use Rattle.std.specs.Cmp.Lexicographic.{slice_cmp}
use Rattle.reg_names.specs.Names.{folded}
use Rattle.reg_heap.specs.Paths.{Path}
use Rattle.reg_heap.specs.Heaps.{Heap, CellFrame}
use Rattle.reg_heap.specs.Kinds.{owned, shared}
use Rattle.reg_shape.specs.Internal.Forests.{Forest, Branch}
use Rattle.reg_shape.specs.Internal.Forests.Forest.{End, Rooted as Hangs}
use Rattle.reg_shape.specs.Nodes.{Node}
use Rattle.reg_shape.specs.Spelt.{name_of}
use Rattle.reg_shape.specs.Written.{Fits}
use Rattle.reg_shape.specs.Internal.Shapes.{cells_of, IsSeen}

-- a folded name is a key's
abbrev pub is_named : List ℕ → Node → Bool
is_named name node = eq_by_cmp (slice_cmp nat_cmp) name (folded (name_of node.key))

-- the key at a path, and its offset
abbrev pub found_in : Path → Forest Node → Option (ℕ × Node)
found_in [] keys = None
found_in (name ∷ path) End = None
found_in (name ∷ []) (Hangs offset node below beside) = cond (is_named name node) (Some (offset, node)) (found_in (name ∷ []) beside)
found_in (name ∷ next ∷ path) (Hangs offset node below beside) = cond (is_named name node) (found_in (next ∷ path) below) (found_in (name ∷ next ∷ path) beside)

abbrev pub found_at : Path → Branch Node → Option (ℕ × Node)
found_at [] keys = Some (keys.offset, keys.node)
found_at (name ∷ path) keys = found_in (name ∷ path) keys.below

-- another node for the key at a path
abbrev pub edit_in : Path → Node → Forest Node → Forest Node
edit_in [] new keys = keys
edit_in (name ∷ path) new End = End
edit_in (name ∷ []) new (Hangs offset node below beside) = cond (is_named name node) (Hangs offset new below beside)
    (Hangs offset node below (edit_in (name ∷ []) new beside))
edit_in (name ∷ next ∷ path) new (Hangs offset node below beside) =
    cond (is_named name node) (Hangs offset node (edit_in (next ∷ path) new below) beside) (Hangs offset node below (edit_in (name ∷ next ∷ path) new beside))

abbrev pub edit_at : Path → Node → Branch Node → Branch Node
edit_at [] new keys = record keys { node = new }
edit_at (name ∷ path) new keys = record keys { below = edit_in (name ∷ path) new keys.below }

-- what a key shows the key above it
pub record IsAlike (old new : Node) : Type 0 where
  pub name : new.key.name ≡ old.key.name
  pub parent : new.key.fields.parent ≡ old.key.fields.parent
  pub class_length : new.key.fields.class_length ≡ old.key.fields.class_length

-- the key at an offset gave up its own cells for others, and is as it is written; it shows the same above and fits the same below,
-- and names the same security
pub record IsExchanged (old new : Heap) (root node_offset : ℕ) (was is : Node) : Type 0 where
  pub frame : CellFrame old new (λ offset. owned offset (cells_of was)) (λ offset. owned offset (cells_of is))
  pub seen : IsSeen new root node_offset is
  pub alike : IsAlike was is
  pub fits : (below : List (ℕ × Node)) → Fits node_offset was below → Fits node_offset is below
  pub security : (offset : ℕ) → shared offset (cells_of is) ≡ shared offset (cells_of was)
