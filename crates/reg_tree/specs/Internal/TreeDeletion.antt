-- The keys below one deleted.
use Rattle.std.specs.Prelude.{◌≡◌, ℕ, Option, Some, None, nat_lt, not, false, cond, List, [], ◌∷◌, ◌++◌, length}
use Rattle.std.specs.FinMap.{retain_keys}
use Rattle.reg_heap.specs.Paths.{Path, Tree, Rec, children_of}
use Rattle.reg_heap.specs.Edits.{edited, at_time, without_values, is_under}
use Rattle.reg_arena.specs.Cells.{cell_at}
use Rattle.reg_shape.specs.PathLookup.{key_offset_at}
use Rattle.reg_security.specs.Rings.{DescriptorCells}
use Rattle.reg_index.specs.declared.PlacedKey.{PlacedKey}
use Rattle.reg_tree.specs.TreeKeys.{tree_in}
use Rattle.reg_tree.specs.Internal.TreeInvariant.{TreeInvariant}
use Rattle.reg_tree.specs.Internal.ReachedPlaces.{StandsAt}

-- a key right below the one at a path, and where it stands; or there is none
abbrev pub IsFirstSubkey : List ℕ → ℕ → Path → Option PlacedKey → Type 0
IsFirstSubkey bytes root path None = children_of (tree_in bytes root) path ≡ []
IsFirstSubkey bytes root path (Some child) =
    (name : List ℕ) × (key_offset_at (cell_at bytes) root (path ++ name ∷ []) ≡ Some child.key) × StandsAt (cell_at bytes) child.key child.place

-- all keys below a key removed; its time is set where there were some
abbrev pub bared : Tree → Path → ℕ → Tree
bared t p moment = cond (nat_lt 0 (length (children_of t p))) (retain_keys (edited t p (at_time moment)) (λ (q : Path). not (is_under p q))) t

-- all keys below the one at a path were deleted, and nothing else of the tree changed but its time; it and each other key stay where
-- they stand
pub record IsBared (old new : List ℕ) (root : ℕ) (table : DescriptorCells) (path : Path) (moment : ℕ) : Type 0 where
  pub holds : TreeInvariant new root table
  pub tree : tree_in new root ≡ bared (tree_in old root) path moment
  pub offsets : (other : Path) → is_under path other ≡ false → key_offset_at (cell_at new) root other ≡ key_offset_at (cell_at old) root other

-- a key with none of its values left, at a moment, where it has some
abbrev pub if_valued : ℕ → Rec → Rec
if_valued moment r = cond (nat_lt 0 (length r.values)) (without_values moment r) r
