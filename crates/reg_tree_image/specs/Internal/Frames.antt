-- What is left of the walk, key by key on the present path.
use Rattle.std.specs.Prelude.{◌≡◌, ◌⊎◌, ℕ, suc, Ok, List, [], ◌∷◌}
use Rattle.reg_heap.specs.Heaps.{Heap}
use Rattle.reg_heap.specs.Paths.{Path}
use Rattle.reg_heap.specs.Edits.{child_path}
use Rattle.reg_records.specs.SubkeyLists.{Entry}
use Rattle.reg_tree_image.specs.WalkSteps.{Seen, Step, ◌>>=◌, ◌>>◌, give}
use Rattle.reg_tree_image.specs.LoadingWalk.{key_from, keys_each, lists_each}
use Rattle.reg_tree_image.specs.WalkedKeys.{ComesInKeys, ComesInLists, Comes}

-- a key on the present path: the offsets from it up to the root, its path, how many of its subkeys were named, and what is left of the
-- present list of keys and of the index root
pub record Frame : Type 0 where
  pub path : List ℕ
  pub at : Path
  pub count : ℕ
  pub entries : List Entry
  pub lists : List Entry

module _ (heap : Heap) (minor : ℕ) where
  -- what is left of a key's subkeys, below which there are so many levels of keys
  abbrev pub frame_left : ℕ → Frame → Step (Unit {0})
  frame_left levels f = do
    n ← keys_each (key_from heap minor levels f.path (child_path f.at)) f.count f.entries
    lists_each heap (key_from heap minor levels f.path (child_path f.at)) f.path n f.lists

  -- what is left of the walk, the lowest key first
  abbrev pub left : ℕ → List Frame → Step (Unit {0})
  left levels [] = give tt
  left levels (f ∷ frames) = frame_left levels f >> left (suc levels) frames

-- what is left of the walk meets no fault until it has told a key, and has seen all of `after` by then
module _ (heap : Heap) (minor : ℕ) (after : Seen) where
  -- in what is left of a key's subkeys
  abbrev pub ComesInFrame : ℕ → Frame → Seen → Type 0
  ComesInFrame levels f seen =
      ComesInKeys heap after (key_from heap minor levels f.path (child_path f.at)) (Comes heap minor after levels f.path (child_path f.at))
      f.count f.entries seen
      ⊎ ((n : ℕ) × (then : Seen)
      × (keys_each (key_from heap minor levels f.path (child_path f.at)) f.count f.entries seen ≡ Ok (n, then))
      × ComesInLists heap after (key_from heap minor levels f.path (child_path f.at))
      (Comes heap minor after levels f.path (child_path f.at)) f.path n f.lists then)

  -- the lowest key first
  abbrev pub ComesLeft : ℕ → List Frame → Seen → Type 0
  ComesLeft levels [] seen = ⊥
  ComesLeft levels (f ∷ frames) seen =
      ComesInFrame levels f seen
      ⊎ ((then : Seen) × (frame_left heap minor levels f seen ≡ Ok (tt, then)) × ComesLeft (suc levels) frames then)
