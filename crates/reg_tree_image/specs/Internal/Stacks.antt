-- The code's keys on the present path, as frames of what is left.
use Rattle.std.specs.Prelude.{◌≡◌, ◌⊎◌, ◌≤◌, Bool, cond, length, ℕ, suc, ◌+◌, Result, Ok, Err, List, [], ◌∷◌, ⊤}
use Rattle.reg_names.specs.declared.TheConstants.{PATH_LIMIT}
use Rattle.reg_heap.specs.Heaps.{Heap}
use Rattle.reg_heap.specs.Paths.{Path, is_child, children_of}
use Rattle.reg_tree.specs.declared.node.Node.{Node}
use Rattle.reg_tree.specs.TreeKeys.{Keys, IsAt}
use Rattle.reg_tree_image.specs.declared.LoadFault.{LoadFault}
use Rattle.reg_tree_image.specs.declared.LoadFault.TheVariants.{Limit, Memory}
use Rattle.reg_tree_image.specs.declared.table.CellState.{CellState}
use Rattle.reg_tree_image.specs.declared.frames.KeyFrame.{KeyFrame}
use Rattle.reg_tree_image.specs.WalkSteps.{Seen}
use Rattle.reg_tree_image.specs.LoadingWalk.{key_from, root_path}
use Rattle.reg_tree_image.specs.Images.{nothing, tree_told}
use Rattle.reg_tree_image.specs.WalkedKeys.{Comes}
use Rattle.reg_tree_image.specs.CrowdedBins.{BuildsAll, IsCrowded}
use Rattle.reg_tree_image.specs.Internal.CellStates.{IsTable}
use Rattle.reg_tree_image.specs.Internal.ListParts.{entries_in}
use Rattle.reg_tree_image.specs.Internal.Frames.{Frame, frame_left, left, ComesInFrame, ComesLeft}

-- the offsets from the lowest key up to the root
abbrev pub path_of : List Frame → List ℕ
path_of [] = []
path_of (f ∷ frames) = f.path

-- a frame of the code: where its key is in the tree that is built, and what is left of the key's subkeys; no more are built than were
-- named
pub record Shows (keys : Keys) (key : KeyFrame) (f : Frame) : Type 0 where
  pub node : IsAt keys f.at key.node
  pub count : key.count ≡ f.count
  pub few : length (children_of keys.tree f.at) ≤ f.count
  pub entries : entries_in key.leaf ≡ f.entries
  pub lists : entries_in key.lists ≡ f.lists

-- each frame of the code shows what is left of its key, the lowest key first; each path goes on from the next one's
abbrev pub AreShown : Keys → List KeyFrame → List Frame → Type 0
AreShown keys [] [] = ⊤
AreShown keys [] (f ∷ frames) = ⊥
AreShown keys (key ∷ above) [] = ⊥
AreShown keys (key ∷ above) (f ∷ frames) = Shows keys key f × (f.path ≡ key.offset ∷ path_of frames) × AreShown keys above frames

-- each key, the lowest first, has so many names above it that, with the levels of keys that may come below it, they are 512; there is one
-- level more below the next one
abbrev pub IsDeep : ℕ → List KeyFrame → Type 0
IsDeep levels [] = ⊤
IsDeep levels (key ∷ above) = (levels + key.node.depth ≡ PATH_LIMIT) × IsDeep (suc levels) above

-- what was read so far, and the rest of the walk, are the whole walk, from the root at an offset on; the tree was built of the keys that
-- were told
pub record IsWalking (ahead : Bool) (heap : Heap) (minor root : ℕ) (whole : Result (Unit {0} × Seen) LoadFault) (stack : List KeyFrame)
    (states : List CellState) (keys : Keys) : Type 0 where
  pub seen : Seen
  pub frames : List Frame
  pub levels : ℕ
  pub shown : AreShown keys stack frames
  pub depths : IsDeep levels stack
  pub table : IsTable heap seen.found (path_of frames) states
  pub told : keys.tree ≡ tree_told seen
  pub built : BuildsAll ahead seen.told keys
  pub rest : left heap minor levels frames seen ≡ whole
  pub comes : (later : Seen) → ComesLeft heap minor later levels frames seen →
      Comes heap minor later (suc PATH_LIMIT) [] root_path root nothing

-- a walk has come to a key of the tree: its records were named as the table says, and so many levels of keys may come below it
pub record IsReadAt (heap : Heap) (states : List CellState) (keys : Keys) (node : Node) : Type 0 where
  pub levels : ℕ
  pub path : List ℕ
  pub at : Path
  pub seen : Seen
  pub table : IsTable heap seen.found path states
  pub told : keys.tree ≡ tree_told seen
  pub there : IsAt keys at node
  pub deep : levels + node.depth ≡ PATH_LIMIT

-- the walk of a key comes to one that the new bins have no room for
abbrev pub ComesCrowded : Bool → Heap → ℕ → ℕ → List ℕ → (List ℕ → Path) → ℕ → Seen → Type 0
ComesCrowded ahead heap minor levels path here offset seen =
    (after : Seen) × Comes heap minor after levels path here offset seen × IsCrowded ahead after

-- the walk from the root at an offset on comes to a key that the new bins have no room for
abbrev pub IsRootCrowded : Bool → Heap → ℕ → ℕ → Type 0
IsRootCrowded ahead heap minor root = ComesCrowded ahead heap minor (suc PATH_LIMIT) [] root_path root nothing

-- the whole walk meets this fault; want of memory may come in place of anything, and want of space where the new bins are crowded
abbrev pub FailsAs : Type 0 → LoadFault → Result (Unit {0} × Seen) LoadFault → Type 0
FailsAs crowded Memory whole = ⊤
FailsAs crowded Limit whole = (whole ≡ Err Limit) ⊎ crowded
FailsAs crowded fault whole = whole ≡ Err fault

-- a key was begun: its record, class, security and values were read, and it was built; then the list of its subkeys was read. What is
-- left of it are its subkeys
pub record IsBegun (ahead : Bool) (heap : Heap) (minor levels : ℕ) (path : List ℕ) (here : List ℕ → Path) (offset : ℕ) (seen : Seen)
    (states : List CellState) (keys : Keys) (key : KeyFrame) : Type 0 where
  pub lower : ℕ
  pub levels_are : levels ≡ suc lower
  pub after : Seen
  pub frame : Frame
  pub shown : Shows keys key frame
  pub offset_is : key.offset ≡ offset
  pub path_is : frame.path ≡ offset ∷ path
  pub depth : lower + key.node.depth ≡ PATH_LIMIT
  pub table : IsTable heap after.found (offset ∷ path) states
  pub told : keys.tree ≡ tree_told after
  pub built : BuildsAll ahead after.told keys
  pub one : (p : Path) → length (children_of keys.tree p) ≤ length (children_of (tree_told seen) p) + cond (is_child p frame.at) 1 0
  pub rest : key_from heap minor levels path here offset seen ≡ frame_left heap minor lower frame after
  pub comes : (later : Seen) → ComesInFrame heap minor later lower frame after → Comes heap minor later levels path here offset seen

-- a key is begun below another one
abbrev pub Begins : Bool → Heap → ℕ → ℕ → List ℕ → (List ℕ → Path) → ℕ → Seen → List CellState → Keys → Result KeyFrame LoadFault → Type 0
Begins ahead heap minor levels path here offset seen states keys (Ok key) = IsBegun ahead heap minor levels path here offset seen states keys key
Begins ahead heap minor levels path here offset seen states keys (Err fault) =
    FailsAs (ComesCrowded ahead heap minor levels path here offset seen) fault (key_from heap minor levels path here offset seen)
