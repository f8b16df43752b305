-- The keys on the present path of a walk that builds none, as frames of what is left.
use Rattle.std.specs.Prelude.{◌≡◌, ℕ, suc, ◌+◌, ◌==◌, ◌||◌, not, Bool, true, false, length, reverse, Option, Result, Err, List, [], ◌∷◌, ◌++◌, ⊤}
use Rattle.reg_names.specs.declared.TheConstants.{PATH_LIMIT}
use Rattle.reg_heap.specs.Heaps.{Heap}
use Rattle.reg_heap.specs.Paths.{Path, Rec}
use Rattle.reg_heap.specs.Edits.{child_path}
use Rattle.reg_heap.specs.Members.{same_name}
use Rattle.reg_tree_image.specs.declared.LoadFault.{LoadFault}
use Rattle.reg_tree_image.specs.declared.LoadFault.TheVariants.{Memory}
use Rattle.reg_tree_image.specs.declared.table.CellState.{CellState}
use Rattle.reg_tree_image.specs.declared.sibling_names.SiblingNames.{SiblingNames}
use Rattle.reg_tree_image.specs.declared.checking.CheckedKey.{CheckedKey}
use Rattle.reg_tree_image.specs.WalkSteps.{Seen}
use Rattle.reg_tree_image.specs.LoadingWalk.{is_free, key_from}
use Rattle.reg_tree_image.specs.FaultPlaces.{Spot, key_spot}
use Rattle.reg_tree_image.specs.Internal.CellStates.{IsTable}
use Rattle.reg_tree_image.specs.Internal.ListParts.{entries_in}
use Rattle.reg_tree_image.specs.Internal.NamesMet.{is_met, is_one_of}
use Rattle.reg_tree_image.specs.Internal.Frames.{Frame, frame_left, left}
use Rattle.reg_tree_image.specs.Internal.FaultSpots.{frame_spot, left_spot}
use Rattle.reg_tree_image.specs.Internal.KeysNamed.{key_offsets}
use Rattle.reg_tree_image.specs.Internal.Stacks.{path_of}

-- the whole walk meets this fault, if it isn't want of memory, which may come in place of anything
abbrev pub Meets : LoadFault → Result (Unit {0} × Seen) LoadFault → Type 0
Meets Memory whole = ⊤
Meets fault whole = whole ≡ Err fault

-- among these names is one that folds as another
abbrev pub has_met : SiblingNames → List ℕ → Bool
has_met names name = is_one_of name names.rising.items || is_met names.met.folded.keys name

-- the names are just those of the keys that were told where `here` puts a key of a name
abbrev pub AreSiblings : (List ℕ → Path) → List (Path × Rec) → SiblingNames → Type 0
AreSiblings here told names = (name : List ℕ) → is_free (here name) told ≡ not (has_met names name)

-- with a key that wasn't told none below it was
abbrev pub HasAllAbove : List (Path × Rec) → Type 0
HasAllAbove told = (path : Path) (name : List ℕ) → is_free path told ≡ true → is_free (child_path path name) told ≡ true

-- a frame of the code: what is left of the key's subkeys, and the names of those that were told; the key itself was told
pub record Shows (told : List (Path × Rec)) (key : CheckedKey) (f : Frame) : Type 0 where
  pub count : key.count ≡ f.count
  pub entries : entries_in key.leaf ≡ f.entries
  pub lists : entries_in key.lists ≡ f.lists
  pub names : AreSiblings (child_path f.at) told key.names
  pub itself : is_free f.at told ≡ false

-- each frame of the code shows what is left of its key, the lowest key first; each path goes on from the next one's, and each key has so
-- many names above it that, with the levels of keys that may come below it, they are 512
abbrev pub AreShown : List (Path × Rec) → ℕ → List CheckedKey → List Frame → Type 0
AreShown told levels [] [] = ⊤
AreShown told levels [] (f ∷ frames) = ⊥
AreShown told levels (key ∷ above) [] = ⊥
AreShown told levels (key ∷ above) (f ∷ frames) =
    Shows told key f × (f.path ≡ key.offset ∷ path_of frames) × (key.levels ≡ levels) × (levels + length f.at ≡ PATH_LIMIT)
    × AreShown told (suc levels) above frames

-- what was read so far, and the rest of the walk, are the whole walk, which fails where the rest does; the keys that were named are noted,
-- but in minor version 3, where a hive's own walk reads data in another way; those of the present path are the trail
pub record IsChecking (heap : Heap) (minor : ℕ) (whole : Result (Unit {0} × Seen) LoadFault) (there : Option Spot) (stack : List CheckedKey)
    (states : List CellState) (noted trail : List ℕ) : Type 0 where
  pub seen : Seen
  pub frames : List Frame
  pub levels : ℕ
  pub shown : AreShown seen.told levels stack frames
  pub table : IsTable heap seen.found (path_of frames) states
  pub above : HasAllAbove seen.told
  pub rest : left heap minor levels frames seen ≡ whole
  pub keys : (minor == 3) ≡ false → noted ≡ key_offsets seen.found
  pub spot : left_spot heap minor levels frames seen ≡ there
  pub trailed : reverse trail ≡ path_of frames

-- a key on the present path, of whose subkeys none was named yet
abbrev pub frame_of : List ℕ → Path → CheckedKey → Frame
frame_of path at key = record { path = path; at = at; count = 0; entries = entries_in key.leaf; lists = entries_in key.lists }

-- a key was checked: its record, class, security and values were read, and then the list of its subkeys; its name is one more of its
-- siblings'. What is left of it are its subkeys
pub record IsChecked (heap : Heap) (minor levels : ℕ) (path : List ℕ) (here : List ℕ → Path) (offset : ℕ) (seen : Seen)
    (states : List CellState) (old new : SiblingNames) (key : CheckedKey) : Type 0 where
  pub lower : ℕ
  pub levels_are : levels ≡ suc lower
  pub after : Seen
  pub name : List ℕ
  pub rec : Rec
  pub free : is_free (here name) seen.told ≡ true
  pub told : after.told ≡ seen.told ++ (here name, rec) ∷ []
  pub offset_is : key.offset ≡ offset
  pub level_is : key.levels ≡ lower
  pub count_is : key.count ≡ 0
  pub none : (other : List ℕ) → has_met key.names other ≡ false
  pub one : (other : List ℕ) → has_met new other ≡ (has_met old other || same_name name other)
  pub table : IsTable heap after.found (offset ∷ path) states
  pub rest : key_from heap minor levels path here offset seen ≡ frame_left heap minor lower (frame_of (offset ∷ path) (here name) key) after
  pub keys : (minor == 3) ≡ false → key_offsets after.found ≡ key_offsets seen.found ++ offset ∷ []
  pub spot : key_spot heap minor levels path here offset seen ≡ frame_spot heap minor lower (frame_of (offset ∷ path) (here name) key) after
