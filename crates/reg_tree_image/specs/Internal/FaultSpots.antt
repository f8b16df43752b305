-- Where what is left of the walk fails, key by key on the present path.
use Rattle.std.specs.Prelude.{◌≡◌, ℕ, zero, suc, Bool, true, false, Option, Some, None, Result, Ok, Err, List, [], ◌∷◌, ◌++◌, reverse, ⊤}
use Rattle.reg_names.specs.declared.TheConstants.{PATH_LIMIT}
use Rattle.reg_heap.specs.Heaps.{Heap}
use Rattle.reg_heap.specs.Edits.{child_path}
use Rattle.reg_records.specs.SubkeyLists.{Entry}
use Rattle.reg_tree_image.specs.declared.LoadFault.{LoadFault}
use Rattle.reg_tree_image.specs.declared.LoadFault.TheVariants.{Read, Memory}
use Rattle.reg_tree_image.specs.declared.places.FaultPlace.{FaultPlace}
use Rattle.reg_tree_image.specs.declared.spots.WalkSpot.{WalkSpot}
use Rattle.reg_tree_image.specs.WalkSteps.{Seen, Step}
use Rattle.reg_tree_image.specs.LoadingWalk.{root_path, key_from, keys_each, list_from}
use Rattle.reg_tree_image.specs.Images.{nothing}
use Rattle.reg_tree_image.specs.FaultPlaces.{Spot, Where, nowhere, then_place, ◌>>=◌, ◌>>◌, in_part, keys_spot, lists_spot, key_spot, Place, root_place}
use Rattle.reg_tree_image.specs.Internal.Frames.{Frame, frame_left}
use Rattle.reg_tree_image.specs.Internal.ReaderOutcomes.{Fails}

-- these keys and these lists of a key's subkeys, of which so many were walked
abbrev pub rest_spot : Heap → (ℕ → Step (Unit {0})) → (ℕ → Where Spot) → List ℕ → ℕ → List Entry → List Entry → Where Spot
rest_spot heap go goes path count entries lists = do
  n ← in_part (keys_spot go goes path count entries) (keys_each go count entries)
  lists_spot heap go goes path n lists

module _ (heap : Heap) (minor : ℕ) where
  -- what is left of a key's subkeys
  abbrev pub frame_spot : ℕ → Frame → Where Spot
  frame_spot levels f =
      rest_spot heap (key_from heap minor levels f.path (child_path f.at)) (key_spot heap minor levels f.path (child_path f.at)) f.path
      f.count f.entries f.lists

  -- what is left of the walk, the lowest key first
  abbrev pub left_spot : ℕ → List Frame → Where Spot
  left_spot levels [] = nowhere
  left_spot levels (f ∷ frames) = in_part (frame_spot levels f) (frame_left heap minor levels f) >> left_spot (suc levels) frames

-- the whole walk, from the root on
abbrev pub root_spot : Heap → ℕ → ℕ → Option Spot
root_spot heap minor root =
    then_place (key_spot heap minor (suc PATH_LIMIT) [] root_path root) (λ _. nowhere) nothing
    (key_from heap minor (suc PATH_LIMIT) [] root_path root nothing)

-- a fault was met there, if it isn't want of memory, which may come anywhere
abbrev pub IsMetAt : LoadFault → Spot → Option Spot → Type 0
IsMetAt Memory spot there = ⊤
IsMetAt fault spot there = there ≡ Some spot

-- where the code's walk is
abbrev pub spot_in : WalkSpot → Spot
spot_in spot = record { offset = spot.offset; path = reverse spot.path.items }

-- the list of a key that has subkeys meets this fault
abbrev pub NoList : Heap → List ℕ → ℕ → ℕ → Seen → LoadFault → Type 0
NoList heap path zero offset seen fault = ⊥
NoList heap path (suc n) offset seen fault = Fails fault (list_from heap path offset) seen

-- ---- places

-- want of memory, which is no fault of an image
abbrev pub is_lack : LoadFault → Bool
is_lack Memory = true
is_lack fault = false

-- the keys of a heap, from the root on
abbrev pub walked_place : Heap → ℕ → ℕ → Option Place
walked_place heap minor root =
    then_place (root_place heap minor root) (λ _. nowhere) nothing (key_from heap minor (suc PATH_LIMIT) [] root_path root nothing)

-- a text, with a backslash behind it where names stand before
abbrev pub parted : ℕ → List ℕ → List ℕ
parted zero text = text
parted (suc n) text = text ++ 92 ∷ []

-- what comes of a reading that ended too early
abbrev pub EndsAs : LoadFault → Result (Option FaultPlace) LoadFault → Type 0
EndsAs Read result = result ≡ Err Read
EndsAs Memory result = result ≡ Err Memory
EndsAs fault result = result ≡ Ok None
