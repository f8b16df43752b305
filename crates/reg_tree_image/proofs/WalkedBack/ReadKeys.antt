-- Each key that a walk noted, where it met no fault, is as the walk tells.
use Rattle.std.proofs.Common.{◌≡◌, ℕ, ◌==◌, false, Ok, List, [], ◌∷◌}
use Rattle.std.specs.List.{AllByRecursion}
use Rattle.reg_heap.specs.Heaps.{Heap}
use Rattle.reg_heap.specs.Paths.{Path}
use Rattle.reg_records.specs.SubkeyLists.{Entry}
use Rattle.reg_shape.specs.Nodes.{entries_of}
use Rattle.reg_written.specs.ReadKeys.{IsNamed, IsRead}
use Rattle.reg_tree_image.specs.Images.{nothing}
use Rattle.reg_tree_image.specs.Internal.KeysNamed.{key_offsets}
use Rattle.reg_tree_image.specs.WalkSteps.{Seen}
use Rattle.reg_tree_image.specs.LoadingWalk.{root_path, key_from}
use Rattle.reg_tree_image.proofs.WalkedBack.ReadKeysNodes.{IsMet, key-read}
use Rattle.reg_tree_image.proofs.WalkedBack.ReadKeysEach.{each-walked, all-walked}

module _ (heap : Heap) (minor : ℕ) (new : (minor == 3) ≡ false) where
  one-named : (offset : ℕ) → IsMet heap minor offset → IsNamed heap offset
  one-named offset m = let k = key-read heap minor new offset m in record { node = k.node; seen = k.seen; name = k.name }

  all-named : (entries : List Entry) → AllByRecursion (λ (e : Entry). IsMet heap minor e.offset) entries → AllByRecursion (λ (e : Entry). IsNamed heap e.offset) entries
  all-named [] a = tt
  all-named (e ∷ entries) a = (one-named e.offset a.0, all-named entries a.1)

  one-read : (offset : ℕ) → IsMet heap minor offset → IsRead heap offset
  one-read offset m =
      let k = key-read heap minor new offset m in
      record {
        node = k.node;
        seen = k.seen;
        few = k.values.few;
        names = k.values.names;
        apart = k.values.apart;
        sizes = k.values.sizes;
        below = all-named (entries_of k.node.index) k.below;
      }

pub read-back : (heap : Heap) (minor : ℕ) → (minor == 3) ≡ false → (levels : ℕ) (path : List ℕ) (here : List ℕ → Path) (offset : ℕ) (before after : Seen) →
    key_from heap minor levels path here offset before ≡ Ok (tt, after) → AllByRecursion (IsRead heap) (key_offsets before.found) →
    AllByRecursion (IsRead heap) (key_offsets after.found)
read-back heap minor new levels path here offset before after e h =
    each-walked (IsRead heap) heap minor new (one-read heap minor new) levels path here offset before tt after e h

-- each key that a whole walk noted
pub all-read : (heap : Heap) (minor : ℕ) → (minor == 3) ≡ false → (levels root : ℕ) (seen : Seen) → key_from heap minor levels [] root_path root nothing ≡ Ok (tt, seen) →
    AllByRecursion (IsRead heap) (key_offsets seen.found)
all-read heap minor new levels root seen e = all-walked (IsRead heap) heap minor new (one-read heap minor new) levels root tt seen e
