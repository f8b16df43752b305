-- The largest lengths that key nodes note, before and after a change, by their offsets.
use Rattle.std.specs.Prelude.{◌≡◌, ◌≢◌, ◌⊎◌, ℕ, Some, option_map, List, [], ◌++◌, map}
use Rattle.reg_names.specs.Names.{folded}
use Rattle.reg_heap.specs.Heaps.{Heap}
use Rattle.reg_heap.specs.Paths.{Path}
use Rattle.reg_shape.specs.PathLookup.{key_offset_at}
use Rattle.reg_tree.specs.KeyLengths.{Lengths, lengths_at, no_lengths, with_first_length}

-- the key at a path has its largest lengths changed so, and each other key has those that it had
pub record LengthsChange (old new : Heap) (root : ℕ) (path : Path) (change : Lengths → Lengths) : Type 0 where
  pub here : (offset : ℕ) → key_offset_at old root path ≡ Some offset → lengths_at new offset ≡ option_map change (lengths_at old offset)
  pub others : (other : Path) (offset : ℕ) → other ≢ path → key_offset_at old root other ≡ Some offset → lengths_at new offset ≡ lengths_at old offset

-- a key at an offset is the one at a path, and its largest lengths were changed so, or it is another, and has those that it had
abbrev pub WhichLengths : Heap → Heap → Path → (Lengths → Lengths) → Path → ℕ → Type 0
WhichLengths old new path change other offset =
    ((other ≡ path) × (lengths_at new offset ≡ option_map change (lengths_at old offset))) ⊎ ((other ≢ path) × (lengths_at new offset ≡ lengths_at old offset))

-- of keys of these names made one below the other, below the one at a path, each notes the length of the name of the one made
-- right below it, and the last that there is none
abbrev pub MadeLengths : Heap → ℕ → Path → List (List ℕ) → Type 0
MadeLengths new root path names = (front back : List (List ℕ)) (offset : ℕ) → names ≡ front ++ back → front ≢ [] →
    key_offset_at new root (path ++ map folded front) ≡ Some offset → lengths_at new offset ≡ Some (with_first_length back no_lengths)

-- each key that is still there has the largest lengths that it had
abbrev pub LengthsStay : Heap → Heap → ℕ → Type 0
LengthsStay old new root = (path : Path) (offset : ℕ) → key_offset_at old root path ≡ Some offset → key_offset_at new root path ≡ Some offset →
    lengths_at new offset ≡ lengths_at old offset
