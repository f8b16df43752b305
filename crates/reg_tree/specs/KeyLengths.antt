-- The largest lengths that key nodes note (Suhanov, Windows registry file format specification, "Key node").
use Rattle.std.specs.Prelude.{◌≡◌, ◌≢◌, ℕ, ◌+◌, ◌-◌, ◌*◌, ◌%◌, max, Option, Some, option_map, List, [], ◌∷◌, ◌++◌, map, length}
use Rattle.reg_names.specs.Names.{folded}
use Rattle.reg_heap.specs.Heaps.{Heap}
use Rattle.reg_heap.specs.Paths.{Path, Member}
use Rattle.reg_arena.specs.Arena.{heap_of}
use Rattle.reg_records.specs.KeyNodes.{KeyRecord, key_at}
use Rattle.reg_tree.specs.declared.node.Node.{Node}
use Rattle.reg_tree.specs.TreeKeys.{Keys, IsAt}

-- the largest lengths of a key's subkeys' names and classes, and of its values' names and data
pub record Lengths : Type 0 where
  pub subkey_name : ℕ
  pub subkey_class : ℕ
  pub value_name : ℕ
  pub value_data : ℕ

abbrev pub lengths_of : KeyRecord → Lengths
lengths_of key = record {
  subkey_name = key.fields.largest_subkey_name;
  subkey_class = key.fields.largest_subkey_class;
  value_name = key.fields.largest_value_name;
  value_data = key.fields.largest_value_data;
}

-- those of a key that has no subkeys, no class and no values, and never had any
abbrev pub no_lengths : Lengths
no_lengths = record { subkey_name = 0; subkey_class = 0; value_name = 0; value_data = 0 }

-- those of the key whose key node stands at an offset
abbrev pub lengths_at : Heap → ℕ → Option Lengths
lengths_at heap offset = option_map lengths_of (key_at heap offset)

-- the larger of what is noted and what a value has: a name of so many characters, which count two each, and so many bytes of data
abbrev pub with_value_lengths : ℕ → ℕ → Lengths → Lengths
with_value_lengths name size lengths =
    record lengths { value_name = max lengths.value_name (2 * name); value_data = max lengths.value_data size }

-- the largest of some lengths of values, 0 where there are none
abbrev pub largest : (Member → ℕ) → List Member → ℕ
largest size [] = 0
largest size (m ∷ members) = max (size m) (largest size members)

-- the larger of what is noted and what several values have
abbrev pub with_lengths_of : List Member → Lengths → Lengths
with_lengths_of members lengths = with_value_lengths (largest (λ m. length m.name) members) (largest (λ m. length m.bytes) members) lengths

-- a length in the low 16 bits of a number raised, where another is greater; the high bits stay
abbrev pub raised : ℕ → ℕ → ℕ
raised largest size = largest - largest % 65536 + max (largest % 65536) size

-- the larger of what a key notes and the first of some names has, below which the other keys are made
abbrev pub with_first_length : List (List ℕ) → Lengths → Lengths
with_first_length [] lengths = lengths
with_first_length (name ∷ names) lengths = record lengths { subkey_name = raised lengths.subkey_name (2 * length name) }

-- the larger of what is noted and what a key built right below has: a name of so many characters, which count two each, and so many
-- bytes of a class
abbrev pub with_key_lengths : ℕ → ℕ → Lengths → Lengths
with_key_lengths name class lengths =
    record lengths { subkey_name = raised lengths.subkey_name (2 * name); subkey_class = max lengths.subkey_class class }

-- the key at a path has its largest lengths changed so, and each other key has those that it had
pub record ChangesLengths (old new : Keys) (path : Path) (change : Lengths → Lengths) : Type 0 where
  pub here : (node : Node) → IsAt old path node →
      lengths_at (heap_of new.bins) node.offset ≡ option_map change (lengths_at (heap_of old.bins) node.offset)
  pub others : (other : Path) (node : Node) → other ≢ path → IsAt old other node →
      lengths_at (heap_of new.bins) node.offset ≡ lengths_at (heap_of old.bins) node.offset

-- of keys of these names made one below the other, below the one at a path, each notes the length of the name of the one made
-- right below it, and the last that there is none
abbrev pub NotesMade : Keys → Path → List (List ℕ) → Type 0
NotesMade new path names = (front back : List (List ℕ)) (node : Node) → names ≡ front ++ back → front ≢ [] →
    IsAt new (path ++ map folded front) node → lengths_at (heap_of new.bins) node.offset ≡ Some (with_first_length back no_lengths)

-- each key that is still there has the largest lengths that it had
abbrev pub KeepsLengths : Keys → Keys → Type 0
KeepsLengths old new = (path : Path) (node : Node) → IsAt old path node → IsAt new path node →
    lengths_at (heap_of new.bins) node.offset ≡ lengths_at (heap_of old.bins) node.offset
