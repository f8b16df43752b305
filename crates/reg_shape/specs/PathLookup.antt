-- The key at the end of a path, by the cells alone.
use Rattle.std.specs.Prelude.{ℕ, Bool, false, cond, Option, Some, None, List, [], ◌∷◌}
use Rattle.std.specs.Option.{option_and_then}
use Rattle.std.specs.Ordering.{nat_cmp, eq_by_cmp}
use Rattle.std.specs.Cmp.Lexicographic.{slice_cmp}
use Rattle.reg_names.specs.Names.{folded}
use Rattle.reg_heap.specs.Paths.{Path}
use Rattle.reg_heap.specs.Heaps.{Heap}
use Rattle.reg_records.specs.KeyNodes.{KeyRecord, key_at}
use Rattle.reg_records.specs.SubkeyLists.{offsets_in}
use Rattle.reg_shape.specs.Nodes.{Node, entries_of, look}
use Rattle.reg_shape.specs.Spelt.{name_of}

-- a key that may be there has this folded name
abbrev pub calls : List ℕ → Option KeyRecord → Bool
calls name None = false
calls name (Some key) = eq_by_cmp (slice_cmp nat_cmp) name (folded (name_of key))

-- the key node at an offset has this folded name; false where no key node is there
abbrev pub is_called : Heap → List ℕ → ℕ → Bool
is_called heap name offset = calls name (key_at heap offset)

-- the first of some offsets whose key has this folded name
abbrev pub key_named : Heap → List ℕ → List ℕ → Option ℕ
key_named heap name [] = None
key_named heap name (offset ∷ offsets) = cond (is_called heap name offset) (Some offset) (key_named heap name offsets)

-- the subkey of this folded name, of the key at an offset
abbrev pub subkey_named : Heap → List ℕ → ℕ → Option ℕ
subkey_named heap name offset = option_and_then (λ (node : Node). key_named heap name (offsets_in (entries_of node.index))) (look heap offset)

-- the offset of the key at a path from the key at an offset on
unfoldable pub key_offset_at : Heap → ℕ → Path → Option ℕ
key_offset_at heap offset [] = Some offset
key_offset_at heap offset (name ∷ path) = option_and_then (λ node_offset. key_offset_at heap node_offset path) (subkey_named heap name offset)
