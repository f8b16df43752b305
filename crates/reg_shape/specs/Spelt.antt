-- The tree that a hive's records spell (Suhanov, Windows registry file format specification, "Key node", "Key value",
-- "Key security").
use Rattle.std.specs.Prelude.{ℕ, zero, suc, ◌==◌, not, Option, None, List, [], ◌∷◌, map, drop, bit_and}
use Rattle.std.specs.Option.{option_map, option_and_then}
use Rattle.std.specs.FinMap.{from_entries}
use Rattle.reg_names.specs.Names.{folded}
use Rattle.reg_heap.specs.Paths.{Path, Rec, Tree}
use Rattle.reg_heap.specs.Heaps.{Heap}
use Rattle.reg_records.specs.KeyNodes.{KeyRecord}
use Rattle.reg_records.specs.KeySecurities.{KeySecurityRecord, security_at}
use Rattle.reg_records.specs.SubkeyLists.{offsets_in}
use Rattle.reg_shape.specs.Nodes.{Node, letters, entries_of, look}
use Rattle.reg_shape.specs.Walk.{gather}

-- the marks among a key node's flags: all but volatile, hive exit, hive entry and the form of the name
abbrev pub marks_of : ℕ → ℕ
marks_of flags = bit_and flags 65496

-- a key's name as given
abbrev pub name_of : KeyRecord → List ℕ
name_of key = letters (not (bit_and key.fields.flags 32 == 0)) key.name

-- a key as it is told, with its security's descriptor
abbrev pub rec_of : Node → List ℕ → Rec
rec_of node descriptor =
    record {
      name = name_of node.key;
      marks = marks_of node.key.fields.flags;
      class = node.class;
      descriptor = descriptor;
      time =
          node.key.fields.time;
      values = node.values;
    }

abbrev pub rec_in : Heap → Node → Option Rec
rec_in heap node = option_map (λ (s : KeySecurityRecord). rec_of node s.descriptor) (security_at heap node.key.fields.security)

-- a key, and behind its own name the keys below it
abbrev pub behind : Rec → List (Path × Rec) → List (Path × Rec)
behind rec below = map (λ (e : Path × Rec). (folded rec.name ∷ e.0, e.1)) (([], rec) ∷ below)

-- a key and those below it, each made by `go`
abbrev pub keys_of : (ℕ → Option (List (Path × Rec))) → Heap → Node → Option (List (Path × Rec))
keys_of go heap node = option_and_then (λ rec. option_map (behind rec) (gather go (offsets_in (entries_of node.index)))) (rec_in heap node)

-- the key at an offset and all below it, each behind the folded names that lead to it, the first key's among them; each step
-- down takes one of fuel
unfoldable pub keys_from : ℕ → Heap → ℕ → Option (List (Path × Rec))
keys_from zero heap offset = None
keys_from (suc fuel) heap offset = option_and_then (keys_of (keys_from fuel heap) heap) (look heap offset)

-- the root's own name is in no path
abbrev pub below_root : Path × Rec → Path × Rec
below_root e = (drop 1 e.0, e.1)

-- the tree that the records spell, from the root on; None where one of them is bad
unfoldable pub spelt : ℕ → Heap → ℕ → Option Tree
spelt fuel heap root = option_map (λ keys. from_entries (map below_root keys)) (keys_from fuel heap root)
