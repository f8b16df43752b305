-- A key that is begun, part by part.
use Rattle.std.specs.Prelude.{◌≡◌, ◌<◌, ◌+◌, ◌⊎◌, ℕ, zero, suc, Result, Ok, Err, IsOk, List, [], length, ⊤}
use Rattle.std.specs.Cow.{cow_slice_items}
use Rattle.std.specs.FinMap.{insert}
use Rattle.reg_heap.specs.Paths.{Path, Rec, Tree, Member}
use Rattle.reg_heap.specs.Heaps.{Heap}
use Rattle.reg_arena.specs.Arena.{heap_of}
use Rattle.reg_arena.specs.declared.ArenaFault.{ArenaFault}
use Rattle.reg_arena.specs.declared.ArenaFault.TheVariants.{Full, Memory as OutOfMemory}
use Rattle.reg_records.specs.SubkeyLists.{Entry, Form, SubkeysList}
use Rattle.reg_records.specs.declared.lists.ListForm.TheVariants.{IndexRoot, IndexLeaf, FastLeaf, HashLeaf}
use Rattle.reg_shape.specs.Spelt.{marks_of}
use Rattle.reg_tree.specs.declared.node.Node.{Node}
use Rattle.reg_tree.specs.MoreValues.{HasListRoom}
use Rattle.reg_tree.specs.TreeKeys.{Keys, IsAt}
use Rattle.reg_tree_image.specs.declared.LoadFault.{LoadFault}
use Rattle.reg_tree_image.specs.declared.LoadFault.TheVariants.{Limit, Memory}
use Rattle.reg_tree_image.specs.declared.table.CellState.{CellState}
use Rattle.reg_tree_image.specs.declared.keys.NamedKey.{NamedKey}
use Rattle.reg_tree_image.specs.declared.key_parts.KeyParts.{KeyParts}
use Rattle.reg_tree_image.specs.declared.subkeys.SubkeyParts.{SubkeyParts}
use Rattle.reg_tree_image.specs.WalkSteps.{Seen, Step, ◌>>=◌}
use Rattle.reg_tree_image.specs.LoadingWalk.{head_from, keys_each, lists_each, list_from, subkeys_from}
use Rattle.reg_tree_image.specs.Internal.CellStates.{IsTable}
use Rattle.reg_tree_image.specs.Internal.FitKeys.{AreFitBehind}
use Rattle.reg_tree_image.specs.Internal.ListParts.{entries_in}
use Rattle.reg_tree_image.specs.Internal.NamedRecords.{key_of, members_in}
use Rattle.reg_tree_image.specs.Internal.ReaderOutcomes.{IsDone, Fails}

-- ---- faults

-- memory was lacking; or space, and then the new bins are crowded
abbrev pub IsLack : Type 0 → LoadFault → Type 0
IsLack crowded Memory = ⊤
IsLack crowded Limit = crowded
IsLack crowded fault = ⊥

-- the fault of what the arena lacked
abbrev pub lack_of : ArenaFault → LoadFault
lack_of Full = Limit
lack_of OutOfMemory = Memory

-- a key's head met this fault; want of memory may come in place of anything. It is too deep where it has no level left
abbrev pub Stops : {A : Type 0} → ℕ → LoadFault → Result (A × Seen) LoadFault → Type 0
Stops levels Memory r = ⊤
Stops levels Limit r = (r ≡ Err Limit) ⊎ ((levels ≡ 0) × IsOk r)
Stops levels fault r = r ≡ Err fault

-- ---- the head

-- a key's record and name were read, and no sibling has that name; or why not, where so many levels of keys are left
abbrev pub Heads : Heap → ℕ → List ℕ → (List ℕ → Path) → ℕ → Seen → List CellState → Result NamedKey LoadFault → Type 0
Heads heap levels path here offset seen states (Ok named) = IsDone heap path (head_from heap path here offset) seen (key_of named) states
Heads heap levels path here offset seen states (Err fault) = Stops levels fault (head_from heap path here offset seen)

-- ---- the key

-- a key as it is told
abbrev pub told_as : NamedKey → KeyParts → Rec
told_as named parts = record {
  name = cow_slice_items named.name;
  marks = marks_of named.node.fields.flags;
  class = parts.class.now;
  descriptor = parts.descriptor.now;
  time = named.node.fields.time;
  values = members_in parts.values.items;
}

-- a node is that of a key of a time, which was put into a tree without values
pub record IsBare (keys : Keys) (node : Node) (time : ℕ) : Type 0 where
  pub path : Path
  pub base : Tree
  pub key : Rec
  pub at : IsAt keys path node
  pub put : keys.tree ≡ insert base path key
  pub bare : key.values ≡ []
  pub timed : key.time ≡ time

-- a node is that of a key of a time, which was put into a tree with values, one at least, that these may follow, and its list has room for
-- these
pub record IsBegun (keys : Keys) (node : Node) (time : ℕ) (members : List Member) : Type 0 where
  pub path : Path
  pub base : Tree
  pub key : Rec
  pub at : IsAt keys path node
  pub put : keys.tree ≡ insert base path key
  pub timed : key.time ≡ time
  pub follow : AreFitBehind key.values members
  pub some : 0 < length key.values
  pub room : HasListRoom (heap_of keys.bins) node.offset (length key.values + length members)

-- ---- the list of its subkeys

-- the keys of a list that an index root isn't
abbrev pub keys_of : Form → List Entry → List Entry
keys_of IndexRoot entries = []
keys_of IndexLeaf entries = entries
keys_of FastLeaf entries = entries
keys_of HashLeaf entries = entries

-- the lists of an index root
abbrev pub lists_of : Form → List Entry → List Entry
lists_of IndexRoot entries = entries
lists_of IndexLeaf entries = []
lists_of FastLeaf entries = []
lists_of HashLeaf entries = []

-- of a key's subkeys these keys and these lists are left
abbrev pub parts_left : Heap → List ℕ → (ℕ → Step (Unit {0})) → List Entry → List Entry → Step (Unit {0})
parts_left heap path go entries lists = do
  n ← keys_each go 0 entries
  lists_each heap go path n lists

-- where the keys and the lists that are left come from: none of no subkeys, and else from the list that was read
abbrev pub IsSource : Heap → List ℕ → ℕ → ℕ → Seen → Seen → List Entry → List Entry → Type 0
IsSource heap path zero offset seen after entries lists = (entries ≡ []) × (lists ≡ [])
IsSource heap path (suc n) offset seen after entries lists =
    (list : SubkeysList) × (list_from heap path offset seen ≡ Ok (list, after))
    × (entries ≡ keys_of list.form list.entries) × (lists ≡ lists_of list.form list.entries)

-- the list of a key's subkeys was read; no key was told
pub record IsListed (heap : Heap) (path : List ℕ) (go : ℕ → Step (Unit {0})) (count offset : ℕ) (seen : Seen) (states : List CellState)
    (parts : SubkeyParts) : Type 0 where
  pub after : Seen
  pub table : IsTable heap after.found path states
  pub told : after.told ≡ seen.told
  pub rest : subkeys_from heap go path count offset seen ≡ parts_left heap path go (entries_in parts.leaf) (entries_in parts.lists) after
  pub source : IsSource heap path count offset seen after (entries_in parts.leaf) (entries_in parts.lists)

abbrev pub Lists : Heap → List ℕ → (ℕ → Step (Unit {0})) → ℕ → ℕ → Seen → List CellState → Result SubkeyParts LoadFault → Type 0
Lists heap path go count offset seen states (Ok parts) = IsListed heap path go count offset seen states parts
Lists heap path go count offset seen states (Err fault) = Fails fault (subkeys_from heap go path count offset) seen
