-- Whole hives: nothing is left over, nothing is named twice, nothing is counted wrongly (Suhanov, Windows registry file format
-- specification, "Cell", "Key security"; the rest is this project's).
use Rattle.std.specs.Prelude.{◌≡◌, ◌≢◌, ◌↔◌, ℕ, ◌+◌, ◌<◌, ◌≤◌, Option, Some, List, [], ◌∷◌, length, map, IsSome, true, Contains, ⊤}
use Rattle.std.specs.Option.{option_map}
use Rattle.std.specs.List.{AllByRecursion}
use Rattle.reg_names.specs.declared.TheConstants.{PATH_LIMIT}
use Rattle.reg_heap.specs.Paths.{Path, Rec}
use Rattle.reg_heap.specs.Heaps.{Heap}
use Rattle.reg_heap.specs.Kinds.{Found, times, owned, shared}
use Rattle.reg_heap.specs.Kinds.Kind.{Key, Security}
use Rattle.reg_arena.specs.declared.Cell.{Cell}
use Rattle.reg_arena.specs.Cells.{cells_of, cell_at}
use Rattle.reg_records.specs.KeySecurities.{KeySecurityRecord, security_at}
use Rattle.reg_shape.specs.Walk.{walk}
use Rattle.reg_records.specs.BigData.{plainly}
use Rattle.reg_shape.specs.Nodes.{Node, entries_of, look}
use Rattle.reg_records.specs.SubkeyLists.{offsets_in}
use Rattle.reg_shape.specs.Spelt.{keys_from}
use Rattle.reg_shape.specs.Written.{Pairwise, IsWrittenKey, Fits, IsWrittenSecurity}

-- an offset is among those met
abbrev pub Meets : List Found → ℕ → Type 0
Meets found offset = 0 < owned offset found + shared offset found

-- two that are met at one offset are both securities
abbrev pub AreApart : Found → Found → Type 0
AreApart a b = a.offset ≡ b.offset → (a.kind ≡ Security) × (b.kind ≡ Security)

abbrev pub flink_at : Heap → ℕ → Option ℕ
flink_at heap offset = option_map (λ (s : KeySecurityRecord). s.fields.flink) (security_at heap offset)

abbrev pub blink_at : Heap → ℕ → Option ℕ
blink_at heap offset = option_map (λ (s : KeySecurityRecord). s.fields.blink) (security_at heap offset)

abbrev pub count_at : Heap → ℕ → Option ℕ
count_at heap offset = option_map (λ (s : KeySecurityRecord). s.fields.count) (security_at heap offset)

abbrev pub descriptor_at : Heap → ℕ → Option (List ℕ)
descriptor_at heap offset = option_map (λ (s : KeySecurityRecord). s.descriptor) (security_at heap offset)

-- the first security leads to the second, and back
pub record Links (heap : Heap) (a b : ℕ) : Type 0 where
  pub forward : flink_at heap a ≡ Some b
  pub back : blink_at heap b ≡ Some a

-- one security leads to the next, that one to the next after it, and the last of these to another
abbrev pub Leads : Heap → ℕ → List ℕ → ℕ → Type 0
Leads heap offset [] end = Links heap offset end
Leads heap offset (next ∷ rest) end = Links heap offset next × Leads heap next rest end

-- each leads to the next, and the last to the first; one alone leads to itself
abbrev pub Circles : Heap → List ℕ → Type 0
Circles heap [] = ⊤
Circles heap (first ∷ rest) = Leads heap first rest first

-- the securities of a ring, in its order from one of them on, or none; no two of them have equal descriptors
pub record IsRing (heap : Heap) (ring : List ℕ) : Type 0 where
  pub circles : Circles heap ring
  pub apart : Pairwise (λ a b. descriptor_at heap a ≢ descriptor_at heap b) ring
  pub written : AllByRecursion (IsWrittenSecurity heap) ring

-- a key that is met, as it is written, and the keys right below it
pub record IsWritten (heap : Heap) (root offset : ℕ) : Type 0 where
  pub node : Node
  pub seen : look heap offset ≡ Some node
  pub written : IsWrittenKey heap root offset node
  pub below : List (ℕ × Node)
  pub reads : AllByRecursion (λ (e : ℕ × Node). look heap e.0 ≡ Some e.1) below
  pub fits : Fits offset node below

-- a whole heap of so many cells: the walk from the root is defined (a), meets no offset twice, save as a security (b), and meets
-- just the allocated cells (c); the securities form one ring, and each is met as often as it counts (d); each key is as it is
-- written, and its path has at most 512 names below the root's (e)
pub record IsWhole (heap : Heap) (cells root : ℕ) : Type 0 where
  pub found : List Found
  pub walked : walk cells heap (plainly Key root) ≡ Some found
  pub once : Pairwise AreApart found
  pub exact : (offset : ℕ) → Meets found offset ↔ IsSome (heap offset)
  pub ring : List ℕ
  pub closed : IsRing heap ring
  pub ringed : (offset : ℕ) → 0 < shared offset found ↔ 0 < times offset ring
  pub counts : AllByRecursion (λ offset. count_at heap offset ≡ Some (shared offset found)) ring
  pub keys : AllByRecursion (λ (f : Found). f.kind ≡ Key → IsWritten heap root f.offset) found
  pub depth : (keys : List (Path × Rec)) → keys_from cells heap root ≡ Some keys → AllByRecursion (λ (e : Path × Rec). length e.0 ≤ PATH_LIMIT + 1) keys

-- the hive in these bytes is whole
pub record Whole (bytes : List ℕ) (root : ℕ) : Type 0 where
  pub cells : List Cell
  pub cells_are : cells_of bytes ≡ Some cells
  pub whole : IsWhole (cell_at bytes) (length cells) root

-- an allocated cell of these begins there
abbrev pub IsAllocatedIn : List Cell → ℕ → Type 0
IsAllocatedIn cells offset = (cell : Cell) × Contains cells cell × (cell.offset ≡ offset) × (cell.allocated ≡ true)

-- these are the keys that a key's lists name, as they are read
pub record HasSubkeys (heap : Heap) (offset : ℕ) (below : List (ℕ × Node)) : Type 0 where
  pub node : Node
  pub seen : look heap offset ≡ Some node
  pub reads : AllByRecursion (λ (e : ℕ × Node). look heap e.0 ≡ Some e.1) below
  pub offsets : map (λ (e : ℕ × Node). e.0) below ≡ offsets_in (entries_of node.index)
