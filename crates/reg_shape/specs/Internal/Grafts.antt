-- A key and all below it given way to others: what making a key, and deleting one, do to a shape.
use Rattle.std.specs.Prelude.{◌≡◌, ◌↔◌, ℕ, zero, suc, ◌+◌, ◌<◌, ◌≤◌, cond, Option, Some, None, unwrap_or, List, [], ◌∷◌}
use Rattle.std.specs.List.{AllByRecursion}
use Rattle.reg_names.specs.declared.TheConstants.{PATH_LIMIT}
use Rattle.reg_heap.specs.Paths.{Path}
use Rattle.reg_heap.specs.Heaps.{Heap, allocated}
use Rattle.reg_heap.specs.Kinds.{times}
use Rattle.reg_shape.specs.Internal.Forests.{Forest, Branch, total_of}
use Rattle.reg_shape.specs.Internal.Forests.Forest.{End, Rooted as Hangs}
use Rattle.reg_records.specs.RecordCells.{held}
use Rattle.reg_records.specs.KeySecurities.{KeySecurityRecord, security_at, IsPlainSecurity}
use Rattle.reg_shape.specs.Nodes.{Node}
use Rattle.reg_shape.specs.Whole.{IsRing, count_at, descriptor_at}
use Rattle.reg_shape.specs.Internal.Shapes.{owns, shares, StandsIn, depth}
use Rattle.reg_shape.specs.Internal.Exchanges.{is_named, IsAlike}

-- the keys stand in the cells, and these are all that the cells hold: each allocated cell is one key's, or in the ring, or spare for a
-- key to come, once; each security is named as often as it counts, and at least once; no key is deeper than 512 names
pub record IsShape (heap : Heap) (root : ℕ) (keys : Branch Node) (ring spare : List ℕ) : Type 0 where
  pub offset : keys.offset ≡ root
  pub stands : StandsIn heap root keys
  pub exact : (offset : ℕ) → total_of (owns offset) keys + times offset ring + times offset spare ≡ allocated heap offset
  pub closed : IsRing heap ring
  pub ringed : (offset : ℕ) → 0 < total_of (shares offset) keys ↔ 0 < times offset ring
  pub counts : AllByRecursion (λ offset. count_at heap offset ≡ Some (total_of (shares offset) keys)) ring
  pub shallow : depth keys.below ≤ PATH_LIMIT

-- the key at a path, with all below it
abbrev pub branch_in : Path → Forest Node → Option (Branch Node)
branch_in [] keys = None
branch_in (name ∷ path) End = None
branch_in (name ∷ []) (Hangs offset node below beside) =
    cond (is_named name node) (Some (record { offset = offset; node = node; below = below })) (branch_in (name ∷ []) beside)
branch_in (name ∷ next ∷ path) (Hangs offset node below beside) = cond (is_named name node) (branch_in (next ∷ path) below)
    (branch_in (name ∷ next ∷ path) beside)

abbrev pub branch_at : Path → Branch Node → Option (Branch Node)
branch_at [] keys = Some keys
branch_at (name ∷ path) keys = branch_in (name ∷ path) keys.below

-- another node and other keys below it, for the key at a path; it stays at its offset
abbrev pub graft_in : Path → Node → Forest Node → Forest Node → Forest Node
graft_in [] new under keys = keys
graft_in (name ∷ path) new under End = End
graft_in (name ∷ []) new under (Hangs offset node below beside) =
    cond (is_named name node) (Hangs offset new under beside) (Hangs offset node below (graft_in (name ∷ []) new under beside))
graft_in (name ∷ next ∷ path) new under (Hangs offset node below beside) =
    cond (is_named name node) (Hangs offset node (graft_in (next ∷ path) new under below) beside)
    (Hangs offset node below (graft_in (name ∷ next ∷ path) new under beside))

abbrev pub graft_at : Path → Node → Forest Node → Branch Node → Branch Node
graft_at [] new under keys = record keys { node = new; below = under }
graft_at (name ∷ path) new under keys = record keys { below = graft_in (name ∷ path) new under keys.below }

-- a key without keys below it, put among others at an index
abbrev pub hang : ℕ → ℕ → Node → Forest Node → Forest Node
hang zero offset node keys = Hangs offset node End keys
hang (suc n) offset node End = Hangs offset node End End
hang (suc n) offset node (Hangs other key below beside) = Hangs other key below (hang n offset node beside)

-- the others without the one at an index
abbrev pub unhang : ℕ → Forest Node → Forest Node
unhang n End = End
unhang zero (Hangs other key below beside) = beside
unhang (suc n) (Hangs other key below beside) = Hangs other key below (unhang n beside)

-- a security has another count, by as much as it is named more or less often, and reads the same beside
pub record IsRecounted (old new : Heap) (was is : ℕ) (offset : ℕ) : Type 0 where
  pub security : KeySecurityRecord
  pub count : ℕ
  pub reads : security_at old offset ≡ Some security
  pub now : security_at new offset ≡ Some (record security { fields = record security.fields { count = count } })
  pub plain : IsPlainSecurity (held old offset) → IsPlainSecurity (held new offset)
  pub counted : count + was ≡ security.fields.count + is

-- a number for what stands in a list so many times, and 0 for what doesn't stand in it
abbrev pub where_in : ℕ → ℕ → ℕ
where_in zero n = 0
where_in (suc t) n = n

-- how often a ring's security says that it is used, and 0 for one that isn't in the ring
abbrev pub uses_in : Heap → List ℕ → ℕ → ℕ
uses_in heap ring offset = where_in (times offset ring) (unwrap_or (count_at heap offset) 0)

-- a key and all below it gave way to others at its offset, which stand in its cells and in cells that were spare or a security's that
-- left the ring; what it shows above is the same, and each security of the ring after it is used as often as it is named now
pub record IsGrafted (old new : Heap) (root : ℕ) (was is : Branch Node) (ring spare after left : List ℕ) : Type 0 where
  pub offset : is.offset ≡ was.offset
  pub alike : IsAlike was.node is.node
  pub stands : StandsIn new root is
  pub count : (offset : ℕ) → allocated new offset + (total_of (owns offset) was + times offset ring + times offset spare) ≡
      allocated old offset + (total_of (owns offset) is + times offset after + times offset left)
  pub same : (offset : ℕ) → 0 < allocated old offset → total_of (owns offset) was ≡ 0 → times offset spare ≡ 0 →
      times offset ring ≡ 0 → new offset ≡ old offset
  pub closed : IsRing new after
  pub described : (offset : ℕ) → 0 < times offset ring → 0 < times offset after → descriptor_at new offset ≡ descriptor_at old offset
  pub used : (offset : ℕ) → 0 < times offset after → 0 < uses_in new after offset
  pub recounted : (offset : ℕ) → uses_in new after offset + total_of (shares offset) was ≡ uses_in old ring offset + total_of (shares offset) is

-- the same where the ring keeps its securities, and each of them is named before and after: their counts alone change
pub record IsGraftedInRing (old new : Heap) (root : ℕ) (was is : Branch Node) (ring spare left : List ℕ) : Type 0 where
  pub offset : is.offset ≡ was.offset
  pub alike : IsAlike was.node is.node
  pub stands : StandsIn new root is
  pub count : (offset : ℕ) → allocated new offset + (total_of (owns offset) was + times offset spare) ≡ allocated old offset +
      (total_of (owns offset) is + times offset left)
  pub same : (offset : ℕ) → 0 < allocated old offset → total_of (owns offset) was ≡ 0 → times offset spare ≡ 0 →
      times offset ring ≡ 0 → new offset ≡ old offset
  pub securities : (offset : ℕ) → 0 < total_of (shares offset) is ↔ 0 < total_of (shares offset) was
  pub recounted : (offset : ℕ) → 0 < times offset ring → IsRecounted old new (total_of (shares offset) was) (total_of (shares offset) is) offset

-- the key at an index is this one, and no key is below it
abbrev pub IsLeafAt : ℕ → ℕ → Node → Forest Node → Type 0
IsLeafAt n offset node End = ⊥
IsLeafAt zero offset node (Hangs other key below beside) = (other ≡ offset) × (key ≡ node) × (below ≡ End)
IsLeafAt (suc n) offset node (Hangs other key below beside) = IsLeafAt n offset node beside
