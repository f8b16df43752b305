-- The ring of key securities, and how one is found by its descriptor (Suhanov, Windows registry file format specification, section
-- "Key security").
use Rattle.std.specs.Prelude.{◌≡◌, ◌≢◌, ℕ, ◌+◌, ◌<◌, Bool, true, false, if◌then◌else◌, bytes_eq, Option, Some, None, IsSome, List, [], ◌∷◌, ◌++◌, length, drop, is_some, refl}
use Rattle.std.specs.Ordering.{nat_cmp}
use Rattle.std.specs.Cmp.Lexicographic.{slice_cmp}
use Rattle.std.specs.BTreeMap.{is_at}
use Rattle.std.specs.Map.{lookup}
use Rattle.std.specs.Coded.{Coded, code_by, coded×, coded_ℕ, coded_list}
use Rattle.reg_heap.specs.Heaps.{Heap, CellFrame, Writes}
use Rattle.reg_heap.specs.Kinds.{times}
use Rattle.reg_heap.specs.Paths.{coded_bytes}
use Rattle.reg_records.specs.RecordCells.{held}
use Rattle.reg_records.specs.KeySecurities.{KeySecurityRecord, security_at, sk_bytes, IsPlainSecurity}
use Rattle.reg_shape.specs.Whole.{IsRing, descriptor_at, count_at}

-- descriptors, each with the offset of its security's cell
pub record DescriptorCells : Type 0 where
  pub entries : List (List ℕ × ℕ)

abbrev pub coded_cells : Coded DescriptorCells
coded_cells = code_by (List (List ℕ × ℕ)) (coded_list (coded× coded_bytes coded_ℕ)) (λ t. t.entries) (λ es. record { entries = es }) (λ _. refl)

-- the cell that is noted for a descriptor
abbrev pub cell_of : DescriptorCells → List ℕ → Option ℕ
cell_of table descriptor = lookup (is_at (slice_cmp nat_cmp descriptor)) table.entries

-- another cell, or none, is noted for a descriptor, and the same for each other one
abbrev pub Notes : (List ℕ → Option ℕ) → List ℕ → Option ℕ → (List ℕ → Option ℕ) → Type 0
Notes before descriptor cell after = (other : List ℕ) → after other ≡ (if bytes_eq descriptor other then cell else before other)

-- room was made for a descriptor that had no cell, or it has one and nothing changed
abbrev pub MakesReady : DescriptorCells → List ℕ → Bool → DescriptorCells → Type 0
MakesReady before descriptor true after = (cell_of before descriptor ≡ None) × Notes (cell_of before) descriptor (Some 0) (cell_of after)
MakesReady before descriptor false after = (after ≡ before) × IsSome (cell_of before descriptor)

-- a security of the ring describes this
abbrev pub Describes : Heap → List ℕ → ℕ → List ℕ → Type 0
Describes heap ring cell descriptor = (0 < times cell ring) × (descriptor_at heap cell ≡ Some descriptor)

-- the table finds each security of the ring by its descriptor, and nothing else
pub record Finds (table : DescriptorCells) (heap : Heap) (ring : List ℕ) : Type 0 where
  pub found : (descriptor : List ℕ) (cell : ℕ) → cell_of table descriptor ≡ Some cell → Describes heap ring cell descriptor
  pub listed : (descriptor : List ℕ) (cell : ℕ) → Describes heap ring cell descriptor → cell_of table descriptor ≡ Some cell

-- the table finds each security of the ring, and has room for one with this descriptor, which none of them has
pub record Expects (table : DescriptorCells) (heap : Heap) (ring : List ℕ) (descriptor : List ℕ) : Type 0 where
  pub found : (other : List ℕ) (cell : ℕ) → other ≢ descriptor → cell_of table other ≡ Some cell → Describes heap ring cell other
  pub listed : (other : List ℕ) (cell : ℕ) → Describes heap ring cell other → cell_of table other ≡ Some cell
  pub room : IsSome (cell_of table descriptor)
  pub free : (cell : ℕ) → 0 < times cell ring → descriptor_at heap cell ≢ Some descriptor

-- a security of the ring, or none where the ring is empty
abbrev pub IsNear : List ℕ → Option ℕ → Type 0
IsNear ring None = ring ≡ []
IsNear ring (Some cell) = 0 < times cell ring

-- a security counts more keys or fewer, and no other cell changed
pub record Recounts (old new : Heap) (cell : ℕ) (change : ℕ → ℕ) : Type 0 where
  pub reads : (s : KeySecurityRecord) → security_at old cell ≡ Some s →
      security_at new cell ≡ Some (record s { fields = record s.fields { count = change s.fields.count } })
  pub plain : IsPlainSecurity (held old cell) → IsPlainSecurity (held new cell)
  pub others : (offset : ℕ) → offset ≢ cell → new offset ≡ old offset

-- a cell is there as it was, and holds as many bytes, the same ones behind where a security has its neighbours
pub record IsRelinked (old new : Heap) (cell : ℕ) : Type 0 where
  pub there : is_some (new cell) ≡ is_some (old cell)
  pub long : length (held new cell) ≡ length (held old cell)
  pub rest : drop 12 (held new cell) ≡ drop 12 (held old cell)

-- a security that counts one key stands at the start of a cell, behind whatever neighbours; what follows it there stays
pub record IsPut (old new : Heap) (cell : ℕ) (descriptor : List ℕ) : Type 0 where
  pub flink : ℕ
  pub blink : ℕ
  pub holds : new cell ≡
      Some (sk_bytes (record { flink = flink; blink = blink; count = 1 }) descriptor ++ drop (20 + length descriptor) (held old cell))

-- a security describes the same as before, and counts as many keys
pub record IsSameSecurity (old new : Heap) (cell : ℕ) : Type 0 where
  pub descriptor : descriptor_at new cell ≡ descriptor_at old cell
  pub count : count_at new cell ≡ count_at old cell

-- a security came into the ring, in a cell that was none of it: it describes this, and one key uses it; those of the ring are the
-- same but for their neighbours, and no other cell changed
pub record IsAdded (old new : Heap) (ring : List ℕ) (cell : ℕ) (descriptor : List ℕ) : Type 0 where
  pub after : List ℕ
  pub closed : IsRing new after
  pub members : (offset : ℕ) → times offset after ≡ times offset ring + times offset (cell ∷ [])
  pub describes : descriptor_at new cell ≡ Some descriptor
  pub count : count_at new cell ≡ Some 1
  pub same : (offset : ℕ) → 0 < times offset ring → IsSameSecurity old new offset
  pub frame : Writes old new (cell ∷ ring)

-- a security left the ring, and its cell was freed; the others are the same but for their neighbours, and no other cell changed
pub record IsRemoved (old new : Heap) (ring : List ℕ) (cell : ℕ) : Type 0 where
  pub after : List ℕ
  pub closed : IsRing new after
  pub members : (offset : ℕ) → times offset after + times offset (cell ∷ []) ≡ times offset ring
  pub same : (offset : ℕ) → 0 < times offset after → IsSameSecurity old new offset
  pub frame : CellFrame old new (λ offset. times offset ring) (λ offset. times offset after)
