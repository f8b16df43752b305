-- The lists of an index where they stand: none, one leaf, or an index root and its leaves (Suhanov, Windows registry file format
-- specification, "Subkeys list").
use Rattle.std.specs.Prelude.{◌≡◌, ◌≢◌, ℕ, suc, ◌+◌, ◌*◌, ◌<◌, ◌≤◌, Option, Some, None, IsSome, unwrap_or, List, [], ◌∷◌, ◌++◌, length, map, take, drop}
use Rattle.std.specs.List.{AllByRecursion}
use Rattle.reg_names.specs.Names.{hash}
use Rattle.reg_heap.specs.declared.limits.TheConstants.{NONE, LEAF_LIMIT}
use Rattle.reg_heap.specs.Heaps.{Heap}
use Rattle.reg_heap.specs.Kinds.{times}
use Rattle.reg_records.specs.declared.lists.ListForm.TheVariants.{IndexRoot}
use Rattle.reg_records.specs.RecordCells.{HasRoom, held}
use Rattle.reg_records.specs.KeyNodes.{key_at}
use Rattle.reg_records.specs.SubkeyLists.{Entry}
use Rattle.reg_shape.specs.Nodes.{KeyList, list_at, lists_of}
use Rattle.reg_shape.specs.Written.{IsWrittenList}
use Rattle.reg_index.specs.declared.Place.{Place}
use Rattle.reg_index.specs.declared.IndexCells.{IndexCells}
use Rattle.reg_index.specs.declared.plan.TheConstants.{FIRST_HALF, SECOND_HALF}
use Rattle.reg_index.specs.Internal.HashLeaves.{IsLeaf}
use Rattle.reg_index.specs.Lengthening.{last_of}
use Rattle.reg_index.specs.Subkeys.{Moves, Rises, cells_of_index, each_of, entries_in, flat, index_of, index_under, leaf_list, lists_with, name_at, names_in, numbered, taken, with_one}

-- each entry is that of a key with the hash of its name, and the names rise
pub record AreKeys (heap : Heap) (entries : List Entry) : Type 0 where
  pub keys : AllByRecursion (λ (e : Entry). IsSome (key_at heap e.offset)) entries
  pub hashes : AllByRecursion (λ (e : Entry). e.hint ≡ hash (name_at heap e.offset)) entries
  pub rising : Rises (names_in heap entries)

-- ---- where lists stand

-- an index root's entry for the list at an offset
abbrev pub plain : ℕ → Entry
plain offset = record { offset = offset; hint = 0 }

-- an index root of lists at these offsets stands in the cell
abbrev pub IsRoot : Heap → ℕ → List ℕ → Type 0
IsRoot heap cell offsets = list_at heap cell ≡ Some (record { form = IndexRoot; entries = map plain offsets })

-- a list of keys as it is written stands in its cell
pub record Stands (heap : Heap) (list : KeyList) : Type 0 where
  pub leaf : IsLeaf heap list.offset list.list.entries
  pub written : IsWrittenList list

abbrev pub offsets_of : List KeyList → List ℕ
offsets_of lists = map (λ (list : KeyList). list.offset) lists

-- a key that names this offset has these lists: none, one leaf there, or the leaves of an index root there
abbrev pub HasLists : Heap → ℕ → List KeyList → Type 0
HasLists heap offset [] = offset ≡ NONE
HasLists heap offset (list ∷ []) = (list.offset ≡ offset) × Stands heap list
HasLists heap offset (first ∷ second ∷ others) =
    IsRoot heap offset (offsets_of (first ∷ second ∷ others)) × AllByRecursion (Stands heap) (first ∷ second ∷ others)

-- the cells of the index of these lists
abbrev pub cells_under : ℕ → List KeyList → List ℕ
cells_under offset lists = cells_of_index (index_under offset lists)

abbrev pub StandsAmong : List KeyList → Place → Type 0
StandsAmong lists place = (place.list < length lists) × (place.index < length (numbered place.list lists).list.entries)

-- ---- a change of them

-- from old to new these lists gave way to others; the cells of before, and some that were carved, gave way to those of now, and
-- nothing else changed
pub record AreExchanged (old new : Heap) (before : ℕ) (lists : List KeyList) (after : ℕ) (others : List KeyList) (carved : List ℕ) : Type 0 where
  pub now : HasLists new after others
  pub moves : Moves old new (cells_under before lists ++ carved) (cells_under after others)

-- in a cell, or in another one that was carved for it, there is room for so many bytes
abbrev pub HasRoomFor : Heap → ℕ → Option ℕ → ℕ → Type 0
HasRoomFor heap cell None size = size ≤ length (held heap cell)
HasRoomFor heap cell (Some fresh) size = HasRoom heap fresh size × (fresh ≢ cell)

-- no cell is met twice
abbrev pub IsOnce : List ℕ → Type 0
IsOnce cells = (z : ℕ) → times z cells ≤ 1

-- the list at a place is not full, and it has room for an entry more, in its cell or in one that was carved for it
pub record HasRoomAt (heap : Heap) (offset : ℕ) (lists : List KeyList) (place : Place) (fresh : Option ℕ) : Type 0 where
  pub lists_are : HasLists heap offset lists
  pub within : place.list < length lists
  pub index : place.index ≤ length (numbered place.list lists).list.entries
  pub few : length (numbered place.list lists).list.entries < LEAF_LIMIT
  pub room : HasRoomFor heap (numbered place.list lists).offset fresh (4 + 8 * suc (length (numbered place.list lists).list.entries))
  pub once : IsOnce (cells_under offset lists ++ taken fresh)

-- the list at a place with an entry more there, in its cell or in one that was carved for it
abbrev pub grown : KeyList → Option ℕ → ℕ → Entry → KeyList
grown list fresh index entry = leaf_list (unwrap_or fresh list.offset) (with_one index entry list.list.entries)

-- there are lists, and a cell that was carved has room for the entries of the last
pub record HasRoomForLast (heap : Heap) (offset : ℕ) (lists : List KeyList) (cell : ℕ) : Type 0 where
  pub lists_are : HasLists heap offset lists
  pub some : 0 < length lists
  pub room : HasRoom heap cell (4 + 8 * length (last_of lists).list.entries)
  pub once : IsOnce (cells_under offset lists ++ cell ∷ [])

-- an index root of two lists has room in a cell that was carved for it, and one of a list more in its cell or in such a one
abbrev pub HasRootRoom : Heap → ℕ → List KeyList → Option ℕ → Type 0
HasRootRoom heap cell (list ∷ []) None = ⊥
HasRootRoom heap cell (list ∷ []) (Some fresh) = HasRoom heap fresh 12
HasRootRoom heap cell lists fresh = HasRoomFor heap cell fresh (4 + 4 * suc (length lists))

-- the list at a place is full, and there is room for two in its stead
pub record HasRoomForTwo (heap : Heap) (offset : ℕ) (lists : List KeyList) (place : Place) (first second : ℕ) (root : Option ℕ) : Type 0 where
  pub lists_are : HasLists heap offset lists
  pub within : place.list < length lists
  pub few_lists : suc (length lists) < 65536
  pub index : place.index ≤ length (numbered place.list lists).list.entries
  pub full : length (numbered place.list lists).list.entries ≡ LEAF_LIMIT
  pub first_room : HasRoom heap first (4 + 8 * FIRST_HALF)
  pub second_room : HasRoom heap second (4 + 8 * SECOND_HALF)
  pub root_room : HasRootRoom heap offset lists root
  pub once : IsOnce (cells_under offset lists ++ first ∷ second ∷ taken root)

-- the two lists of the entries of one with an entry more
abbrev pub halves : ℕ → ℕ → List Entry → List KeyList
halves first second entries = leaf_list first (take FIRST_HALF entries) ∷ leaf_list second (drop FIRST_HALF entries) ∷ []

-- the lists of an index gave way to others that have an entry more among all, at a place; all cells that were carved are theirs, and the
-- root of several is in its cell, or in the one that was carved for it
pub record HasOneMore (old new : Heap) (count offset : ℕ) (place : Place) (entry : Entry) (entries : List Entry) (cells : IndexCells) (result : ℕ) : Type 0 where
  pub others : List KeyList
  pub others_are : others ≡ lists_with place entry cells (lists_of (index_of old count offset))
  pub exchanged : AreExchanged old new offset (lists_of (index_of old count offset)) result others (each_of cells)
  pub entries_are : entries_in others ≡ with_one (flat old count offset place) entry entries
  pub used : (z : ℕ) → times z (each_of cells) ≤ times z (cells_under result others)
  pub root : 1 < length others → result ≡ unwrap_or cells.root offset
