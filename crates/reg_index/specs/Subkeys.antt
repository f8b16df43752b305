-- A key's subkeys (Suhanov, Windows registry file format specification, "Subkeys list"), in the order of their folded names.
use Rattle.std.specs.Prelude.{◌≡◌, ℕ, suc, ◌+◌, ◌*◌, ◌<◌, ◌≤◌, ◌==◌, nat_le, if◌then◌else◌, Option, Some, None, IsSome, unwrap_or, Result, Ok, Err, List}
use Rattle.std.specs.Prelude.{[], ◌∷◌, ◌++◌, length, map, flat_map, take, drop, get_or}
use Rattle.std.specs.List.{AllByRecursion}
use Rattle.std.specs.Ordering.{nat_cmp}
use Rattle.std.specs.declared.cmp.Ordering.TheVariants.{Less}
use Rattle.std.specs.Cmp.Lexicographic.{slice_cmp}
use Rattle.reg_names.specs.Names.{folded, hash}
use Rattle.reg_heap.specs.declared.limits.TheConstants.{NONE, LEAF_LIMIT}
use Rattle.reg_heap.specs.Heaps.{Heap, CellFrame}
use Rattle.reg_heap.specs.Kinds.{times}
use Rattle.reg_arena.specs.NewCells.{cell_size}
use Rattle.reg_index.specs.declared.Place.{Place}
use Rattle.reg_index.specs.declared.IndexCells.{IndexCells}
use Rattle.reg_index.specs.declared.plan.TheConstants.{FIRST_LIST_SIZE, FIRST_HALF, SECOND_HALF}
use Rattle.reg_records.specs.RecordCells.{held}
use Rattle.reg_records.specs.KeyNodes.{KeyRecord, key_at}
use Rattle.reg_records.specs.SubkeyLists.{Entry}
use Rattle.reg_records.specs.declared.lists.ListForm.TheVariants.{HashLeaf}
use Rattle.reg_shape.specs.Nodes.{KeyList, Index, index_at, lists_of, entries_of}
use Rattle.reg_shape.specs.Nodes.Index.{Unlisted, Listed, Rooted}
use Rattle.reg_shape.specs.Written.{IsWrittenIndex}

-- the name of a key, empty where there is none
abbrev pub name_or_none : Option KeyRecord → List ℕ
name_or_none None = []
name_or_none (Some key) = key.name

-- the name of the key at an offset
abbrev pub name_at : Heap → ℕ → List ℕ
name_at heap key = name_or_none (key_at heap key)

-- the folded names of the keys that a list names
abbrev pub names_in : Heap → List Entry → List (List ℕ)
names_in heap entries = map (λ (e : Entry). folded (name_at heap e.offset)) entries

-- each before those behind it, byte by byte
abbrev pub Rises : List (List ℕ) → Type 0
Rises names = (i j : ℕ) → i < j → j < length names → slice_cmp nat_cmp (get_or names i []) (get_or names j []) ≡ Less

-- a key has these subkeys, so many: the entries of all lists of the index that its key node names, which is as it is written, each a
-- key with the hash of its name, rising; without subkeys there is no list
pub record AreSubkeys (heap : Heap) (count offset : ℕ) (entries : List Entry) : Type 0 where
  pub index : Index
  pub read : index_at heap count offset ≡ Some index
  pub written : IsWrittenIndex index
  pub entries_are : entries_of index ≡ entries
  pub number : length entries ≡ count
  pub unlisted : count ≡ 0 → offset ≡ NONE
  pub keys : AllByRecursion (λ (e : Entry). IsSome (key_at heap e.offset)) entries
  pub hashes : AllByRecursion (λ (e : Entry). e.hint ≡ hash (name_at heap e.offset)) entries
  pub rising : Rises (names_in heap entries)

-- where a folded name stands among rising names, or where it belongs
abbrev pub IsIndexFor : List (List ℕ) → List ℕ → Result ℕ ℕ → Type 0
IsIndexFor names name (Ok index) = (index < length names) × (get_or names index [] ≡ name)
IsIndexFor names name (Err index) =
    (index ≤ length names)
    × ((k : ℕ) → k < index → slice_cmp nat_cmp (get_or names k []) name ≡ Less)
    × ((k : ℕ) → index ≤ k → k < length names → slice_cmp nat_cmp name (get_or names k []) ≡ Less)

-- the key of a folded name among entries whose names rise, or none where no entry has the name
abbrev pub IsKeyNamed : Heap → List Entry → List ℕ → Option ℕ → Type 0
IsKeyNamed heap entries name (Some key) =
    (index : ℕ) × IsIndexFor (names_in heap entries) name (Ok index) × ((get_or entries index (record { offset = 0; hint = 0 })).offset ≡ key)
IsKeyNamed heap entries name None = (index : ℕ) × IsIndexFor (names_in heap entries) name (Err index)

-- the entry of a key: its offset, and the hash of its name
abbrev pub entry_for : Heap → ℕ → Entry
entry_for heap key = record { offset = key; hint = hash (name_at heap key) }

abbrev pub with_one : ℕ → Entry → List Entry → List Entry
with_one index entry entries = take index entries ++ entry ∷ drop index entries

abbrev pub without : ℕ → List Entry → List Entry
without index entries = take index entries ++ drop (index + 1) entries

-- the cells of an index: those of its lists, and before them the root's where it has one
abbrev pub cells_of_index : Index → List ℕ
cells_of_index Unlisted = []
cells_of_index (Listed list) = list.offset ∷ []
cells_of_index (Rooted offset lists) = offset ∷ map (λ (list : KeyList). list.offset) lists

-- the index that a key node's number and list name
abbrev pub index_of : Heap → ℕ → ℕ → Index
index_of heap count offset = unwrap_or (index_at heap count offset) Unlisted

-- the cells of the index that a key node's number and list name
abbrev pub own : Heap → ℕ → ℕ → List ℕ
own heap count offset = cells_of_index (index_of heap count offset)

-- ---- places

-- no list of keys
abbrev pub no_list : KeyList
no_list = record { offset = NONE; list = record { form = HashLeaf; entries = [] } }

-- the list of a number among lists, counted from 0
abbrev pub numbered : ℕ → List KeyList → KeyList
numbered number lists = get_or lists number no_list

-- the entries of lists, one list's behind the other's
abbrev pub entries_in : List KeyList → List Entry
entries_in lists = flat_map (λ (l : KeyList). l.list.entries) lists

-- the index among the entries of all lists that a place is: as many as the lists before have, and its own
abbrev pub flat_among : List KeyList → Place → ℕ
flat_among lists place = length (entries_in (take place.list lists)) + place.index

abbrev pub flat_in : Index → Place → ℕ
flat_in index place = flat_among (lists_of index) place

abbrev pub flat : Heap → ℕ → ℕ → Place → ℕ
flat heap count offset place = flat_in (index_of heap count offset) place

-- where a subkey may come to stand: in one of the lists, or behind its last; the first place where there is none
abbrev pub IsPlaceIn : Index → Place → Type 0
IsPlaceIn Unlisted place = (place.list ≡ 0) × (place.index ≡ 0)
IsPlaceIn index place = (place.list < length (lists_of index)) × (place.index ≤ length (numbered place.list (lists_of index)).list.entries)

-- where a subkey stands
abbrev pub StandsIn : Index → Place → Type 0
StandsIn index place = (place.list < length (lists_of index)) × (place.index < length (numbered place.list (lists_of index)).list.entries)

-- a place that was found, as an index among all entries
abbrev pub flat_found : Heap → ℕ → ℕ → Result Place Place → Result ℕ ℕ
flat_found heap count offset (Ok place) = Ok (flat heap count offset place)
flat_found heap count offset (Err place) = Err (flat heap count offset place)

-- ---- what becomes of the lists

-- the hash leaf of these entries in a cell
abbrev pub leaf_list : ℕ → List Entry → KeyList
leaf_list offset entries = record { offset = offset; list = record { form = HashLeaf; entries = entries } }

-- the index of these lists: none, one by itself, or several under an index root in this cell
abbrev pub index_under : ℕ → List KeyList → Index
index_under offset [] = Unlisted
index_under offset (list ∷ []) = Listed list
index_under offset (first ∷ second ∷ others) = Rooted offset (first ∷ second ∷ others)

-- lists of which the one of a number gave way to others; the rest stay, each in its cell
abbrev pub exchanged : ℕ → List KeyList → List KeyList → List KeyList
exchanged number others lists = take number lists ++ (others ++ drop (suc number) lists)

-- up to 500 entries are one list, in the cell that was carved for it or else where it was; more are two in the cells that were carved for
-- them, of the first 250 and of the others
abbrev pub parted : IndexCells → ℕ → List Entry → List KeyList
parted cells offset entries =
    if nat_le (length entries) LEAF_LIMIT then leaf_list (unwrap_or cells.list offset) entries ∷ []
    else leaf_list (unwrap_or cells.list NONE) (take FIRST_HALF entries) ∷ leaf_list (unwrap_or cells.second NONE) (drop FIRST_HALF entries) ∷ []

-- lists with an entry put in at a place of one of them; the first list of all stands in the cell that was carved for it
abbrev pub lists_with : Place → Entry → IndexCells → List KeyList → List KeyList
lists_with place entry cells [] = leaf_list (unwrap_or cells.list NONE) (entry ∷ []) ∷ []
lists_with place entry cells (first ∷ others) =
    let list : KeyList = numbered place.list (first ∷ others) in
    exchanged place.list (parted cells list.offset (with_one place.index entry list.list.entries)) (first ∷ others)

-- what is left of a list, in its cell: nothing where it has no entries
abbrev pub left_over : ℕ → List Entry → List KeyList
left_over offset [] = []
left_over offset (e ∷ es) = leaf_list offset (e ∷ es) ∷ []

-- lists without the entry at a place of one of them
abbrev pub lists_without : Place → List KeyList → List KeyList
lists_without place lists =
    let list : KeyList = numbered place.list lists in
    exchanged place.list (left_over list.offset (without place.index list.list.entries)) lists

-- ---- the cells that one subkey more takes

-- the size of the cell of a list of so many subkeys, and of an index root of so many lists, as they are made
abbrev pub list_size : ℕ → ℕ
list_size number = 8 + 8 * number

abbrev pub root_size : ℕ → ℕ
root_size number = cell_size (4 + 4 * number)

-- of a list with an entry more: none where its cell has room
abbrev pub grown_size : Heap → KeyList → Option ℕ
grown_size heap list =
    if nat_le (4 + 8 * suc (length list.list.entries)) (length (held heap list.offset)) then None
    else Some (list_size (suc (length list.list.entries)))

-- of an index root with a list more: none where its cell has room
abbrev pub root_sizes : Heap → Index → Option ℕ
root_sizes heap Unlisted = None
root_sizes heap (Listed list) = Some (root_size 2)
root_sizes heap (Rooted offset lists) =
    if nat_le (4 + 4 * suc (length lists)) (length (held heap offset)) then None else Some (root_size (suc (length lists)))

-- a full list gives way to two; one with fewer entries stays in its cell, or comes into one of its size
abbrev pub sizes_in : Heap → Index → ℕ → IndexCells
sizes_in heap Unlisted number = record { list = Some FIRST_LIST_SIZE; second = None; root = None }
sizes_in heap index number =
    if length (numbered number (lists_of index)).list.entries == LEAF_LIMIT
    then record { list = Some (list_size FIRST_HALF); second = Some (list_size SECOND_HALF); root = root_sizes heap index }
    else record { list = grown_size heap (numbered number (lists_of index)); second = None; root = None }

-- the sizes of the cells that a subkey at a place takes
unfoldable pub insert_sizes : Heap → ℕ → ℕ → Place → IndexCells
insert_sizes heap count offset place = sizes_in heap (index_of heap count offset) place.list

-- the cell that was carved, where one was
abbrev pub taken : Option ℕ → List ℕ
taken None = []
taken (Some cell) = cell ∷ []

-- the cells that were carved for an insert
abbrev pub each_of : IndexCells → List ℕ
each_of cells = taken cells.list ++ taken cells.second ++ taken cells.root

-- a cell was carved just where one is planned; it has the size that is needed, and holds no key
abbrev pub IsReadyCell : Heap → Option ℕ → Option ℕ → Type 0
IsReadyCell heap None None = Unit {0}
IsReadyCell heap None (Some cell) = ⊥
IsReadyCell heap (Some size) None = ⊥
IsReadyCell heap (Some size) (Some cell) = IsSome (heap cell) × (length (held heap cell) + 4 ≡ size) × (key_at heap cell ≡ None)

pub record IsReady (heap : Heap) (plan cells : IndexCells) : Type 0 where
  pub list : IsReadyCell heap plan.list cells.list
  pub second : IsReadyCell heap plan.second cells.second
  pub root : IsReadyCell heap plan.root cells.root

-- each cell that is there now was there before, and holds as many bytes
abbrev pub KeepsCells : Heap → Heap → Type 0
KeepsCells old new = (offset : ℕ) → IsSome (new offset) → IsSome (old offset) × (length (held new offset) ≡ length (held old offset))

-- the index's cells of before, and those carved for it, gave way to the index's cells of now; nothing else changed
abbrev pub Moves : Heap → Heap → List ℕ → List ℕ → Type 0
Moves old new before after = CellFrame old new (λ z. times z before) (λ z. times z after)
