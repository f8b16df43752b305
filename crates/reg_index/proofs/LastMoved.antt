-- The last list of an index moved to another cell.
use Rattle.std.proofs.Common.{◌≡◌, ℕ, suc, ◌+◌, ◌-◌, ◌*◌, ◌<◌, ◌≤◌, IsSome, None, List, [], ◌∷◌, ◌++◌, length, take, drop, refl, sym, ap, ◌∙◌, subst, arith}
use Rattle.std.proofs.lemmas.Bool.{false≢true}
use Rattle.std.proofs.lemmas.List.{length-map}
use Rattle.reg_heap.specs.Heaps.{Heap, Writes}
use Rattle.reg_heap.specs.Kinds.{times}
use Rattle.reg_records.specs.KeyNodes.{key_at}
use Rattle.reg_records.specs.RecordCells.{HasRoom}
use Rattle.reg_records.specs.SubkeyLists.{Entry}
use Rattle.reg_shape.specs.Nodes.{KeyList, lists_of}
use Rattle.reg_index.specs.Lengthening.{last_list, last_moved, last_of}
use Rattle.reg_index.specs.Subkeys.{AreSubkeys, Moves, entries_in, index_of, index_under, leaf_list, numbered, own}
use Rattle.reg_index.specs.Internal.HashLeaves.{IsLeaf}
use Rattle.reg_index.specs.Internal.IndexLists.{AreExchanged, HasRoomForLast, IsRoot, Stands, cells_under, offsets_of}
use Rattle.reg_index.proofs.CellCounts.{times-append, times-here, times-self}
use Rattle.reg_index.proofs.EntriesExchanged.{entries-exchanged, leaf-entries}
use Rattle.reg_index.proofs.EntryTaken.{length-one}
use Rattle.reg_index.proofs.FoundPlaces.{lists-some}
use Rattle.reg_index.proofs.ListPlaces.{leaf-of, list-stands, split-entries}
use Rattle.reg_index.proofs.ListsExchanged.{cells-are, exchange, exchanged-parted, head-two, list-stays, offsets-exchanged, offsets-parted, root-apart, root-stands, root-still, roots-some, roots-two}
use Rattle.reg_index.proofs.ListsParted.{under-same}
use Rattle.reg_index.proofs.SubkeysExchanged.{moves-exchanged, subkeys-exchanged}
use Rattle.reg_index.proofs.SubkeysFrame.{times-not}
use Rattle.reg_index.proofs.SubkeysOnce.{cells-there, own-cells}
use Rattle.reg_index.proofs.SubkeysOpening.{index-is, index-under, keys-of, lists-has}

-- ---- the cells

module _ (h0 : Heap) (offset leaf cell number : ℕ) (lists : List KeyList) (r : HasRoomForLast h0 offset lists cell) (number_is : number ≡ length lists - 1)
    (found : (numbered number lists).offset ≡ leaf) where
  there : length lists - 1 < length lists
  there = omega (arith, r.some)

  is : (last_of lists).offset ≡ leaf
  is = ap (λ n. (numbered n lists).offset) (sym number_is) ∙ found

  -- the cell that was carved is not the list's
  pub cell-apart : cell ≡ leaf → ⊥
  cell-apart same = absurd (omega (
    arith,
    r.once cell,
    times-append cell (cells_under offset lists) (cell ∷ []),
    times-self cell [],
    cells-are offset lists cell,
    offsets-parted lists (length lists - 1) there cell,
    times-here cell (last_of lists).offset [] (is ∙ sym same),
  ))

  pub last-entries : IsLeaf h0 leaf (last_of lists).list.entries
  last-entries = leaf-of h0 offset lists (length lists - 1) leaf r.lists_are there is

  module _ (h1 : Heap) (two : 2 ≤ length lists) (moved : Moves h0 h1 (leaf ∷ cell ∷ []) (cell ∷ [])) where
    apart : times offset (leaf ∷ cell ∷ []) ≡ 0
    apart = subst (λ o. times offset (o ∷ cell ∷ []) ≡ 0) is (root-apart offset (length lists - 1) lists (cell ∷ []) two there r.once)

    -- the root is as it was
    pub root-waits : IsRoot h1 offset (offsets_of lists)
    root-waits = root-still h0 h1 (λ z. times z (leaf ∷ cell ∷ [])) (λ z. times z (cell ∷ [])) offset (offsets_of lists) moved apart (root-stands h0 offset lists r.lists_are two)

    pub root-waits-for : (offsets : List ℕ) × IsRoot h1 offset offsets × (number < length offsets)
    root-waits-for = (offsets_of lists, root-waits, omega (arith, length-map lists (λ (list : KeyList). list.offset), there, number_is))

    here : (z : ℕ) → times z ((last_of lists).offset ∷ cell ∷ []) ≡ times z (leaf ∷ cell ∷ [])
    here z = ap (λ o. times z (o ∷ cell ∷ [])) is

    cell-no-root : times cell (offset ∷ []) ≡ 0
    cell-no-root = omega (
      arith,
      r.once cell,
      times-append cell (cells_under offset lists) (cell ∷ []),
      times-self cell [],
      cells-are offset lists cell,
      ap (times cell) (roots-two offset lists two),
    )

    module _ (h2 : Heap) (w : Writes h1 h2 (offset ∷ [])) (put : IsLeaf h1 cell (last_of lists).list.entries)
        (root : IsRoot h2 offset (take number (offsets_of lists) ++ cell ∷ drop (suc number) (offsets_of lists))) where
      abbrev others : List KeyList
      others = leaf_list cell (last_of lists).list.entries ∷ []

      stand : Stands h2 (leaf_list cell (last_of lists).list.entries)
      stand =
          let l = (list-stands h0 offset lists (length lists - 1) r.lists_are there).written in
          record {
            leaf = list-stays h1 h2 cell _ (w.same cell cell-no-root cell-no-root) put;
            written = record { form = refl; some = l.some; few = l.few };
          }

      long : 2 ≤ length (last_moved cell lists)
      long = omega (arith, length-one (length lists - 1) (leaf_list cell (last_of lists).list.entries) lists there, two)

      pub last-under : AreExchanged h0 h2 offset lists offset (last_moved cell lists) (cell ∷ [])
      last-under =
          exchange h0 h2 offset offset (length lists - 1) lists others (cell ∷ []) there r.lists_are r.once
          (record {
            count = λ z. omega (
              arith,
              moved.count z,
              w.count z,
              here z,
              roots-some offset lists ((last_of lists).offset ∷ cell ∷ []) two z,
              roots-some offset (last_moved cell lists) (offsets_of others) long z,
            );
            same = λ z gone came.
                let a = roots-some offset lists ((last_of lists).offset ∷ cell ∷ []) two z in
                let b = roots-some offset (last_moved cell lists) (offsets_of others) long z in
                w.same z (omega (arith, gone, a)) (omega (arith, gone, a)) ∙ moved.same z (omega (arith, gone, a, here z)) (omega (arith, came, b));
          })
          (stand, tt)
          (head-two h2 offset (last_moved cell lists) long
          (subst (IsRoot h2 offset) ((λ i. take (number_is i) (offsets_of lists) ++ cell ∷ drop (suc (number_is i)) (offsets_of lists)) ∙ sym (offsets-exchanged (length lists - 1) others lists))
          root))

-- ---- the subkeys

module _ (old : Heap) (count offset cell : ℕ) (some : 0 < count) (room : HasRoom old cell (4 + 8 * length (last_list (index_of old count offset)).list.entries))
    (bare : key_at old cell ≡ None) (once : (z : ℕ) → times z (own old count offset ++ cell ∷ []) ≤ 1) (entries : List Entry) (s : AreSubkeys old count offset entries) where
  is_index : lists_of (index_of old count offset) ≡ lists_of s.index
  is_index = ap lists_of (index-is old count offset s.index s.read)

  pub room-for-last : HasRoomForLast old offset (lists_of s.index) cell
  room-for-last = record {
    lists_are = lists-has old count offset entries s;
    some = lists-some old count offset entries s (λ none. absurd (omega (arith, none, some)));
    room = subst (λ lists. HasRoom old cell (4 + 8 * length (last_of lists).list.entries)) is_index room;
    once = λ z. omega (
      arith,
      once z,
      times-append z (own old count offset) (cell ∷ []),
      times-append z (cells_under offset (lists_of s.index)) (cell ∷ []),
      ap (times z) (own-cells old count offset entries s),
    );
  }

  -- no key is in the cell
  free : (z : ℕ) → IsSome (key_at old z) → times z (cell ∷ []) ≡ 0
  free z key = times-not z cell [] (λ same. false≢true (subst IsSome bare (subst (λ c. IsSome (key_at old c)) (sym same) key))) refl

  -- the entries are the same
  same : entries_in (last_moved cell (lists_of s.index)) ≡ entries
  same =
      let lists : List KeyList = lists_of s.index in
      let last : List Entry = (last_of lists).list.entries in
      entries-exchanged (length lists - 1) (leaf_list cell last ∷ []) lists
      ∙ (ap (λ es. entries_in (take (length lists - 1) lists) ++ (es ++ entries_in (drop (suc (length lists - 1)) lists))) (leaf-entries cell last)
      ∙ (sym (split-entries lists (length lists - 1) (omega (arith, room-for-last.some))) ∙ s.entries_are))

  module _ (new : Heap) (result : ℕ)
      (changed : (lists : List KeyList) → HasRoomForLast old offset lists cell → AreExchanged old new offset lists result (last_moved cell lists) (cell ∷ [])) where
    exchange_is : AreExchanged old new offset (lists_of s.index) result (last_moved cell (lists_of s.index)) (cell ∷ [])
    exchange_is = changed (lists_of s.index) room-for-last

    pub moved-subkeys : AreSubkeys new count result entries
    moved-subkeys =
        subkeys-exchanged old new count offset count result (cell ∷ []) entries entries (last_moved cell (lists_of s.index)) s exchange_is free same (keys-of old count offset entries s) s.number

    pub moved-moves : Moves old new (own old count offset ++ cell ∷ []) (own new count result)
    moved-moves =
        moves-exchanged old new count offset count result (cell ∷ []) entries entries (last_moved cell (lists_of s.index)) s exchange_is free same (keys-of old count offset entries s) s.number

    -- the root of several lists stays in its cell
    pub moved-indexed : ((lists : List KeyList) → HasRoomForLast old offset lists cell → 1 < length lists → result ≡ offset) →
        index_of new count result ≡ index_under offset (last_moved cell (lists_of (index_of old count offset)))
    moved-indexed at =
        index-under new count result (last_moved cell (lists_of s.index)) exchange_is.now (ap length same ∙ s.number)
        ∙ (under-same result offset (last_moved cell (lists_of s.index)) (λ l. at (lists_of s.index) room-for-last
        (omega (arith, l, length-one (length (lists_of s.index) - 1) (leaf_list cell (last_of (lists_of s.index)).list.entries) (lists_of s.index) (omega (arith, room-for-last.some)))))
        ∙ ap (λ lists. index_under offset (last_moved cell lists)) (sym is_index))

    pub moved-stay : IsSome (new cell)
    moved-stay =
        cells-there new result (last_moved cell (lists_of s.index)) exchange_is.now cell
        (omega (
          arith,
          cells-are result (last_moved cell (lists_of s.index)) cell,
          exchanged-parted (length (lists_of s.index) - 1) (leaf_list cell (last_of (lists_of s.index)).list.entries ∷ []) (lists_of s.index) cell,
          times-self cell [],
        ))
